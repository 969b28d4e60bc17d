-- Cited by calls. What contracts see of a session that runs on a program's own threads, and what it keeps.
use Rattle.std.specs.Option.{option_map_or}
use Rattle.std.specs.Prelude.{ℕ, ◌≡◌, Bool, false, List, length, slice_get, slice_set, All, Option, Some, None, Result, MatchResult}
use Rattle.dspec_threads.specs.Homes.{Rank}
use Rattle.dspec_threads.specs.Places.{AllIn, AreAtPlaces, EachPair, NothingOrDone, Rests, ServesInside, StaysIn, Whereabouts}
use Rattle.dspec_threads.specs.Words.Outside.{EnabledRows, start_fault, IsUnusedConsumer, last_seat, set_up, CallsMade, called, no_calls, number_in, schema_of, words_of, Consuming, pairs_of}
use Rattle.dspec_threads.specs.Words.Outside.{view_of, PassesOn, MakesRound, IsOneListWith, ThenServed, Config, Batch, Cpu, Shared, Left}

-- its schema and configuration; of each CPU, in order, itself where its lane is back; whether what the lanes share was somebody else's when
-- it was to end; its consumer, and the sink, as it was at the start and as it is
pub record RunningSession (K : Type 0) : Type 0 where
  pub schema : EnabledRows
  pub config : Config
  pub home : List (Option (Cpu EnabledRows))
  pub held : Bool
  pub consumer : Consuming
  pub began : K
  pub sink : K

abbrev pub rank_of : Shared → EnabledRows → Consuming → Rank
rank_of shared schema x = record { shared = shared; schema = schema; pairs = pairs_of x }

-- The CPUs of a session of so many are there; its consumer took batches from the start on, and the sink got them.
pub record IsRun {K : Type 0} (gets : K → Batch → K → Type 0) (done : ℕ → CallsMade → Type 0) (shared : Shared) (schema : EnabledRows) (count : ℕ)
    (places : List Whereabouts) (consumer : Consuming) (began sink : K) : Type 0 where
  pub checked : start_fault (set_up (words_of shared)) ≡ None
  pub number : count ≡ (set_up (words_of shared)).cpus
  pub all : length places ≡ (set_up (words_of shared)).cpus
  pub placed : AreAtPlaces done (rank_of shared schema consumer) places
  pub first : Consuming
  pub first_view : view_of first ≡ last_seat (set_up (words_of shared))
  pub unused : All IsUnusedConsumer first.ends
  pub passes : PassesOn gets (words_of shared) first began consumer sink

-- what the calls of the CPU with this number did, where that is at home
abbrev pub called_home : List (Option (Cpu EnabledRows)) → ℕ → CallsMade
called_home home c = option_map_or (λ (o : Option (Cpu EnabledRows)). option_map_or (λ (cpu : Cpu EnabledRows). called cpu) o no_calls) (slice_get home c) no_calls

-- the calls are those of the CPU that is at home, with which nothing was done, or what is asked of one that is given back, and which served then
abbrev pub ByThoseHome : (ℕ → CallsMade → Type 0) → List (Option (Cpu EnabledRows)) → ℕ → CallsMade → CallsMade → Type 0
ByThoseHome done home c x y = ThenServed (NothingOrDone done) c x y × (y ≡ called_home home c)

-- After a look all CPUs are at home: who was there before is that still. By one list the session is closed, whose calls are theirs.
abbrev pub EndsHome : {K : Type 0} → (K → Batch → K → Type 0) → (ℕ → CallsMade → Type 0) → RunningSession K → List Left → K → Type 0
EndsHome gets done r left new =
    (looked : List (Option (Cpu EnabledRows))) × EachPair StaysIn r.home looked × AllIn looked × IsOneListWith r.schema gets (ByThoseHome done looked) r.config r.began left new

-- it was started just now, with this sink
pub record BeginsRun {K : Type 0} (k : Config) (schema : EnabledRows) (sink : K) (r : RunningSession K) : Type 0 where
  pub one : r.schema ≡ schema
  pub config : r.config ≡ k
  pub held : r.held ≡ false
  pub began : r.began ≡ sink
  pub now : r.sink ≡ sink

-- all CPUs are at home, of which no calls were made
pub record AreNew (count : ℕ) (schema : EnabledRows) (home : List (Option (Cpu EnabledRows))) : Type 0 where
  pub all : length home ≡ count
  pub each : (c : ℕ) (o : Option (Cpu EnabledRows)) → slice_get home c ≡ Some o
      → (cpu : Cpu EnabledRows) × (o ≡ Some cpu) × (number_in cpu ≡ c) × (schema_of cpu ≡ schema) × (no_calls ≡ called cpu)

-- a look later lanes may be back, and nothing else changed
pub record LooksLater {K : Type 0} (old new : RunningSession K) : Type 0 where
  pub same : record new { home = old.home } ≡ old
  pub home : EachPair StaysIn old.home new.home

-- after a look each CPU that was at home made a service, and nothing else changed
pub record TendsHome {K : Type 0} (old new : RunningSession K) : Type 0 where
  pub same : record new { home = old.home } ≡ old
  pub looked : List (Option (Cpu EnabledRows))
  pub later : EachPair StaysIn old.home looked
  pub serves : EachPair ServesInside looked new.home

-- After a look the CPU with this number, if it was at home, is the answer, and is out; or memory was refused, and it stays. Nothing else
-- changed.
pub record HandsLane {K E : Type 0} (c : ℕ) (a : Result (Option (Cpu EnabledRows)) E) (old new : RunningSession K) : Type 0 where
  pub same : record new { home = old.home } ≡ old
  pub looked : List (Option (Cpu EnabledRows))
  pub later : EachPair StaysIn old.home looked
  pub hands : MatchResult a (λ o. (o ≡ option_map_or (λ x. x) (slice_get looked c) None) × (new.home ≡ slice_set looked c None)) (λ _. new.home ≡ looked)

-- it is the lane of the CPU with this number, of which nothing was done but what is asked of one that was given back, and services
pub record IsLaneOf (done : ℕ → CallsMade → Type 0) (schema : EnabledRows) (c : ℕ) (cpu : Cpu EnabledRows) : Type 0 where
  pub number : number_in cpu ≡ c
  pub one : schema_of cpu ≡ schema
  pub rests : Rests done c (called cpu)

-- the consumer made a round, the sink got what came, and nothing else changed
pub record RoundMade {K : Type 0} (gets : K → Batch → K → Type 0) (old new : RunningSession K) : Type 0 where
  pub same : record new { consumer = old.consumer; sink = old.sink } ≡ old
  pub round : MakesRound gets old.config.cpus old.consumer old.sink new.consumer new.sink
