-- Believed. What the close of a session promises of each CPU, in the words of the page.
use Rattle.std.specs.Option.{option_map_or}
use Rattle.std.specs.Prelude.{ℕ, zero, suc, ◌≡◌, ◌≢◌, nat_lt, Bool, List, [], ◌∷◌, ◌++◌, length, map, reverse, slice_get, Option, Some, if◌then◌else◌}
use Rattle.dspec_session_core.specs.Words.Outside.{Record, Speculation, AtEachMoment, DecidedSoFar, all_did, Did, Promise, GivenOnce, HaveReasons, known, CallsMade, called, no_calls, settled_did}
use Rattle.dspec_session_core.specs.Words.Outside.{seat_of, IsSealed, waiting, BufferText, Shape, Config, Actor, CpuActor, Consumer, DecideFate, Deed, Seal, Settle, Report, Batch, Cpu}
use Rattle.dspec_session_core.specs.declared.left.Left.{Left}

-- what the calls of the CPU with this number did
abbrev pub called_at : {S : Type 0} → List (Cpu S) → ℕ → CallsMade
called_at cpus c = option_map_or (λ cpu. called cpu) (slice_get cpus c) no_calls

-- the deeds that its seat entered
abbrev pub entered_at : {S : Type 0} → List (Cpu S) → ℕ → List Deed
entered_at cpus c = option_map_or (λ cpu. (known (seat_of cpu)).own) (slice_get cpus c) []

-- the list has the deeds of these lists, and no others, and keeps the order of each
abbrev pub IsMixOf : (Actor → List Deed) → List Deed → Type 0
IsMixOf lists [] = (w : Actor) → lists w ≡ []
IsMixOf lists (d ∷ h) =
    (w : Actor) × (rest : Actor → List Deed) × (lists w ≡ d ∷ rest w) × ((v : Actor) → v ≢ w → lists v ≡ rest v) × IsMixOf rest h

-- the deeds of each in a session of so many CPUs: of a CPU its own, of the consumer its own
abbrev pub deeds_by : ℕ → (ℕ → List Deed) → List Deed → Actor → List Deed
deeds_by cpus own consumer (CpuActor c) = if nat_lt c cpus then own c else []
deeds_by cpus own consumer Consumer = consumer

-- these settlements as deeds of the CPU
abbrev pub settle_deeds : ℕ → List (Speculation × DecideFate) → List Deed
settle_deeds c ss = map (λ (s : Speculation × DecideFate). Settle c s.0 s.1) ss

-- the list, and in front of it what the close settled for each of the first n CPUs, CPU by CPU upwards
abbrev pub closed_up : (ℕ → List (Speculation × DecideFate)) → ℕ → List Deed → List Deed
closed_up closed zero h = h
closed_up closed (suc c) h = settle_deeds c (closed c) ++ closed_up closed c h

module _ (shape : ℕ → Option Shape) (accepted : Record → Bool) (text : Record → List ℕ) where
  -- the bytes of these batches, the oldest first, are the texts of these records in order, and each counts its own
  abbrev pub HoldRecords : List Batch → List Record → Type 0
  HoldRecords [] rs = rs ≡ []
  HoldRecords (b ∷ bs) rs =
      (first : List Record) × (rest : List Record) × BufferText shape accepted text 0 b.buffer.text first × (b.buffer.count ≡ length first) × (rs ≡ first ++ rest) × HoldRecords bs rest

  -- the list is what the CPU's seat entered, with a Seal for each of its batches that was sealed, the latest first, where it was sealed
  abbrev pub IsWithSeals : Config → ℕ → List Deed → List Batch → List Deed → Type 0
  IsWithSeals k c entered bs [] = (entered ≡ []) × (bs ≡ [])
  IsWithSeals k c entered bs (Seal a ∷ p) =
      (b : Batch) × (rest : List Batch) × (bs ≡ b ∷ rest) × IsSealed shape accepted text k c p b × IsWithSeals k c entered rest p
  IsWithSeals k c entered bs (d ∷ p) = (before : List Deed) × (entered ≡ d ∷ before) × IsWithSeals k c before bs p

  -- Of CPU c, whose calls did this: all that it did is that, and then what the close did of others' decisions; the records in its
  -- batches, in order, and its report keep the promise; and the report has the number of calls that were answered Worn.
  pub record IsPromised (cpus : ℕ) (all : ℕ → List Did) (c : ℕ) (calls : CallsMade) (closed : List (Speculation × DecideFate)) (batches : List Batch) (report : Report) : Type 0 where
    pub answered : all c ≡ settled_did closed ++ calls.done
    pub worn : report.worn ≡ calls.worn
    pub seen : List Record
    pub hold : HoldRecords batches seen
    pub promise : Promise cpus all c seen report

  -- In short, for whoever asks whether a record leaks or is lost: what each CPU did is what its calls did and, in front of that, what the
  -- close settled for it; and by what all of them did each CPU, of which this is left, is promised the page of these batches.
  pub record KeepsPage (cpus : ℕ) (calls : ℕ → CallsMade) (batches : ℕ → Left → List Batch) (left : List Left) : Type 0 where
    pub all : ℕ → List Did
    pub closed : ℕ → List (Speculation × DecideFate)
    pub each : (c : ℕ) (l : Left) → slice_get left c ≡ Some l → IsPromised cpus all c (calls c) (closed c) (batches c l) l.report

  -- One list has all that was done, and nothing else. Before the close it has what each CPU's seat entered, with its Seals, and what the
  -- consumer's seat entered. In front of all that stands what the close settled. Whatever was refused was refused for its reason, no
  -- identifier was given out twice, at each moment each record had a fate of which the decision was made by then, and by that list each
  -- CPU is promised this of its batches that were taken, and then those that are left.
  pub record IsPromisedBy (k : Config) (entered : ℕ → List Deed) (consumer : List Deed) (calls : ℕ → CallsMade) (taken : ℕ → List Batch) (left : List Left) : Type 0 where
    pub before : List Deed
    pub own : ℕ → List Deed
    pub nothing_else : IsMixOf (deeds_by k.cpus own consumer) before
    pub sealed : (c : ℕ) (l : Left) → slice_get left c ≡ Some l → IsWithSeals k c (entered c) (reverse (taken c ++ waiting l.rest)) (own c)
    pub closed : ℕ → List (Speculation × DecideFate)
    pub deeds : List Deed
    pub closing : deeds ≡ closed_up closed k.cpus before
    pub reasons : HaveReasons shape k deeds
    pub once : GivenOnce deeds
    pub always : AtEachMoment (DecidedSoFar k.cpus) deeds
    pub each : (c : ℕ) (l : Left) → slice_get left c ≡ Some l
        → IsPromised k.cpus (all_did deeds) c (calls c) (closed c) (taken c ++ waiting l.rest ++ l.last ∷ []) l.report
