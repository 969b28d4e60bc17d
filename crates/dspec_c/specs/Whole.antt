-- Cited by calls. What a session between its start and its end keeps of its parts.
use Rattle.std.specs.{Option.option_map, Option.option_map_or, Prelude.ℕ, Prelude.◌≡◌, Prelude.◌≤◌, Prelude.◌+◌, Prelude.◌⊎◌, Prelude.Bool, Prelude.true, Prelude.false, Prelude.List, Prelude.[]}
use Rattle.std.specs.{Prelude.◌∷◌, Prelude.Option, Prelude.Some, Prelude.None, Prelude.IsSome, Prelude.IsSomeAnd, Prelude.MatchBool, Prelude.⊤, Prelude.suc, Prelude.is_some, Prelude.length}
use Rattle.std.specs.{Prelude.map, Prelude.nat_lt, Prelude.slice_get, Prelude.slice_set, Prelude.vec_capacity, Prelude.vec_len, declared.vec.Vec.Vec}
use Rattle.dspec_c.specs.ConsumerHomes.{LeaveTheirs, TheirStay, Theirs}
use Rattle.dspec_c.specs.Homes.{AtHome, Came, CpuStay, LeavesPlace, CpuSide, at_home, handed_out}
use Rattle.dspec_c.specs.Words.Outside.{Config, start_fault, EnabledRows, enabled, table_accepts, table_shape, table_text, Pair, last_seat, set_up, number_in, schema_of, words_of, IsCallable}
use Rattle.dspec_c.specs.Words.Outside.{identity, Consuming, IsConsumerOf, pairs_of, set_up_of, view_of, IsPromisedBy, called_at, entered_at, Has, IsCpuOf, IsFresh, IsSession, taken_at, Cpu, Shared}
use Rattle.dspec_c.specs.Words.Outside.{Left, Session}

-- each CPU can be called by those who share this
abbrev pub AllCalled : Shared → List (Cpu EnabledRows) → Type 0
AllCalled shared cpus = (c : ℕ) (cpu : Cpu EnabledRows) → slice_get cpus c ≡ Some cpu → IsCallable shared cpu

-- each of the list at its place, counted from there
abbrev pub EachFrom : {X : Type 0} → (ℕ → X → Type 0) → ℕ → List X → Type 0
EachFrom P n [] = ⊤
EachFrom P n (x ∷ xs) = P n x × EachFrom P (suc n) xs

-- it is the CPU of this number, and its rings are the pair there
abbrev pub IsCpuAt : Shared → EnabledRows → List Pair → ℕ → Cpu EnabledRows → Type 0
IsCpuAt shared schema pairs c cpu = IsCpuOf schema (words_of shared) c (slice_get pairs c) (identity cpu)

-- the place of that CPU
pub record IsPlaceOf (shared : Shared) (schema : EnabledRows) (pairs : List Pair) (c : ℕ) (place : Option CpuSide) : Type 0 where
  pub side : CpuSide
  pub is : place ≡ Some side
  pub shares : side.shared ≡ shared
  pub cpu : IsCpuAt shared schema pairs c side.cpu

-- what a session that can end has: the places of all its CPUs, and its consumer, home
pub record IsEnding (shared : Shared) (schema : EnabledRows) (places : List (Option CpuSide)) (consumer : Consuming) : Type 0 where
  pub checked : start_fault (set_up (words_of shared)) ≡ None
  pub all : length places ≡ (set_up (words_of shared)).cpus
  pub each : EachFrom (IsPlaceOf shared schema (pairs_of consumer)) 0 places
  pub theirs : IsConsumerOf (words_of shared) consumer

-- a session under way: what it was started with, whoever is out
pub record IsWhole (shared : Shared) (cpus : ℕ) (places : List (Option CpuSide)) (place : Option Theirs) : Type 0 where
  pub schema : EnabledRows
  pub first : Theirs
  pub is : place ≡ Some first
  pub shares : first.shared ≡ shared
  pub count : cpus ≡ (set_up (words_of shared)).cpus
  pub ending : IsEnding shared schema places first.consumer

-- two vectors are empty, with room for so many
pub record HasRooms {A B Z : Type 0} (n : ℕ) (room : Vec A Z) (counts : Vec B Z) : Type 0 where
  pub empty : room.items ≡ []
  pub fits : n + vec_len room ≤ vec_capacity room
  pub none : counts.items ≡ []
  pub counts_fit : n + vec_len counts ≤ vec_capacity counts

-- how a CPU, and the consumer, begin: at their places, to be handed out; no record was refused
abbrev pub new_side : Shared → Cpu EnabledRows → CpuSide
new_side shared cpu = record { shared = shared; cpu = cpu; refused = 0 }

abbrev pub waits_with : CpuSide → CpuStay
waits_with side = record { first = Some side; inside = Some (at_home side); waits = true }

abbrev pub waiting_so : Shared → Cpu EnabledRows → CpuStay
waiting_so shared cpu = waits_with (new_side shared cpu)

abbrev pub they_wait_so : Shared → Consuming → TheirStay
they_wait_so shared consumer = record { first = Some (record { shared = shared; consumer = consumer }); inside = Some consumer; waits = true }

-- whose places these are, the CPUs that are inside, and how many records each of them refused
abbrev pub firsts : List CpuStay → List (Option CpuSide)
firsts places = map (λ (s : CpuStay). s.first) places

abbrev pub cpu_inside : CpuStay → Option (Cpu EnabledRows)
cpu_inside s = option_map (λ (x : AtHome). x.cpu) s.inside

abbrev pub insides : List CpuStay → List (Option (Cpu EnabledRows))
insides places = map cpu_inside places

abbrev pub refused_inside : CpuStay → ℕ
refused_inside s = option_map_or (λ (x : AtHome). x.refused) s.inside 0

abbrev pub refusals : List CpuStay → List ℕ
refusals places = map refused_inside places

-- what contracts see of a session under way: what its parts share, how many CPUs it has, and the places of its CPUs and of its consumer
pub record Going : Type 0 where
  pub shared : Shared
  pub cpus : ℕ
  pub places : List CpuStay
  pub consumer : TheirStay

-- all of what was started waits to be handed out: these CPUs, so many, and this consumer
abbrev pub HasAll : Shared → List (Cpu EnabledRows) → Consuming → ℕ → Going → Type 0
HasAll shared cpus consumer count w = (w.shared ≡ shared) × (w.cpus ≡ count) × (w.places ≡ map (waiting_so shared) cpus) × (w.consumer ≡ they_wait_so shared consumer)

-- a CPU waits whose records are of this schema, and of which nothing was asked yet
abbrev pub IsFreshIn : EnabledRows → ℕ → CpuStay → Type 0
IsFreshIn schema c s = (s.waits ≡ true) × IsSomeAnd s.inside (λ (x : AtHome). (schema_of x.cpu ≡ schema) × IsFresh Has x.cpu × (x.refused ≡ 0))

-- it was started with this, over this schema, all of it waits to be handed out, and nothing was asked of it yet
pub record IsJustStarted (k : Config) (schema : EnabledRows) (w : Going) : Type 0 where
  pub config : set_up (words_of w.shared) ≡ k
  pub cpus : w.cpus ≡ k.cpus
  pub all : EachFrom (IsFreshIn schema) 0 w.places
  pub consumer : w.consumer.waits ≡ true
  pub theirs : IsSomeAnd w.consumer.inside (λ (x : Consuming). view_of x ≡ last_seat k)

-- whether the CPU of this number is at its place
abbrev pub inside_at : ℕ → List CpuStay → Bool
inside_at c places = option_map_or (λ (s : CpuStay). is_some s.inside) (slice_get places c) false

-- a look at the place of this number, and at no other
pub record LooksAt (c : ℕ) (old new : List CpuStay) : Type 0 where
  pub was : CpuStay
  pub is : CpuStay
  pub there : slice_get old c ≡ Some was
  pub came : Came was is
  pub all : new ≡ slice_set old c is

-- the CPU of this number leaves its place
pub record LeavesOne (shared : Shared) (c : ℕ) (old : List CpuStay) (side : CpuSide) (new : List CpuStay) : Type 0 where
  pub stay : CpuStay
  pub left : CpuStay
  pub there : slice_get old c ≡ Some stay
  pub leaves : LeavesPlace shared stay side left
  pub gone : new ≡ slice_set old c left

-- a look at the place of the CPU of this number; nothing else of the session changed
pub record LooksAtOne (c : ℕ) (old new : Going) : Type 0 where
  pub shared : new.shared ≡ old.shared
  pub cpus : new.cpus ≡ old.cpus
  pub consumer : new.consumer ≡ old.consumer
  pub places : LooksAt c old.places new.places

-- so it is where there is such a CPU, and where there is none nothing changes
abbrev pub LooksIfThere : ℕ → Going → Going → Type 0
LooksIfThere c old new = MatchBool (nat_lt c old.cpus) (LooksAtOne c old new) (new ≡ old)

-- the CPU of this number goes out, with what the session shares
pub record GoesOut (c : ℕ) (old : Going) (side : CpuSide) (new : Going) : Type 0 where
  pub left : List CpuStay
  pub leaves : LeavesOne old.shared c old.places side left
  pub number : number_in side.cpu ≡ c
  pub gone : new ≡ record old { places = left }

-- so does the consumer, of a session of so many CPUs
pub record TheyGoOut (old : Going) (side : Theirs) (new : Going) : Type 0 where
  pub leave : LeaveTheirs old.shared old.consumer side (handed_out old.consumer)
  pub cpus : (set_up_of side.consumer).cpus ≡ old.cpus
  pub gone : new ≡ record old { consumer = handed_out old.consumer }

-- a look later at each place
abbrev pub AreCame : List CpuStay → List CpuStay → Type 0
AreCame [] [] = ⊤
AreCame [] (t ∷ ts) = ⊥
AreCame (s ∷ ss) [] = ⊥
AreCame (s ∷ ss) (t ∷ ts) = Came s t × AreCame ss ts

-- the CPU at this place is inside; each is; and one of them isn't
abbrev pub IsInsideAt : ℕ → List CpuStay → Type 0
IsInsideAt c places = (s : CpuStay) → slice_get places c ≡ Some s → IsSome s.inside

abbrev pub AllInside : List CpuStay → Type 0
AllInside places = (c : ℕ) → IsInsideAt c places

abbrev pub OneOutside : List CpuStay → Type 0
OneOutside places = (c : ℕ) × (s : CpuStay) × (slice_get places c ≡ Some s) × (s.inside ≡ None)

-- the session a look later: what was out may have come home, and nothing else changed
pub record LookedLater (old new : Going) : Type 0 where
  pub shared : new.shared ≡ old.shared
  pub cpus : new.cpus ≡ old.cpus
  pub places : AreCame old.places new.places
  pub consumer : Came old.consumer new.consumer

-- its CPUs and its consumer are home; and one of them isn't
pub record IsHome (w : Going) : Type 0 where
  pub cpus : AllInside w.places
  pub consumer : IsSome w.consumer.inside

abbrev pub IsAway : Going → Type 0
IsAway w = OneOutside w.places ⊎ (w.consumer.inside ≡ None)

-- the page of what is left, by what this session's CPUs and its consumer did
abbrev pub HasPromise : EnabledRows → Session EnabledRows → List Left → Type 0
HasPromise schema s left =
    IsPromisedBy (table_shape schema.header (enabled schema.rows)) (table_accepts schema.header (enabled schema.rows)) (table_text schema.header (enabled schema.rows))
    (set_up (words_of s.shared)) (entered_at s.cpus.items) (view_of s.consumer).own (called_at s.cpus.items) (taken_at s.consumer) left

-- This is what is left of these CPUs and this consumer: they are those of one session, each CPU at its number, and carry the page.
pub record ClosedBy (shared : Shared) (cpus : List (Option (Cpu EnabledRows))) (consumer : Consuming) (left : List Left) : Type 0 where
  pub schema : EnabledRows
  pub session : Session EnabledRows
  pub is : IsSession schema session
  pub shares : session.shared ≡ shared
  pub all : map Some session.cpus.items ≡ cpus
  pub theirs : session.consumer ≡ consumer
  pub promised : HasPromise schema session left

-- what is left of a session is that of the CPUs and the consumer that were home, with what each CPU had refused
pub record EndedBy (w : Going) (left : List Left) (refused : List ℕ) : Type 0 where
  pub consumer : Consuming
  pub home : w.consumer.inside ≡ Some consumer
  pub closed : ClosedBy w.shared (insides w.places) consumer left
  pub counted : refused ≡ refusals w.places

-- what was started with so many CPUs, before anything is handed out
pub record IsStarted (shared : Shared) (n : ℕ) (cpus : List (Cpu EnabledRows)) (consumer : Consuming) : Type 0 where
  pub schema : EnabledRows
  pub checked : start_fault (set_up (words_of shared)) ≡ None
  pub all : length cpus ≡ (set_up (words_of shared)).cpus
  pub count : n ≡ (set_up (words_of shared)).cpus
  pub each : EachFrom (IsCpuAt shared schema (pairs_of consumer)) 0 cpus
  pub theirs : IsConsumerOf (words_of shared) consumer
