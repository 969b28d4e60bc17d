-- Cited by calls. What contracts see of a world, and what holds between two of its steps.
use Rattle.std.specs.Prelude.{ℕ, ◌≡◌, ◌<◌, ◌≤◌, ◌+◌, ◌++◌, ◌&&◌, Bool, true, false, List, [], ◌∷◌, if◌then◌else◌, Option, Some}
use Rattle.dspec_core.specs.Machines.{IsShownMachine, history, state_of}
use Rattle.dspec_core.specs.Words.Outside.{Shape, HasAuthors, Record, Piece, IsAllowed, calls, op_of, consumer_op_of, record_passes, is_about, IsCoherent, progress_of, ConsumerFlight, Config, Deed}
use Rattle.dspec_core.specs.Words.Outside.{Trace, Speculate, CallPlace, SpeculateLoad, SpeculateTry, CommitLoad, CommitTry, DiscardLoad, DiscardTry}
use Rattle.dspec_core.specs.WorldViews.{WorldView}
use Rattle.dspec_core.specs.declared.machine.Machine.{Machine}

abbrev pub world_view : {S B : Type 0} → Machine S B → WorldView S
world_view m = record { schema = m.schema; state = state_of m }

-- the call in flight was shown that it isn't worn, and its deed, which counts towards the most calls, is to come
abbrev pub is_due : Option CallPlace → Bool
is_due (Some (SpeculateLoad id r)) = true
is_due (Some (SpeculateTry id r w)) = true
is_due (Some (CommitLoad id)) = true
is_due (Some (CommitTry id w)) = true
is_due (Some (DiscardLoad id)) = true
is_due (Some (DiscardTry id w)) = true
is_due f = false

-- a CPU makes no more calls than it may, the one in flight with them
abbrev pub IsWithin : Config → ℕ → List Deed → Option CallPlace → Type 0
IsWithin k c h f = calls c h + (if is_due f then 1 else 0) ≤ k.max_calls

-- the words, buffers and counts show the list of deeds, the calls in flight stand where their deeds have brought them,
-- the schema accepts the record of each, and no CPU makes more calls than it may
pub record WorldInvariant {S B : Type 0} (has : B → S → List Piece → Type 0) (capacity : B → ℕ) (shape_of : S → ℕ → Option Shape) (accepted : S → Record → Bool) (m : Machine S B) : Type 0 where
  pub shown : IsShownMachine has capacity m
  pub coherent : IsCoherent (shape_of m.schema) (state_of m)
  pub accepted_records : (c : ℕ) (f : CallPlace) → c < m.config.cpus → (progress_of (state_of m).progresses c).flight ≡ Some f → record_passes (accepted m.schema) (op_of f) ≡ true
  pub within : (c : ℕ) → c < m.config.cpus → IsWithin m.config c (history m) (progress_of (state_of m).progresses c).flight
  pub about : (f : ConsumerFlight) → m.consumer.flight ≡ Some f → is_about m.config (consumer_op_of f) ≡ true

-- the record of a deed, if it has one, is accepted
abbrev pub deed_passes : (Record → Bool) → Deed → Bool
deed_passes ok (Trace c r f) = ok r
deed_passes ok (Speculate c id r f) = ok r
deed_passes ok d = true

abbrev pub deeds_pass : (Record → Bool) → List Deed → Bool
deeds_pass ok [] = true
deeds_pass ok (d ∷ ds) = deed_passes ok d && deeds_pass ok ds

-- deeds may come next: the machine is kept, the list with them in front is legal and of CPUs that there are, and the schema accepts their records
pub record MayCome {S B : Type 0} (has : B → S → List Piece → Type 0) (capacity : B → ℕ) (shape_of : S → ℕ → Option Shape) (accepted : S → Record → Bool) (m : Machine S B)
    (ds : List Deed) : Type 0 where
  pub kept : WorldInvariant has capacity shape_of accepted m
  pub legal : IsAllowed (shape_of m.schema) m.config (ds ++ history m)
  pub authors : HasAuthors m.config (ds ++ history m)
  pub records : deeds_pass (accepted m.schema) ds ≡ true
