-- Serves proofs. The table of steps by what a step sees, and what the step makes of its CPU.
use Rattle.std.specs.Prelude.{ℕ, ◌≡◌, ◌+◌, ◌<◌, ◌≤◌, ◌||◌, Bool, List, [], ◌∷◌, length, Option, None, Some}
use Rattle.dspec_core.specs.Words.Outside.{Shape, one, Record, Speculation, ack, callers, fits_principal, fits_speculative, halted, held, is_among, issue, missed_busy, present, seals, word_at}
use Rattle.dspec_core.specs.Words.Outside.{CpuStep, is_worn, same_word, fits_held, call_step, Measured, Config, Thrown, Deed, Discard, Release, CallPlace, CpuProgress}
use Rattle.dspec_core.specs.declared.machine.seen.{Entry.Entry, Entry.TheVariants.Nothing, Entry.TheVariants.One, Entry.TheVariants.Alone, Move.Move, Seen.Seen}
use Rattle.dspec_deeds.specs.declared.calls.CpuOp.TheVariants.{Trace}
use Rattle.dspec_interleaving.specs.declared.flight.CallPlace.TheVariants as flight

-- what a step measures is what it sees, whichever slot and speculation are asked for
abbrev pub measured_by : Seen → Measured
measured_by seen = record {
  worn = seen.worn;
  stopped = seen.stopped;
  word = λ s. seen.word;
  hits = λ s from. same_word seen.word from;
  acked = λ s. seen.acked;
  mine = λ id. seen.mine;
  traces = λ r. seen.fits;
  keeps = λ id r. seen.fits;
  copies = λ id. seen.copies;
  count = λ id. seen.count;
  missed_busy = λ s busy. busy || seen.missed_busy;
  seals = seen.seals;
}

-- the step of the table
abbrev pub step_seen : Seen → CallPlace → CpuStep
step_seen seen f = call_step seen.config seen.cpu (measured_by seen) seen.me f

-- the deeds that are entered, the latest first
abbrev pub entry_deeds : ℕ → Entry → List Deed
entry_deeds c Nothing = []
entry_deeds c (One d) = d ∷ []
entry_deeds c (Alone id n) = Release id.slot ∷ Discard c id (Thrown n) ∷ []

-- how many steps the call in flight has made then
abbrev pub steps_after : ℕ → Option CallPlace → ℕ
steps_after n None = 0
steps_after n (Some f) = n + 1

-- the progress that a move makes of another
abbrev pub moved_by : Move → CpuProgress → CpuProgress
moved_by move me = record me { flight = move.flight; steps = steps_after me.steps move.flight; spare = move.spare; worn = move.worn }

abbrev pub step_of : Seen → Move → CpuStep
step_of seen move = record { progress = moved_by move seen.me; deeds = entry_deeds seen.cpu move.entry; answer = move.answer }

-- a move is the step of the call at that place
abbrev pub IsStep : Seen → CallPlace → Move → Type 0
IsStep seen f move = step_of seen move ≡ step_seen seen f

-- the slot of a place is one of the session, and no more slots were settled than were passed
abbrev pub IsSlotPlace : Config → CallPlace → Type 0
IsSlotPlace k (flight.ScanLoad s) = s ≤ k.nspec
IsSlotPlace k (flight.ScanTry s w) = s ≤ k.nspec
IsSlotPlace k (flight.ServiceLoad s sum) = s ≤ k.nspec
IsSlotPlace k (flight.ServiceStore s w sum) = (s ≤ k.nspec) × (sum.settled < s)
IsSlotPlace k f = Unit {0}

-- the speculation that a call is at: the one that it names, or the present one of its slot
abbrev pub aimed : List Deed → CallPlace → Speculation
aimed h (flight.ScanLoad s) = present s h
aimed h (flight.ScanTry s w) = present s h
aimed h (flight.SpeculateLoad id r) = id
aimed h (flight.SpeculateTry id r w) = id
aimed h (flight.CommitLoad id) = id
aimed h (flight.CommitTry id w) = id
aimed h (flight.DiscardLoad id) = id
aimed h (flight.DiscardTry id w) = id
aimed h (flight.ServiceLoad s sum) = present s h
aimed h (flight.ServiceStore s w sum) = present s h
aimed h f = present 1 h

-- what is seen is what the list says of the session, the CPU and the slot of a speculation
pub record TellsAt (k : Config) (c : ℕ) (h : List Deed) (id : Speculation) (seen : Seen) : Type 0 where
  pub config : seen.config ≡ k
  pub cpu : seen.cpu ≡ c
  pub worn : seen.worn ≡ is_worn k c h
  pub stopped : seen.stopped ≡ halted h
  pub word : seen.word ≡ word_at id.slot h
  pub acked : seen.acked ≡ ack c id.slot h
  pub missed : seen.missed_busy ≡ missed_busy c h
  pub sealed : seen.seals ≡ seals c h

-- whether the CPU is a caller of a speculation, and whether a record fits after what it holds of it
pub record TellsRoom (shape : ℕ → Option Shape) (k : Config) (c : ℕ) (h : List Deed) (id : Speculation) (r : Record) (seen : Seen) : Type 0 where
  pub mine : seen.mine ≡ is_among c (callers id h)
  pub fits : seen.fits ≡ fits_speculative shape k c id r h

-- whether it is one, whether all that it holds of it fits the principal buffer, and how many records that is
pub record TellsHeld (shape : ℕ → Option Shape) (k : Config) (c : ℕ) (h : List Deed) (id : Speculation) (seen : Seen) : Type 0 where
  pub mine : seen.mine ≡ is_among c (callers id h)
  pub copies : seen.copies ≡ fits_held shape k c h id
  pub count : seen.count ≡ length (held c id h)

-- what a call at that place measures of the CPU's own: of a speculation only where it is its slot's present one
abbrev pub TellsOwn : (ℕ → Option Shape) → Config → ℕ → List Deed → CallPlace → Seen → Type 0
TellsOwn shape k c h (flight.Begun (Trace r)) seen = seen.fits ≡ fits_principal shape k c (one r) h
TellsOwn shape k c h (flight.Begun o) seen = Unit {0}
TellsOwn shape k c h (flight.SpeculateLoad id r) seen = id.issue ≡ issue id.slot h → TellsRoom shape k c h id r seen
TellsOwn shape k c h (flight.SpeculateTry id r w) seen = id.issue ≡ issue id.slot h → TellsRoom shape k c h id r seen
TellsOwn shape k c h f seen = (aimed h f).issue ≡ issue (aimed h f).slot h → TellsHeld shape k c h (aimed h f) seen
