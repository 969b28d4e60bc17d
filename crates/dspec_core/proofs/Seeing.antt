-- What is seen of the list makes the step that the list makes.
use Rattle.std.proofs.Common.{◌≡◌, ◌≢◌, ℕ, ◌==◌, ◌≤◌, Bool, true, false, ◌&&◌, ◌||◌, List, Option, refl, sym, ◌∙◌, ⊎_elim, arith}
use Rattle.std.proofs.lemmas.Bool.Decides.{nat_tests}
use Rattle.dspec_core.specs.Words.{Shape, Act, Void, Granted, Attempt, Idle, Record, is_decided, Speculation, SlotState, issue, present, IsSlot, missed_busy, cpu_step, CpuStep, call_step, measured}
use Rattle.dspec_core.specs.Words.{missed, same_word, StandsCpu, IsSlotPlace, TellsAt, TellsHeld, TellsOwn, aimed, measured_by, shown_scan, step_seen, CpuOp, Config, Deed, CpuProgress, CallPlace}
use Rattle.dspec_core.specs.declared.machine.seen.Seen.{Seen}
use Rattle.dspec_deeds.specs.declared.calls.CpuOp.TheVariants as cpu_op
use Rattle.dspec_interleaving.specs.declared.flight.CallPlace.TheVariants as flight
use Rattle.dspec_deeds.proofs.TestLemmas.{either_way, number_is_itself, off, same_number}
use Rattle.dspec_interleaving.proofs.StepsWords.{commit_tells, discard_tells, same_word_tells, speculate_tells}
use Rattle.dspec_core.proofs.MachineReads.{slot_in_range}

-- a busy slot of the CPU's own is missed
own_miss : (b seen : Bool) (c : ℕ) → (b || seen) ≡ ((b && (c == c)) || seen)
own_miss true seen c = rw (number_is_itself c) refl
own_miss false seen c = refl

-- what is told at a place where a call of a speculation, or of a slot, goes on
pub held_told : (shape : ℕ → Option Shape) (k : Config) (c : ℕ) (h : List Deed) (seen : Seen) (f : CallPlace) → ((o : CpuOp) → f ≢ flight.Begun o)
    → ((id : Speculation) (r : Record) → f ≢ flight.SpeculateLoad id r) → ((id : Speculation) (r : Record) (w : SlotState) → f ≢ flight.SpeculateTry id r w)
    → ((aimed h f).issue ≡ issue (aimed h f).slot h → TellsHeld shape k c h (aimed h f) seen) → TellsOwn shape k c h f seen
held_told shape k c h seen f h1 h2 h3 h4 = grind (arith, nat_tests)

-- and where a call begins that traces no record
pub begun_told : (shape : ℕ → Option Shape) (k : Config) (c : ℕ) (h : List Deed) (seen : Seen) (o : CpuOp) → ((r : Record) → o ≢ cpu_op.Trace r) → TellsOwn shape k c h (flight.Begun o) seen
begun_told shape k c h seen o h1 = grind (arith, nat_tests)

-- an exchange that is tried names the issue of the word that it expects
stale : (w from : SlotState) (id : Speculation) → (w.issue == id.issue) ≡ false → from.issue ≡ id.issue → same_word w from ≡ false
stale w from id other named = grind (arith, nat_tests, same_word_tells, off, number_is_itself)

module _ (shape : ℕ → Option Shape) (k : Config) (c : ℕ) (h : List Deed) (me : CpuProgress) (seen : Seen) where
  abbrev By : CallPlace → CpuStep
  By f = call_step k c (measured_by seen) me f

  abbrev Plays : CallPlace → CpuStep
  Plays f = cpu_step shape k c h me f

  module _ {id : Speculation} (at : TellsAt k c h id seen) where
    missing : (s : ℕ) (w : SlotState) → missed k c (measured_by seen) me s w ≡ missed k c (measured shape k c h) me s w
    missing s w = rw (at.missed, own_miss (is_decided w.code) (missed_busy c h) c) refl

    scans : (s : ℕ) (w : SlotState) (act : Act) → shown_scan k c (measured_by seen) me s w act ≡ shown_scan k c (measured shape k c h) me s w act
    scans s w (Attempt to) = refl
    scans s w Void = missing s w
    scans s w Granted = missing s w
    scans s w Idle = missing s w

    -- a slot's present speculation, or an earlier one
    now_or_not : {x y : CpuStep} → (id.issue ≡ issue id.slot h → x ≡ y) → ((issue id.slot h == id.issue) ≡ false → x ≡ y) → x ≡ y
    now_or_not now past = ⊎_elim (λ (t : (issue id.slot h == id.issue) ≡ true). now (sym (same_number (issue id.slot h) id.issue t))) past (either_way (issue id.slot h == id.issue))

  begins : (o : CpuOp) → TellsAt k c h (present 1 h) seen → TellsOwn shape k c h (flight.Begun o) seen → By (flight.Begun o) ≡ Plays (flight.Begun o)
  begins o h1 h2 = grind (arith, nat_tests)

  -- the step by what is seen at its place
  pub step_by : (f : CallPlace) → TellsAt k c h (aimed h f) seen → TellsOwn shape k c h f seen → StandsCpu k c h me f → By f ≡ Plays f
  step_by f h1 h2 h3 = grind (arith, nat_tests, begins, stale, speculate_tells, commit_tells, discard_tells)

  -- it is the play's
  pub step_plays : (f : CallPlace) → TellsAt k c h (aimed h f) seen → TellsOwn shape k c h f seen → seen.me ≡ me → StandsCpu k c h me f → step_seen seen f ≡ Plays f
  step_plays f at own is stands = (λ i. call_step (at.config i) (at.cpu i) (measured_by seen) (is i) f) ∙ step_by f at own stands

module _ (k : Config) (c : ℕ) (h : List Deed) (me : CpuProgress) where
  -- where a call stands, its slot is one of the session
  pub aimed_slot : (f : CallPlace) → 1 ≤ k.nspec → StandsCpu k c h me f → IsSlot k (aimed h f).slot
  aimed_slot f h1 h2 = grind (arith, nat_tests, slot_in_range)

  pub stands_inside : (f : CallPlace) → StandsCpu k c h me f → IsSlotPlace k f
  stands_inside f h1 = grind (arith, nat_tests)
