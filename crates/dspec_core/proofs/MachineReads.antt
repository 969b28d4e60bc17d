-- What a read of a machine's parts shows.
use Rattle.std.proofs.Common.{ℕ, ◌≡◌, ◌-◌, ◌<◌, ◌≤◌, true, List, [], ◌∷◌, length, get_or, Some, refl, sym, ap, ◌∙◌, arith}
use Rattle.std.proofs.lemmas.{Bool.Decides.nat_tests, Option.slice_get_read}
use Rattle.std.specs.Prelude.{slice_get}
use Rattle.dspec_core.specs.Words.{Piece, Speculation, ack, in_range, Offer, contents, IsSlot, ShowsCpu, IsShownMachine, history, progress_of, state_of, Config, CpuProgress, CallPlace}
use Rattle.dspec_core.specs.declared.machine.{Machine.Machine, cpu.Cpu.Cpu}
use Rattle.dspec_interleaving.proofs.CleanReads.{number_there}
use Rattle.dspec_core.proofs.OneMore.{progress_there}

pub slot_in_range : (k : Config) (id : Speculation) → in_range k id ≡ true → IsSlot k id.slot
slot_in_range k id e = (grind (arith, nat_tests), grind (arith, nat_tests))

pub slot_inside : (k : Config) (id : Speculation) → IsSlot k id.slot → in_range k id ≡ true
slot_inside k id slot = let least = slot.0 in let most = slot.1 in grind (arith, nat_tests)

-- the place of a slot's number in what has an element for each slot
pub place_within : (n s most count : ℕ) → n ≡ s → 1 ≤ s → s ≤ most → count ≡ most → n - 1 < count
place_within n s most count is low high counted = omega arith

pub length_contents : (os : List Offer) → length (contents os) ≡ length os
length_contents [] = refl
length_contents (o ∷ os) = grind (arith, length_contents os)

module _ {S B : Type 0} (has : B → S → List Piece → Type 0) (capacity : B → ℕ) (m : Machine S B) (shown : IsShownMachine has capacity m) where
  -- where what an index reads stands
  pub cpu_got : (c : ℕ) (own : Cpu B) → c < m.config.cpus → own ≡ get_or m.cpus.items c own → slice_get m.cpus.items c ≡ Some own
  cpu_got c own lt e = slice_get_read m.cpus.items m.config.cpus c own (sym shown.cpu_count) lt e

  -- the call in flight of the progress there
  pub flies : (c : ℕ) (own : Cpu B) (f : CallPlace) → c < m.config.cpus → own ≡ get_or m.cpus.items c own → own.progress.flight ≡ Some f
      → (progress_of (state_of m).progresses c).flight ≡ Some f
  flies c own f lt e is = ap (λ (me : CpuProgress). me.flight) (progress_there m.cpus.items c own (cpu_got c own lt e)) ∙ is

  -- and what it shows
  pub cpu_read : (c : ℕ) (own : Cpu B) → c < m.config.cpus → own ≡ get_or m.cpus.items c own → ShowsCpu has capacity m.schema m.config c (history m) own
  cpu_read c own lt e = shown.cpus c own (cpu_got c own lt e)

  -- the acknowledgement that an index reads
  pub ack_read : (c s : ℕ) (own : Cpu B) (a : ℕ) → c < m.config.cpus → IsSlot m.config s → own ≡ get_or m.cpus.items c own → a ≡ get_or own.side.acks.items (s - 1) a → a ≡ ack c s (history m)
  ack_read c s own a lt slot is e =
      let shows = (cpu_read c own lt is).side.parts in
      number_there own.side.acks.items m.config.nspec (s - 1) a (ack c s (history m)) shows.ack_count (place_within s s m.config.nspec m.config.nspec refl slot.0 slot.1 refl) e
      (shows.acks s slot.0 slot.1)

  -- where it stands
  pub acks_place : (c s : ℕ) (own : Cpu B) → c < m.config.cpus → IsSlot m.config s → own ≡ get_or m.cpus.items c own → s - 1 < own.side.acks.len
  acks_place c s own lt slot is =
      place_within s s m.config.nspec own.side.acks.len refl slot.0 slot.1 (own.side.acks.ok.0 ∙ (cpu_read c own lt is).side.parts.ack_count)
