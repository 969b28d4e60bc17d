-- What a machine shows a CPU of a slot, and the row of the table of settlements there.
use Rattle.std.proofs.Common.{◌≡◌, ℕ, ◌-◌, ◌<◌, List, get_or, ◌∙◌}
use Rattle.dspec_core.specs.Words.{Piece, settle_at, SlotState, ack, word_at, IsSlot, IsShownMachine, history, Act, Deed}
use Rattle.dspec_core.specs.declared.machine.{Machine.Machine, cpu.Cpu.Cpu}
use Rattle.dspec_core.proofs.{MachineReads.ack_read, OneMore.word_there}

-- the slot's word, and what the CPU has acknowledged of it
pub record ShowsSlot (c s : ℕ) (h : List Deed) (w : SlotState) (a : ℕ) : Type 0 where
  pub word : w ≡ word_at s h
  pub acked : a ≡ ack c s h

-- the table says of them what it says of the list
pub row_read : {c s : ℕ} {h : List Deed} {w : SlotState} {a : ℕ} {act : Act} → ShowsSlot c s h w a → act ≡ settle_at w a → act ≡ settle_at (word_at s h) (ack c s h)
row_read shows e = e ∙ (λ i. settle_at (shows.word i) (shows.acked i))

module _ {S B : Type 0} {has : B → S → List Piece → Type 0} {capacity : B → ℕ} {m : Machine S B} (shown : IsShownMachine has capacity m) (c s : ℕ) (lt : c < m.config.cpus)
    (slot : IsSlot m.config s) where
  -- what is read of a slot
  pub slot_read : {own : Cpu B} {w : SlotState} {a : ℕ} → own ≡ get_or m.cpus.items c own → w ≡ get_or m.words.items (s - 1) w → a ≡ get_or own.side.acks.items (s - 1) a
      → ShowsSlot c s (history m) w a
  slot_read {own = own} {w = w} {a = a} is worded acked = record {
    word = word_there m.config (history m) m.words.items s w slot.0 slot.1 shown.words worded;
    acked = ack_read has capacity m shown c s own a lt slot is acked;
  }
