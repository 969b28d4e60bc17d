-- Cited by calls. The laws of a session's close, as sentences.
use mathlib.Core.List.{IsPrefix}
use Rattle.std.specs.Prelude.{ℕ, ◌≡◌, ◌≤◌, ◌+◌, Bool, List, ◌++◌, length, reverse, Option, None}
use Rattle.dspec_session_core.specs.{Closing.ClosedFrom, Closing.ClosesAs, Closing.rest_of, Owed.owed_up, Words.Outside.Record, Words.Outside.CanClose, Words.Outside.closing}
use Rattle.dspec_session_core.specs.{Words.Outside.start_fault, Words.Outside.waiting, Words.Outside.Shape, Words.Outside.Config, Words.Outside.Deed, Words.Outside.View, Words.Outside.CpuSeat}
use Rattle.dspec_session_core.specs.{Words.Outside.Batch, declared.left.Left.Left}

-- Once all seats and ring ends are back, and each CPU has settled by the last words, one legal list of deeds closes whichever lists the
-- CPUs had.
abbrev pub ListsClose : Type 0
ListsClose = (shape : ℕ → Option Shape) (accepted : Record → Bool) (text : Record → List ℕ) (k : Config) (words : List ℕ)
    (seats : List CpuSeat) (consumer : View) (worn : ℕ → ℕ) (taken : ℕ → List Batch) (left : List Left) (p : ℕ → List Deed)
    → ClosedFrom shape accepted text k words seats consumer worn taken left p
    → (g : List Deed) × ClosesAs shape accepted text k worn taken consumer.own left p g

-- Where the batches sealed, and the spare in hand, are no more than one and the spares that came, one sealed batch at most was not taken.
abbrev pub OneBatchIsLeft : Type 0
OneBatchIsLeft = (held_back : Option Batch) (spare : ℕ) (handed spares taken given drained : List Batch)
    → length (waiting held_back ++ reverse handed) + spare ≤ 1 + length spares → IsPrefix spares given
    → length given ≤ length taken → taken ++ drained ≡ handed
    → reverse (taken ++ waiting (rest_of held_back drained)) ≡ waiting held_back ++ reverse handed

-- What the close settles is what each CPU owes by the decisions and the settlements before, CPU by CPU and slot by slot, and nothing else.
abbrev pub SettlesWhatIsOwed : Type 0
SettlesWhatIsOwed = (shape : ℕ → Option Shape) (k : Config) (h : List Deed) → start_fault k ≡ None → CanClose shape k h → closing shape k h ≡ owed_up shape k k.cpus h
