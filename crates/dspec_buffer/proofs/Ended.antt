-- A reader that has come to a text's end or first fault: the records up to there are all of the text, or those before the fault.
use Rattle.std.proofs.Common.{◌≡◌, ℕ, Bool, Option, Some, None, IfSome, IfNone, List, take, subst, arith}
use Rattle.std.proofs.lemmas.Bool.Decides.{nat_tests}
use Rattle.dspec_buffer.specs.{Words.Record, Words.BufferText, Words.StopsAfter, Words.HasRead, Words.EndsAt, Words.Remaining, Words.Shape, declared.read_fault.ReadFault.ReadFault}
use Rattle.dspec_buffer.proofs.{Coming.reads_all, Coming.stops_after, Left.remaining_at_start, SchemaLaws.SchemaLaws}

module _ (shape : ℕ → Option Shape) (accepted : Record → Bool) (text : Record → List ℕ) (laws : SchemaLaws shape accepted text) where
  has_read : (b : List ℕ) (o : ℕ) (end : Option ReadFault) → EndsAt shape accepted text b o end → HasRead shape accepted text b o
  has_read b o None e = e.0
  has_read b o (Some fault) e = e.0

  -- what stands before its place is a text
  pub remaining_before : (b : List ℕ) (o : ℕ) (end : Option ReadFault) → EndsAt shape accepted text b o end → Remaining shape accepted text (take o b) 0
  remaining_before b o end e = grind (arith, nat_tests, has_read, remaining_at_start)

  -- the one list of records there is the one that it has read
  same_read : (b : List ℕ) (o : ℕ) (h : HasRead shape accepted text b o) (m : Remaining shape accepted text (take o b) 0) → h.read ≡ m.0
  same_read b o h m = m.1.1 h.read (record { within = omega arith; ahead = h.is_text })

  pub ended_whole : (b : List ℕ) (o : ℕ) (end : Option ReadFault) (m : Remaining shape accepted text (take o b) 0) → EndsAt shape accepted text b o end
      → IfNone end (BufferText shape accepted text 0 b m.0)
  ended_whole b o None m e =
      subst (λ rs. BufferText shape accepted text 0 b rs) (same_read b o e.0 m) (reads_all shape accepted text laws b o e.0 e.1)
  ended_whole b o (Some fault) m e = tt

  pub ended_at_fault : (b : List ℕ) (o : ℕ) (end : Option ReadFault) (m : Remaining shape accepted text (take o b) 0) → EndsAt shape accepted text b o end
      → IfSome end (λ fault. StopsAfter shape accepted text b m.0 fault)
  ended_at_fault b o None m e = tt
  ended_at_fault b o (Some fault) m e =
      subst (λ rs. StopsAfter shape accepted text b rs fault) (same_read b o e.0 m) (stops_after shape accepted text laws b o fault e.0 e.1)
