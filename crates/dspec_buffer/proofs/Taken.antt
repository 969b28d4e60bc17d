-- The records that a reader has been given so far are those of the bytes up to its place, and no others.
use Rattle.std.proofs.{Common.◌≡◌, Common.◌<◌, Common.◌≤◌, Common.◌++◌, Common.ℕ, Common.Bool, Common.Option, Common.List, Common.[], Common.◌∷◌, Common.length, Common.take, Common.refl}
use Rattle.std.proofs.{Common.arith, Math.Logic.∥∥₁_elim, Math.Logic.∥∥₁_prop, lemmas.Bool.Decides.nat_tests}
use Rattle.dspec_buffer.specs.Words.{Record, StopsAfter, HasRead, NextIs, FaultIs, IsOneText, Remaining, records_set, IsOneText-prop, Shape}
use Rattle.dspec_buffer.specs.declared.read_fault.ReadFault.{ReadFault}
use Rattle.dspec_buffer.proofs.{Coming.text_with_one, Coming.stops_after, Left.one_text_at_start, Nexts.next_long, SchemaLaws.SchemaLaws}

module _ (shape : ℕ → Option Shape) (accepted : Record → Bool) (text : Record → List ℕ) (laws : SchemaLaws shape accepted text) where
  -- nothing was given yet
  pub none_given : (b : List ℕ) → IsOneText shape accepted text (take 0 b) 0 []
  none_given b = one_text_at_start shape accepted text laws [] [] refl

  -- one record more
  pub one_given : (b : List ℕ) (o : ℕ) (r : Record) (next : ℕ) (rs : List Record) → o ≤ length b → IsOneText shape accepted text (take o b) 0 rs → NextIs shape accepted text b o r next
      → IsOneText shape accepted text (take next b) 0 (rs ++ r ∷ [])
  one_given b o r next rs within one n =
      ∥∥₁_elim one.0 (IsOneText-prop shape accepted text (take next b) 0 (rs ++ r ∷ [])) (λ h.
      let read : HasRead shape accepted text b o = record { within = within; read = rs; is_text = h.ahead } in
      one_text_at_start shape accepted text laws (take next b) (rs ++ r ∷ []) (text_with_one shape accepted text laws b o r next read n))

  -- what was given stands before the fault
  pub given_before : (b : List ℕ) (o : ℕ) (fault : ReadFault) (rs : List Record) → o ≤ length b → IsOneText shape accepted text (take o b) 0 rs → FaultIs shape accepted text b o fault
      → ∥ StopsAfter shape accepted text b rs fault ∥₁
  given_before b o fault rs within one f =
      ∥∥₁_elim one.0 ∥∥₁_prop (λ h.
      let read : HasRead shape accepted text b o = record { within = within; read = rs; is_text = h.ahead } in
      ∣ stops_after shape accepted text laws b o fault read f ∣₁)

  -- no others were given
  pub given_are : (b : List ℕ) (rs : List Record) (m : Remaining shape accepted text b 0) → IsOneText shape accepted text b 0 rs → m.0 ≡ rs
  given_are b rs m one = ∥∥₁_elim m.1.0 (records_set m.0 rs) (λ h. one.1 m.0 h)

  -- a record takes the reader on
  pub goes_further : (b : List ℕ) (o : ℕ) (r : Record) (next : ℕ) → NextIs shape accepted text b o r next → o < next
  goes_further b o r next n = grind (arith, nat_tests, next_long)
