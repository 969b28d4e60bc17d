-- The one list of records that a reader of a checked text has before it.
use Rattle.std.proofs.Common.{◌≡◌, ◌≤◌, ℕ, Bool, Option, Some, None, List, [], ◌∷◌, length, drop, refl, sym, ap, subst, ◌∙◌, arith}
use Rattle.std.proofs.Math.Logic.{∥∥₁_elim}
use Rattle.dspec_buffer.specs.Words.{Record, BufferText, StepsAhead, HasAhead, IsOneText, Remaining, StepsOn, records_set, Remaining-prop, Shape}
use Rattle.std.specs.Coded.{le_prop}
use Rattle.dspec_buffer.proofs.{OneReading.one_reading, SchemaLaws.SchemaLaws}

module _ (shape : ℕ → Option Shape) (accepted : Record → Bool) (text : Record → List ℕ) (laws : SchemaLaws shape accepted text) where
  pub remaining_of : (b : List ℕ) (o : ℕ) (rs : List Record) → HasAhead shape accepted text b o rs → Remaining shape accepted text b o
  remaining_of b o rs h = (rs, (∣ h ∣₁, λ qs k. one_reading shape accepted text laws o (drop o b) qs rs k.ahead h.ahead))

  -- the whole text is what is left at the start
  pub one_text_at_start : (b : List ℕ) (rs : List Record) → BufferText shape accepted text 0 b rs → IsOneText shape accepted text b 0 rs
  one_text_at_start b rs h =
      (∣ record { within = omega arith; ahead = h } ∣₁, λ qs k. one_reading shape accepted text laws 0 b qs rs k.ahead h)

  pub remaining_at_start : (b : List ℕ) (rs : List Record) → BufferText shape accepted text 0 b rs → Remaining shape accepted text b 0
  remaining_at_start b rs h = (rs, one_text_at_start b rs h)

  record GoesOver (b : List ℕ) (found : Record × ℕ) (rs : List Record) : Type 0 where
    others : List Record
    all : rs ≡ found.0 ∷ others
    ahead : HasAhead shape accepted text b found.1 others

  goes_over : (b : List ℕ) (found : Record × ℕ) (rs : List Record) → StepsAhead (HasAhead shape accepted text b) rs (Some found) → GoesOver b found rs
  goes_over b found [] s = cc
  goes_over b found (r ∷ rs) s =
      let e = s.1.0 in
      let same : found ≡ (r, s.0) = cc in
      let first : found.0 ≡ r = ap (λ z. z.0) same in
      record { others = rs; all = ap (λ z. z ∷ rs) (sym first); ahead = subst (λ z. HasAhead shape accepted text b z.1 rs) (sym same) s.1.1 }

  stays : (b : List ℕ) (rs : List Record) → StepsAhead (HasAhead shape accepted text b) rs None → rs ≡ []
  stays b [] s = refl
  stays b (r ∷ rs) s = let e = s.1.0 in cc

  pub within_next : (b : List ℕ) (o : ℕ) (found : Record × ℕ) → Remaining shape accepted text b o → StepsOn shape accepted text b o (Some found) → found.1 ≤ length b
  within_next b o found m s =
      ∥∥₁_elim m.1.0 le_prop (λ h. (goes_over b found m.0 (s m.0 h)).ahead.within)

  -- one record on
  pub remaining_next : (b : List ℕ) (o : ℕ) (found : Record × ℕ) → Remaining shape accepted text b o → StepsOn shape accepted text b o (Some found) → Remaining shape accepted text b found.1
  remaining_next b o found m s =
      ∥∥₁_elim m.1.0 (Remaining-prop shape accepted text b found.1) (λ h.
      let a = goes_over b found m.0 (s m.0 h) in
      remaining_of b found.1 a.others a.ahead)

  pub first_left : (b : List ℕ) (o : ℕ) (found : Record × ℕ) (m : Remaining shape accepted text b o) (m' : Remaining shape accepted text b found.1)
      → StepsOn shape accepted text b o (Some found) → m.0 ≡ found.0 ∷ m'.0
  first_left b o found m m' s =
      ∥∥₁_elim m.1.0 (records_set m.0 (found.0 ∷ m'.0)) (λ h.
      let a = goes_over b found m.0 (s m.0 h) in
      a.all ∙ ap (λ z. found.0 ∷ z) (m'.1.1 a.others a.ahead))

  pub none_left : (b : List ℕ) (o : ℕ) (m : Remaining shape accepted text b o) → StepsOn shape accepted text b o None → m.0 ≡ []
  none_left b o m s = ∥∥₁_elim m.1.0 (records_set m.0 []) (λ h. stays b m.0 (s m.0 h))
