-- First records of texts, and parts of a batch's records.
use Rattle.std.proofs.Common.{◌≡◌, ◌≤◌, ◌+◌, ◌-◌, ◌++◌, ℕ, List, [], ◌∷◌, refl, ap, sym, subst, ◌∙◌, arith, append_assoc, drop, length, take, All}
use Rattle.std.proofs.Math.Seq.{take-append-add}
use Rattle.std.proofs.lemmas.{Bool.Decides.nat_tests, List.append-nil, List.length-drop, List.length-take-le, List.Elements.All-cons, List.Elements.All-nil, List.Folds.drop_split}
use Rattle.std.specs.Prelude.{slice_range}
use Rattle.dspec_filing_reading.specs.Words.{AreFrontsKept, Accepts, BufferText, EnabledRows, IsText, Record, enabled, table_accepts, table_shape, table_text}

-- no records stand between a place and itself
pub none_between : (rs : List Record) (place : ℕ) → slice_range rs place place ≡ []
none_between rs place = grind (arith, nat_tests)

-- those up to a place, and then those from there
pub between : (rs : List Record) (from mid to : ℕ) → from ≤ mid → mid ≤ to → to ≤ length rs → slice_range rs from to ≡ slice_range rs from mid ++ slice_range rs mid to
between rs from mid to low high within =
    let first : List Record = slice_range rs from mid in
    let long : length first ≡ mid - from = length-take-le (mid - from) (drop from rs) (omega (arith, low, high, within, length-drop from rs)) in
    let both : to - from ≡ length first + (to - mid) = omega (arith, low, high, long) in
    ap (take (to - from)) (drop_split rs from mid low)
    ∙ ap (λ n. take n (first ++ drop mid rs)) both
    ∙ take-append-add first (drop mid rs) (to - mid)

-- the same after others
pub slice_after : (front rs : List Record) (from mid to : ℕ) → from ≤ mid → mid ≤ to → to ≤ length rs
    → front ++ slice_range rs from to ≡ (front ++ slice_range rs from mid) ++ slice_range rs mid to
slice_after front rs from mid to low high within =
    ap (λ qs. front ++ qs) (between rs from mid to low high within) ∙ sym (append_assoc front (slice_range rs from mid) (slice_range rs mid to))

-- the records of a text are accepted
pub all_accepted : (e : EnabledRows) (rs : List Record) (o : ℕ) (text : List ℕ)
    → BufferText (table_shape e.header (enabled e.rows)) (table_accepts e.header (enabled e.rows)) (table_text e.header (enabled e.rows)) o text rs → All (Accepts e) rs
all_accepted e [] o text is = All-nil (Accepts e)
all_accepted e (r ∷ rs) o text (gap, (rest, (stands, more))) =
    All-cons (Accepts e) r rs stands.is_accepted (all_accepted e rs (o + length gap + length (table_text e.header (enabled e.rows) r)) rest more)

module _ (e : EnabledRows) where
  -- the first records of one text, up to a place
  pub one_front : (text : List ℕ) (rs : List Record) → IsText e text rs → (to : ℕ) → to ≤ length rs → AreFrontsKept e (text ∷ []) (slice_range rs 0 to) (length rs - to)
  one_front text rs is to within =
      let others : length rs - to ≡ length (drop to rs) + 0 = omega (arith, within, length-drop to rs) in (
        slice_range rs 0 to,
        drop to rs,
        [],
        0,
        subst (λ qs. IsText e text qs) (drop_split rs 0 to (omega arith)) is,
        (refl, refl),
        sym (append-nil (slice_range rs 0 to)),
        others,
      )

  -- those of some texts, and after them those of others
  pub more_fronts : (texts others : List (List ℕ)) (kept more : List Record) (lost rest : ℕ) → AreFrontsKept e texts kept lost → AreFrontsKept e others more rest
      → AreFrontsKept e (texts ++ others) (kept ++ more) (lost + rest)
  more_fronts [] others kept more lost rest (none, nothing) are = grind (arith, nat_tests)
  more_fronts (text ∷ texts) others kept more lost rest (front, back, then, n, is, keeps, kept_is, lost_is) are =
      let sum : lost + rest ≡ length back + (n + rest) = omega (arith, lost_is) in (
        front,
        back,
        then ++ more,
        n + rest,
        is,
        more_fronts texts others then more n rest keeps are,
        ap (λ rs. rs ++ more) kept_is ∙ append_assoc front then more,
        sum,
      )
