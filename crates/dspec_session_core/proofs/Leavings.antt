-- What is left of one CPU.
use Rattle.std.proofs.Common.{◌≡◌, ℕ, ◌+◌, ◌≤◌, List, ◌++◌, length, reverse, Option, Some, None, sym, ap, ◌∙◌, subst, arith}
use Rattle.std.proofs.lemmas.Bool.Decides.{nat_tests}
use Rattle.std.specs.{Iterator.YieldsFirst, Option.option_or, Prelude.Bool}
use mathlib.Core.List.{IsPrefix}
use Rattle.dspec_session_core.specs.Words.{Record, IsLegalPart, IsSameRest, AreSealed, waiting, IsPartOf, LeftShows, rest_of, IsClosing, Leaves, Shape, Config, Deed, Batch, CpuRest}
use Rattle.dspec_session_core.specs.declared.left.Left.{Left}
use Rattle.dspec_session_core.proofs.ClosingRests.{one_left}

pub closing_part : (shape : ℕ → Option Shape) (k : Config) (words : List ℕ) (c : ℕ) (p log g : List Deed) → IsClosing shape k words c p log g → IsPartOf k c log p
closing_part shape k words c p log g is = record { sound = is.sound; rests = is.rests; idle = is.idle; part_is = is.part_is }

-- the first that is drained, else the one in hand
pub rest_is : (r x : Option Batch) (drained after : List Batch) → YieldsFirst (λ (s : List Batch). s) drained r after → option_or r x ≡ rest_of x drained
rest_is None x drained after yields = ap (rest_of x) (sym yields.0)
rest_is (Some b) x drained after yields = ap (rest_of x) (sym yields)

module _ {S : Type 0} (shape_of : S → ℕ → Option Shape) (accepted : S → Record → Bool) (text : S → Record → List ℕ) where
  -- of what is left of a CPU, before and after its settlements
  pub legal_now : (old now : CpuRest S) → IsSameRest old now → (g q : List Deed) → IsLegalPart (shape_of old.schema) old.config old.cpu g q → IsLegalPart (shape_of now.schema) now.config now.cpu g q
  legal_now old now same g q is = grind (arith, nat_tests)

  pub shows_before : (old now : CpuRest S) → IsSameRest old now → (taken : List Batch) (q : List Deed) (l : Left)
      → LeftShows (shape_of now.schema) (accepted now.schema) (text now.schema) now.config now.cpu now.side.counts.worn taken q l
      → LeftShows (shape_of old.schema) (accepted old.schema) (text old.schema) old.config old.cpu old.side.counts.worn taken q l
  shows_before old now same taken q l is = grind (arith, nat_tests)

  -- of another name for the same CPU
  pub leaves_same : (had : List Deed → Type 0) (words : List ℕ) (taken : List Batch) (l : Left) (s t : S) (k j : Config) (c d v w : ℕ) → s ≡ t → k ≡ j → c ≡ d → v ≡ w
      → Leaves shape_of accepted text had words taken l s k c v → Leaves shape_of accepted text had words taken l t j d w
  leaves_same had words taken l s t k j c d v w schema config number worn is =
      subst (λ x. Leaves shape_of accepted text had words taken l x j d w) schema
      (subst (λ x. Leaves shape_of accepted text had words taken l s x d w) config
      (subst (λ x. Leaves shape_of accepted text had words taken l s k x w) number (subst (λ x. Leaves shape_of accepted text had words taken l s k c x) worn is)))

  pub closing_same : (words : List ℕ) (p log g : List Deed) (s t : S) (k j : Config) (c d : ℕ) → s ≡ t → k ≡ j → c ≡ d → IsClosing (shape_of s) k words c p log g
      → IsClosing (shape_of t) j words d p log g
  closing_same words p log g s t k j c d schema config number is =
      subst (λ x. IsClosing (shape_of x) j words d p log g) schema (subst (λ x. IsClosing (shape_of s) x words d p log g) config (subst (λ x. IsClosing (shape_of s) k words x p log g) number is))

-- the batches sealed are those taken, then the one that wasn't
pub sealed_left : (shape : ℕ → Option Shape) (accepted : Record → Bool) (text : Record → List ℕ) (k : Config) (c : ℕ) (q : List Deed) (x r held_back : Option Batch)
    (handed spares taken given drained after : List Batch)
    → length (waiting held_back ++ reverse handed) ≤ 1 + length spares → x ≡ held_back → IsPrefix spares given → length given ≤ length taken → taken ++ drained ≡ handed
    → YieldsFirst (λ (s : List Batch). s) drained r after
    → AreSealed shape accepted text k c q (waiting x ++ reverse handed) → AreSealed shape accepted text k c q (reverse (taken ++ waiting (option_or r x)))
sealed_left shape accepted text k c q x r held_back handed spares taken given drained after few is prefix back all yields sealed =
    let room : length (waiting x ++ reverse handed) + 0 ≤ 1 + length spares =
    let e : length (waiting x ++ reverse handed) ≡ length (waiting held_back ++ reverse handed) = ap (λ o. length (waiting o ++ reverse handed)) is in omega arith in
    subst (λ bs. AreSealed shape accepted text k c q bs)
    (sym (ap (λ o. reverse (taken ++ waiting o)) (rest_is r x drained after yields) ∙ one_left x 0 handed spares taken given drained room prefix back all)) sealed
