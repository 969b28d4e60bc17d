-- Each batch that a sink got of a session has the number of the CPU that it came from.
use Rattle.std.proofs.Common.{◌≡◌, ◌<◌, ◌==◌, ℕ, Bool, true, false, if◌then◌else◌, List, [], ◌∷◌, ◌++◌, Option, refl, sym, subst, reverse, append_assoc}
use Rattle.std.proofs.lemmas.{Bool.eq-eqb, List.reverse-append, List.reverse-reverse, List.Elements.All-head, List.Elements.All-tail}
use Rattle.std.specs.List.{AllByRecursion}
use Rattle.dspec_trace_reading.specs.Words.{Record, waiting, IsWithSeals, AreFrom, Passed, left_batches, passed_from, HaveNumbers, Shape, Config, Deed, Batch, Left}
use Rattle.dspec_deeds.specs.declared.deed.Deed.TheVariants as deed

-- these batches have that number
abbrev pub Numbered : ℕ → List Batch → Type 0
Numbered c bs = AllByRecursion (λ (b : Batch). b.cpu ≡ c) bs

both : (c : ℕ) (xs ys : List Batch) → Numbered c xs → Numbered c ys → Numbered c (xs ++ ys)
both c [] ys first second = second
both c (x ∷ xs) ys (one, first) second = (one, both c xs ys first second)

reversed : (c : ℕ) (xs : List Batch) → Numbered c xs → Numbered c (reverse xs)
reversed c [] all = all
reversed c (x ∷ xs) (one, all) = subst (λ ys. Numbered c ys) (sym (reverse-append (x ∷ []) xs)) (both c (reverse xs) (x ∷ []) (reversed c xs all) (one, tt))

-- so have those that were sealed
module _ (shape : ℕ → Option Shape) (accepted : Record → Bool) (text : Record → List ℕ) (k : Config) (c : ℕ) where
  sealed_numbered : (q entered : List Deed) (bs : List Batch) → IsWithSeals shape accepted text k c entered bs q → Numbered c bs
  sealed_numbered [] entered bs (none, nil) = subst (λ ys. Numbered c ys) (sym nil) tt
  sealed_numbered (deed.Seal a ∷ p) entered bs (b, rest, is, sealed, more) = subst (λ ys. Numbered c ys) (sym is) (sealed.of_cpu, sealed_numbered p entered rest more)
  sealed_numbered (d ∷ p) entered bs s = sealed_numbered p s.0 bs s.2

  -- and the last buffer, where it has the number
  pub taken_numbered : (q entered : List Deed) (taken : List Batch) (l : Left) → IsWithSeals shape accepted text k c entered (reverse (taken ++ waiting l.rest)) q → l.last.cpu ≡ c
      → Numbered c (taken ++ left_batches l)
  taken_numbered q entered taken l sealed last =
      let first : Numbered c (taken ++ waiting l.rest) =
      subst (λ ys. Numbered c ys) (reverse-reverse (taken ++ waiting l.rest)) (reversed c (reverse (taken ++ waiting l.rest)) (sealed_numbered q entered (reverse (taken ++ waiting l.rest)) sealed)) in
      subst (λ ys. Numbered c ys) (append_assoc taken (waiting l.rest) (l.last ∷ [])) (both c (taken ++ waiting l.rest) (l.last ∷ []) first (last, tt))

rest_numbered : (c : ℕ) (q : Bool) (b : Batch) (bs : List Batch) → Numbered c (if q then b ∷ bs else bs) → Numbered c bs
rest_numbered c true b bs all = all.1
rest_numbered c false b bs all = all

-- where each CPU's batches have its number
pub have_numbers : (n : ℕ) (passed : List Passed) → AreFrom n passed → ((d : ℕ) → d < n → Numbered d (passed_from d passed)) → HaveNumbers passed
have_numbers n [] from each = tt
have_numbers n (x ∷ xs) from each =
    let below : x.from < n = All-head (λ (y : Passed). y.from < n) x xs from in
    let own : Numbered x.from (x.batch ∷ passed_from x.from xs) =
    subst (λ q. Numbered x.from (if q then x.batch ∷ passed_from x.from xs else passed_from x.from xs)) (eq-eqb x.from x.from refl) (each x.from below) in
    (own.0, have_numbers n xs (All-tail (λ (y : Passed). y.from < n) x xs from) (λ d lt. rest_numbered d (x.from == d) x.batch (passed_from d xs) (each d lt)))
