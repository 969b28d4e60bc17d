-- A Vec whose element was written as it was is the Vec.
use Rattle.std.proofs.{Common.◌≡◌, Common.ℕ, Common.List, Common.length, Common.set, Common.get_or, Common.ap, Common.◌∙◌, Common.subst, Math.Nat.ℕ_set, lemmas.List.set-get_or}
use Rattle.std.specs.{Vec.with_item, declared.vec.Vec.Vec}

-- lengths are equal in one way
same_length : (m n : ℕ) (p q : m ≡ n) → p ≡ q
same_length m n p q = ℕ_set m n p q

-- the element written as it was
pub kept_item : {X Z : Type 0} (v : Vec X Z) (i : ℕ) (x : X) → x ≡ get_or v.items i x → with_item v i x ≡ v
kept_item {X} {Z} v i x e = go (set v.items i x) v.items (ap (set v.items i) e ∙ set-get_or v.items i x) (with_item v i x).ok.0 v.ok.0
  where
    make : (xs : List X) → v.len ≡ length xs → Vec X Z
    make xs p = record { ptr = v.ptr; len = v.len; cap = v.cap; alloc = v.alloc; items = xs; ok = (p, v.ok.1); small = v.small }

    go : (xs ys : List X) → xs ≡ ys → (p : v.len ≡ length xs) (q : v.len ≡ length ys) → make xs p ≡ make ys q
    go xs ys e p = subst (λ zs. (q : v.len ≡ length zs) → make xs p ≡ make zs q) e (λ q. ap (make xs) (same_length v.len (length xs) p q))
