-- Serves proofs. Parts of a record have room after each other.
use Rattle.std.proofs.Common.{◌≡◌, ◌≤◌, ◌+◌, ◌++◌, ℕ, List, length, length-append, arith}
use Rattle.dspec_probe.specs.{Words.Outside.Field, declared.kind.Kind.Kind}

pub le-refl : (n : ℕ) → n ≤ n
le-refl n = omega arith

pub none-few : (r : ℕ) → 0 + r ≤ r
none-few r = omega arith

-- a text has room in as many places as it has words
pub two-few : (r : ℕ) → 2 + r ≤ 1 + (1 + r)
two-few r = omega arith

pub three-few : (r : ℕ) → 3 + r ≤ 1 + (1 + (1 + r))
three-few r = omega arith

pub four-few : (r : ℕ) → 4 + r ≤ 1 + (1 + (1 + (1 + r)))
four-few r = omega arith

pub five-few : (r : ℕ) → 5 + r ≤ 1 + (1 + (1 + (1 + (1 + r))))
five-few r = omega arith

pub six-few : (r : ℕ) → 6 + r ≤ 1 + (1 + (1 + (1 + (1 + (1 + r)))))
six-few r = omega arith

-- a part has room in the places that the one in front of it left
pub both-few : (fs gs : List Field) (l m r : ℕ) → length fs + l ≤ r → length gs + m ≤ l → length (fs ++ gs) + m ≤ r
both-few fs gs l m r first after = omega (arith, first, after, length-append fs gs)

pub both-same : (ks ls : List Kind) (fs gs : List Field) → length ks ≡ length fs → length ls ≡ length gs → length (ks ++ ls) ≡ length (fs ++ gs)
both-same ks ls fs gs first after = omega (arith, first, after, length-append ks ls, length-append fs gs)

-- the fields of a record
pub within-eight : (fs : List Field) (left : ℕ) → length fs + left ≤ 8 → length fs ≤ 8
within-eight fs left few = omega (arith, few)
