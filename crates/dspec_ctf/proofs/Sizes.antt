-- How many bytes events have at most.
use Rattle.std.proofs.Common.{◌≡◌, ◌≤◌, ◌*◌, ℕ, zero, suc, List, [], ◌∷◌, length, Option, Some, None, refl, ap, arith}
use Rattle.std.proofs.lemmas.Bool.Decides.{nat_tests}
use Rattle.std.specs.Int.{bytes_low_first}
use Rattle.dspec_ctf.specs.Words.{Record, width, little_endian, EnabledRows, stamp_bytes, values_bytes, event, front_size, Field, One, Two, Four, Eight, Header}
use Rattle.dspec_record.specs.declared.header.Header.TheVariants as header

low-first : (i n x : ℕ) → length (bytes_low_first i n x) ≡ n
low-first i zero x = refl
low-first i (suc n) x = ap suc (low-first (suc i) n x)

pub length-little : (n x : ℕ) → length (little_endian n x) ≡ n
length-little n x = low-first 0 n x

pub narrow : (f : Field) → width f ≤ 8
narrow One = omega arith
narrow Two = omega arith
narrow Four = omega arith
narrow Eight = omega arith

stamp-small : (h : Header) (stamp : ℕ) → length (stamp_bytes h stamp) ≤ 8
stamp-small header.One stamp = omega arith
stamp-small header.Two stamp = omega (arith, length-little 8 stamp)

values-small : (fs : List Field) (vs : List ℕ) → length (values_bytes fs vs) ≤ 8 * length vs
values-small [] vs = omega arith
values-small (f ∷ fs) [] = omega arith
values-small (f ∷ fs) (v ∷ vs) = grind (arith, nat_tests, values-small fs vs, length-little, narrow)

pub event_small : (e : EnabledRows) (r : Record) → length r.values ≤ 8 → length (event e r) ≤ 76
event_small e r few = grind (arith, nat_tests, length-little, stamp-small, values-small)

-- and what stands before the events of a packet at least
pub front_least : (span : Option (ℕ × ℕ)) → 52 ≤ front_size span
front_least None = omega arith
front_least (Some span) = omega arith
