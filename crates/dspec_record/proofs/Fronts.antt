-- The EPID at the front of some bytes, as a number and as its four bytes.
use Rattle.std.proofs.Common.{◌≡◌, ◌≤◌, ◌<◌, ◌^◌, ℕ, zero, suc, List, [], ◌∷◌, length, take, get_or, sym, ◌∙◌, ap, arith}
use Rattle.std.proofs.lemmas.{Bool.Decides.nat_tests, List.length-take-le, List.get_or-take, Nat.from_le_bytes-to_le_bytes_4}
use Rattle.std.specs.Int.{w32, from_le_bytes}
use Rattle.dspec_record.specs.Words.{little_endian, front_epid}

-- only the first four bytes count for an EPID
pub front_epid-take : (bytes : List ℕ) → front_epid (take 4 bytes) ≡ front_epid bytes
front_epid-take bytes = grind (arith, nat_tests, get_or-take)

-- and they are the number that they write
pub front_epid-is : (bytes : List ℕ) (e : ℕ) → e < 2 ^ 32 → take 4 bytes ≡ little_endian 4 e → front_epid bytes ≡ e
front_epid-is bytes e fits is =
    sym (front_epid-take bytes) ∙ ap (from_le_bytes w32) is ∙ from_le_bytes-to_le_bytes_4 e fits

take-small : (n : ℕ) (bytes : List ℕ) → ((i : ℕ) → get_or bytes i 0 < 256) → (i : ℕ) → get_or (take n bytes) i 0 < 256
take-small zero bytes small i = omega arith
take-small (suc n) [] small i = omega arith
take-small (suc n) (b ∷ bytes) small zero = small 0
take-small (suc n) (b ∷ bytes) small (suc i) = take-small n bytes (λ k. small (suc k)) i

-- the number has the bytes
pub little_endian-front_epid : (bytes : List ℕ) → 4 ≤ length bytes → ((i : ℕ) → get_or bytes i 0 < 256) → take 4 bytes ≡ little_endian 4 (front_epid bytes)
little_endian-front_epid bytes long small = grind (arith, nat_tests, length-take-le 4 bytes long, take-small 4 bytes small, front_epid-take bytes)

pub front_epid-lt : (bytes : List ℕ) → ((i : ℕ) → get_or bytes i 0 < 256) → front_epid bytes < 2 ^ 32
front_epid-lt bytes small = grind (arith, nat_tests)
