-- The deeds of a call, as the page tells them by its answer.
use Rattle.std.proofs.Common.{arith, ◌≡◌, ℕ, Bool, true, List, [], ◌∷◌, ◌++◌, map, refl, ap, ◌∙◌, append_assoc}
use Rattle.std.proofs.lemmas.Bool.Decides.{nat_tests}
use Rattle.dspec_cpu.specs.Words.{Speculation, did, settled_did, misses, opening_deeds, Deed, DecideFate, Opening, Scan, Settle}
use Rattle.dspec_deeds.proofs.TestLemmas.{number_is_itself}

-- a call of speculation touches no record
misses_told : (c : ℕ) (bs : List Bool) (p : List Deed) → did c (misses c bs ++ p) ≡ did c p
misses_told c [] p = refl
misses_told c (b ∷ bs) p = misses_told c bs p

scan_told : (c : ℕ) (bs : List Bool) (p : List Deed) → did c ((misses c bs ++ Scan c true ∷ []) ++ p) ≡ did c p
scan_told c bs p = ap (did c) (append_assoc (misses c bs) (Scan c true ∷ []) p) ∙ misses_told c bs (Scan c true ∷ p)

pub opening_told : (c : ℕ) (bs : List Bool) (a : Opening) (p : List Deed) → did c (opening_deeds c bs a ++ p) ≡ did c p
opening_told c bs a p = grind (arith, nat_tests, scan_told)

-- the deeds of these settlements, by CPU c, are told as a service's
abbrev pub settles : ℕ → List (Speculation × DecideFate) → List Deed
settles c ss = map (λ (s : Speculation × DecideFate). Settle c s.0 s.1) ss

pub settles_told : (c : ℕ) (ss : List (Speculation × DecideFate)) (p : List Deed) → did c (settles c ss ++ p) ≡ settled_did ss ++ did c p
settles_told c [] p = refl
settles_told c (x ∷ ss) p = rw (number_is_itself c, settles_told c ss p) refl
