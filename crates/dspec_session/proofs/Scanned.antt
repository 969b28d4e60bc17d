-- A call of speculation is one call, and offers nothing.
use Rattle.std.proofs.Common.{◌≡◌, ℕ, ◌+◌, Bool, true, false, List, [], ◌∷◌, ◌++◌, refl, ◌∙◌, ap, if◌then◌else◌, ◌≤◌, ◌<◌, ◌↔◌, arith, rules}
use Rattle.dspec_session.specs.Words.{Opening, Deed, Scan, offers, calls, misses, opening_deeds, is_worn_opening}
use Rattle.dspec_deeds.specs.declared.calls.Opening.TheVariants as opening
use Rattle.dspec_deeds.proofs.TestLemmas.{number_is_itself}

missed_offers : (c : ℕ) (bs : List Bool) (xs p : List Deed) → offers c ((misses c bs ++ xs) ++ p) ≡ offers c (xs ++ p)
missed_offers c [] xs p = refl
missed_offers c (b ∷ bs) xs p = let e = missed_offers c bs xs p in omega arith

missed_calls : (c : ℕ) (bs : List Bool) (xs p : List Deed) → calls c ((misses c bs ++ xs) ++ p) ≡ calls c (xs ++ p)
missed_calls c [] xs p = refl
missed_calls c (b ∷ bs) xs p = let e = missed_calls c bs xs p in omega arith

pub opening_offers : (c : ℕ) (bs : List Bool) (a : Opening) (p : List Deed) → offers c (opening_deeds c bs a ++ p) ≡ offers c p + 0
opening_offers c bs opening.Worn p = omega arith
opening_offers c bs opening.Stopped p = omega arith
opening_offers c bs a p = let e = missed_offers c bs (Scan c true ∷ []) p in omega arith

scan_call : (c : ℕ) (p : List Deed) (b : Bool) → calls c (Scan c b ∷ p) ≡ calls c p + 1
scan_call c p b = ap (λ (x : Bool). calls c p + (if x then 1 else 0)) (number_is_itself c)

pub opening_calls : (c : ℕ) (bs : List Bool) (a : Opening) (p : List Deed) → is_worn_opening a ≡ false → calls c (opening_deeds c bs a ++ p) ≡ calls c p + 1
opening_calls c bs opening.Worn p e = search rules
opening_calls c bs opening.Stopped p e = scan_call c p false
opening_calls c bs (opening.Id id) p e = let m = missed_calls c bs (Scan c true ∷ []) p in let s = scan_call c p true in omega arith
opening_calls c bs a p e = missed_calls c bs (Scan c true ∷ []) p ∙ scan_call c p true

pub not_worn : (a : Opening) (most now : ℕ) → (is_worn_opening a ≡ true) ↔ (most ≤ now) → now < most → is_worn_opening a ≡ false
not_worn opening.Worn most now w few = let reached = w.0 refl in absurd (omega arith)
not_worn a most now w few = refl
