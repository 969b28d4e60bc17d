-- The first fault among the words of a record or of an enabling.
use Rattle.std.proofs.{Common.◌≡◌, Common.ℕ, Common.◌≤◌, Common.true, Common.List, Common.◌∷◌, Common.length, Common.is_ok, Common.Ok, Common.Err, Common.refl, lemmas.Bool.le-leb}
use Rattle.dspec_schedule.specs.Words.{EnabledRows, epid_of, record_read, enabling_read, field_of_word, each, numbers_of, Header}
use Rattle.dspec_schedule.specs.declared.fault.LineKind.{LineKind}

pub record_of-values_fault : (h : Header) (words : List (List ℕ)) (epid : List ℕ) (values : List (List ℕ)) (e : ℕ × ℕ) (kind : LineKind) → words ≡ epid ∷ values
    → length values ≤ 8 → epid_of h epid ≡ Ok e → numbers_of values ≡ Err kind → Err kind ≡ record_read h words
unfolding record_read
record_of-values_fault h words epid values e kind parts few number fault = rw (parts, le-leb _ _ few, number, fault) refl

pub enabling_of-field_fault : (rows : EnabledRows) (words : List (List ℕ)) (kind : LineKind)
    → is_ok (numbers_of words) ≡ true → length words ≤ 8 → each field_of_word words ≡ Err kind → Err kind ≡ enabling_read true rows words
unfolding enabling_read
enabling_of-field_fault rows words kind numbers few fault = rw (numbers, le-leb _ _ few, fault) refl
