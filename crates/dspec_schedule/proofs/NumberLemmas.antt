-- What `parse` answers, and steps over a list, in the words of specs/.
use Rattle.std.proofs.Common.{◌≡◌, ℕ, ◌<◌, Bool, true, false, nat_lt, List, [], ◌∷◌, slice_index, Result, Ok, Err, refl, ap, arith, IfErr}
use Rattle.std.proofs.lemmas.{Bool.ltb-true, Bool.lt-ltb, Str.Parse.IsNumeralModel, Str.Parse.numerals_by_value, Str.Parse.tells_all_ascii_digits}
use Rattle.std.specs.{Result.OkIff, Str.all_ascii_digits, Str.Parse.IsNumeral, Str.Parse.digits_value}
use Rattle.dspec_schedule.specs.{Words.is_numeral, Words.number_read, declared.fault.LineKind.LineKind, declared.fault.LineKind.TheVariants.BadNumber}

digits_model : IsNumeralModel (λ ds. all_ascii_digits ds ≡ true) (digits_value 10)
digits_model = numerals_by_value (λ ds. all_ascii_digits ds ≡ true) tells_all_ascii_digits

is_numeral-from : (word : List ℕ) → IsNumeral 10 word → is_numeral word ≡ true
is_numeral-from [] n = absurd (omega arith)
is_numeral-from (c ∷ cs) n = digits_model.from (c ∷ cs) n.1

is_numeral-to : (word : List ℕ) → is_numeral word ≡ true → IsNumeral 10 word
is_numeral-to [] e = absurd (cc)
is_numeral-to (c ∷ cs) e = (omega arith, digits_model.to (c ∷ cs) e)

-- what the tests of `number_of` answer, by cases
number_by_tests : (limit : ℕ) (word : List ℕ) (a b : Bool) → is_numeral word ≡ a → nat_lt (digits_value 10 word) limit ≡ b
    → (r : Result ℕ LineKind) → OkIff r (IsNumeral 10 word × (digits_value 10 word < limit)) (digits_value 10 word) → IfErr r (λ kind. kind ≡ BadNumber)
    → r ≡ number_read limit word
unfolding number_read
number_by_tests limit word true true is_a is_b (Ok x) told kind = rw (is_a, is_b) (ap Ok told.1)
number_by_tests limit word true true is_a is_b (Err k) told kind = absurd (told (is_numeral-to word is_a, ltb-true _ _ is_b))
number_by_tests limit word true false is_a is_b (Ok x) told kind = let e = lt-ltb _ _ told.0.1 in absurd (cc)
number_by_tests limit word true false is_a is_b (Err k) told kind = rw (is_a, is_b) (ap Err kind)
number_by_tests limit word false b is_a is_b (Ok x) told kind = let e = is_numeral-from word told.0.0 in absurd (cc)
number_by_tests limit word false b is_a is_b (Err k) told kind = rw is_a (ap Err kind)

pub number_of-parsed : (limit : ℕ) (word : List ℕ) (r : Result ℕ LineKind)
    → OkIff r (IsNumeral 10 word × (digits_value 10 word < limit)) (digits_value 10 word) → IfErr r (λ kind. kind ≡ BadNumber) → r ≡ number_read limit word
number_of-parsed limit word r told kind = number_by_tests limit word _ _ refl refl r told kind

-- a plus is no digit
pub number_of-plus : (limit : ℕ) (word : List ℕ) → slice_index word 0 ≡ 43 → Err BadNumber ≡ number_read limit word
unfolding number_read
number_of-plus limit [] plus = refl
number_of-plus limit (c ∷ cs) plus = let e : c ≡ 43 = plus in rw e refl
