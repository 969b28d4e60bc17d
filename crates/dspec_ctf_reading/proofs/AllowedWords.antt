-- Words, identifiers and labels that the metadata may have can be read.
use Rattle.std.proofs.Common.{◌≡◌, ◌≢◌, ◌≤◌, ◌<◌, ◌+◌, ◌&&◌, ◌||◌, ◌==◌, ◌⊎◌, inl, inr, ℕ, zero, suc, Bool, true, false, cond, leb, not, List, [], ◌∷◌, length, map, take, Option, Some, None}
use Rattle.std.proofs.Common.{option_map, refl, subst, arith, All, ◌-◌, ◌^◌, ◌++◌, ◌∙◌, length-append}
use Rattle.std.proofs.lemmas.{Bool.eqb-true, Bool.eqb-false, Bool.leb-true, Bool.le-leb, Bool.ne_eqb, Bool.and_parts, Bool.and_from, Bool.or_cases, Bool.or_from, Bool.or_right, Bool.not_from_false}
use Rattle.std.proofs.lemmas.{Bool.not-false, Bool.Decides.nat_tests, Fmt.decimal_nonempty, List.Elements.All-from_get_or, List.Folds.list_all-append}
use Rattle.std.specs.{List.list_all, List.range_with_len, Option.option_map_or, Prelude.slice_get, Prelude.slice_index_or, Prelude.option_and_then, Prelude.decimal}
use Rattle.dspec_ctf_reading.specs.Words.{is_letter, is_word_byte, begins_well, is_identifier, unfit, earlier, first_found, bad_name, bad_at, first_bad, is_label_byte, is_label, bad_label_at}
use Rattle.dspec_ctf_reading.specs.Words.{first_bad_label, process_fault, is_digit, is_word, is_quoted, Process}
use Rattle.dspec_ctf_reading.proofs.{FieldTypes.IsQuotable, Headings.IsShown, Lines.IsWordy, Scanning.list_all-weaker, Scanning.decimal-digits}

-- where nothing is wrong
pub earlier-none : {A : Type 0} (a b : Option A) → earlier a b ≡ None → (a ≡ None) × (b ≡ None)
earlier-none None b is = (refl, is)
earlier-none (Some x) b is = absurd (cc)

pub map-none : {A B : Type 0} (f : A → B) (o : Option A) → option_map f o ≡ None → o ≡ None
map-none f None is = refl
map-none f (Some x) is = absurd (cc)

pub else-none : {A : Type 0} (b : Bool) (x : A) (o : Option A) → cond b (Some x) o ≡ None → (b ≡ false) × (o ≡ None)
else-none true x o is = absurd (cc)
else-none false x o is = (refl, is)

pub then-none : {A : Type 0} (b : Bool) (x : A) (o : Option A) → cond b o (Some x) ≡ None → (b ≡ true) × (o ≡ None)
then-none true x o is = (refl, is)
then-none false x o is = absurd (cc)

pub none-found : {A : Type 0} (f : ℕ → Option A) (k a place : ℕ) → first_found f (range_with_len a k) ≡ None → a ≤ place → place < a + k → f place ≡ None
none-found f zero a place is low high = absurd (omega (arith, low, high))
none-found f (suc k) a place is low high =
    let parts = earlier-none (f a) (first_found f (range_with_len (a + 1) k)) is in
    go (a == place) refl parts.0 (λ above. none-found f k (a + 1) place parts.1 above (omega (arith, high)))
  where
    go : (b : Bool) → (a == place) ≡ b → f a ≡ None → (a + 1 ≤ place → f place ≡ None) → f place ≡ None
    go true same first later = subst (λ n. f n ≡ None) (eqb-true a place same) first
    go false other first later = later (omega (arith, low, eqb-false a place other))

-- a part of a list by its place
pub index-map : {A : Type 0} (f : A → List ℕ) (xs : List A) (k : ℕ) → slice_index_or (map f xs) k [] ≡ option_map_or f (slice_get xs k) []
index-map f [] zero = refl
index-map f [] (suc k) = refl
index-map f (x ∷ xs) zero = refl
index-map f (x ∷ xs) (suc k) = index-map f xs k

pub get-some : {A : Type 0} (xs : List A) (k : ℕ) → k < length xs → (x : A) × (slice_get xs k ≡ Some x)
get-some [] k within = absurd (omega (arith, within))
get-some (x ∷ xs) zero within = (x, refl)
get-some (x ∷ xs) (suc k) within = get-some xs k (omega (arith, within))

-- what is a word can stand in quotes
quoted-of : (b : ℕ) → 48 ≤ b → b ≤ 122 → b ≢ 92 → is_quoted b ≡ true
unfolding is_quoted
quoted-of b low high other =
    and_from _ _ (and_from _ _ (le-leb 32 b (omega (arith, low))) (le-leb b 126 (omega (arith, high))))
    (not_from_false _ (or_from _ _ (ne_eqb b 34 (λ same. omega (arith, same, low))) (ne_eqb b 92 other)))

between : (low high b : ℕ) → (leb low b && leb b high) ≡ true → (low ≤ b) × (b ≤ high)
between low high b is = grind (arith, nat_tests, and_parts, leb-true)

digit-quoted : (b : ℕ) → is_digit b ≡ true → is_quoted b ≡ true
unfolding is_digit
digit-quoted b is =
    let range = between 48 57 b is in
    quoted-of b range.0 (omega (arith, range.1)) (λ same. omega (arith, same, range.1))

pub digit-word : (b : ℕ) → is_digit b ≡ true → is_word b ≡ true
unfolding is_word
digit-word b is = or_right _ (is_digit b) is

word-quoted : (b : ℕ) → is_word b ≡ true → is_quoted b ≡ true
unfolding is_word
word-quoted b is = by_digit (or_cases _ (is_digit b) is)
  where
    by_score : ((leb 97 b && leb b 122) ≡ true) ⊎ ((b == 95) ≡ true) → is_quoted b ≡ true
    by_score (inl small) = let range = between 97 122 b small in quoted-of b (omega (arith, range.0)) range.1 (λ same. omega (arith, same, range.0))
    by_score (inr score) = let same : b ≡ 95 = eqb-true b 95 score in quoted-of b (omega (arith, same)) (omega (arith, same)) (λ other. omega (arith, same, other))

    by_letter : ((leb 65 b && leb b 90) ≡ true) ⊎ (((leb 97 b && leb b 122) || (b == 95)) ≡ true) → is_quoted b ≡ true
    by_letter (inl big) = let range = between 65 90 b big in quoted-of b (omega (arith, range.0)) (omega (arith, range.1)) (λ same. omega (arith, same, range.1))
    by_letter (inr other) = by_score (or_cases _ _ other)

    by_digit : (((leb 65 b && leb b 90) || ((leb 97 b && leb b 122) || (b == 95))) ≡ true) ⊎ (is_digit b ≡ true) → is_quoted b ≡ true
    by_digit (inl letter) = by_letter (or_cases _ _ letter)
    by_digit (inr digit) = digit-quoted b digit

-- identifiers
begins-long : (name : List ℕ) → begins_well name ≡ true → 0 < length name
unfolding begins_well
begins-long [] is = absurd (cc)
begins-long (b ∷ name) is = omega arith

wordy : (name : List ℕ) → is_identifier name ≡ true → IsWordy name
unfolding IsWordy is_word is_digit is_word_byte is_letter
wordy name is =
    let parts = and_parts (begins_well name) (list_all is_word_byte name) is in
    (parts.1, begins-long name parts.0)

pub wordy-quotable : (name : List ℕ) → IsWordy name → IsQuotable name
unfolding IsWordy IsQuotable
wordy-quotable name fit = (list_all-weaker is_word is_quoted word-quoted name fit.0, fit.1)

fit-name : (name : List ℕ) → unfit name ≡ None → IsWordy name
unfolding unfit
fit-name name is =
    let first = else-none _ _ _ is in
    let second = else-none (not (is_identifier name)) _ _ first.1 in
    wordy name (not-false (is_identifier name) second.0)

pub names-fit : (stamped : Bool) (names : List (List ℕ)) → first_bad stamped names ≡ None → (place : ℕ) → place < length names → IsWordy (slice_index_or names place [])
unfolding first_bad bad_at bad_name
names-fit stamped names is place within =
    let none = none-found (bad_at stamped names) (length names) 0 place is (omega arith) (omega (arith, within)) in
    let bad = map-none _ (bad_name stamped (take place names) (slice_index_or names place [])) none in
    fit-name (slice_index_or names place []) (earlier-none (unfit (slice_index_or names place [])) _ bad).0

-- labels
pub label-fits : (label : List ℕ) → is_label label ≡ true → IsQuotable label
unfolding is_label is_label_byte is_quoted IsQuotable
label-fits label is =
    let parts = and_parts (leb 1 (length label) && leb (length label) 255) (list_all is_label_byte label) is in
    (parts.1, leb-true 1 (length label) (and_parts (leb 1 (length label)) (leb (length label) 255) parts.0).0)

pub labels-fit : (labels : List (List ℕ)) → first_bad_label labels ≡ None → All IsQuotable labels
unfolding first_bad_label bad_label_at
labels-fit labels is =
    All-from_get_or IsQuotable labels [] (λ k within. label-fits (slice_index_or labels k [])
    (then-none (is_label (slice_index_or labels k [])) k None (none-found (bad_label_at labels) (length labels) 0 k is (omega arith) (omega (arith, within)))).0)

-- the process
pub shown : (process : Option Process) → option_and_then process_fault process ≡ None → option_map_or (λ p. p.pid) process 0 < 2 ^ 64 → IsShown process
unfolding process_fault IsShown
shown None is low = tt
shown (Some p) is low =
    let first = else-none (not (is_label p.host.now)) _ _ is in
    let second = else-none (not (is_label p.name.now)) _ _ first.1 in
    (label-fits p.host.now (not-false (is_label p.host.now) first.0), (label-fits p.name.now (not-false (is_label p.name.now) second.0), low))

-- numbered names
pub numbered-wordy : (text : List ℕ) (n : ℕ) → list_all is_word text ≡ true → n < 2 ^ 64 → IsWordy (text ++ decimal n)
unfolding IsWordy
numbered-wordy text n fit low = (
  list_all-append is_word text (decimal n) ∙ and_from (list_all is_word text) (list_all is_word (decimal n)) fit (list_all-weaker is_digit is_word digit-word (decimal n) (decimal-digits n low)),
  omega (arith, decimal_nonempty n low, length-append text (decimal n)),
)
