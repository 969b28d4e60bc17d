-- Names that the metadata may have can be read.
use Rattle.std.proofs.Common.{◌≡◌, ◌≤◌, ◌<◌, ◌+◌, ◌-◌, ◌^◌, ◌==◌, ◌++◌, ◌∷◌, ℕ, Bool, true, false, inl, List, [], length, drop, map, Option, Some, None, option_map, refl, ap, sym, subst, ◌∙◌, arith}
use Rattle.std.proofs.Common.{All}
use Rattle.std.proofs.lemmas.{Bool.eqb-true, Bool.Decides.nat_tests, List.length-map, List.Concat.flat_map_single, List.Folds.flat_map-map}
use Rattle.std.specs.{List.range_with_len, List.enumerate_from, Option.option_map_or, Prelude.option_and_then, Prelude.slice_get, Prelude.slice_index_or, Prelude.codes, Prelude.decimal}
use Rattle.dspec_ctf_reading.specs.Words.{width, EnabledRows, is_next, next_words, name_place, event_fields, type_name, labelled_type, typed_line, words_at, next_in_front, kind_line, field_line}
use Rattle.dspec_ctf_reading.specs.Words.{given_line, given_lines, event_name, field_lines, earlier, first_found, first_bad, has_stamp, labels_at, first_bad_label, label_fault_at, labels_fault}
use Rattle.dspec_ctf_reading.specs.Words.{fields_fault, is_text_before, can_mean, text_fault_at, texts_fault, fault_at, events_fault, names_fault, form_fault, metadata_fault, process_fault}
use Rattle.dspec_ctf_reading.specs.Words.{origin_fault, FieldLayout, is_digit, is_word, names_by, given_name, given_for, HasNumbers, Field, One, Kind, Unsigned, Signed, Float, Text, TextNext}
use Rattle.dspec_ctf_reading.specs.Words.{ProbeNames, Origin, Names, Numbered, Given, NameKind, NameFault, FieldCount, FieldName, Label, Word, Event, EventCount, Name, Form}
use Rattle.dspec_ctf_reading.proofs.{AllowedWords.earlier-none, AllowedWords.get-some, AllowedWords.index-map, AllowedWords.labels-fit, AllowedWords.map-none, AllowedWords.names-fit}
use Rattle.dspec_ctf_reading.proofs.{AllowedWords.none-found, AllowedWords.then-none, AllowedWords.wordy-quotable, AllowedWords.shown, AllowedWords.numbered-wordy, FieldTypes.IsQuotable}
use Rattle.dspec_ctf_reading.proofs.{FieldTypes.type-back, FieldTypes.kind-back, FieldTypes.no-text-type, FieldTypes.no-text-name, Headings.IsShown, Lines.IsWordy, Lines.IsPiece, Lines.AreLines-map}
use Rattle.dspec_ctf_reading.proofs.{Lines.typed-line, Lines.text-line, NextWords.kind_of, NextWords.name-same, NextWords.name-within, TextWords.next-text, TextWords.CanMean, TextWords.text-within}
use Rattle.dspec_ctf_reading.proofs.{TextWords.first-none, TextWords.flat, TextWords.shape_at, TextWords.piece_by, TextWords.piece_at, TextWords.AreFit, TextWords.run-none, TextWords.flat-pieces}
use Rattle.dspec_ctf_reading.proofs.{TextWords.are-fit, TextWords.words-few, Texts.IsTold}

-- numbered names
numbered-told : (e : EnabledRows) (place : ℕ) → place + 1 < 2 ^ 64 → length (event_fields e (place + 1)) ≤ 8 → IsTold e Numbered place
unfolding event_name field_lines is_word is_digit
numbered-told e place low few =
    let fs : List Field = event_fields e (place + 1) in
    let line : ℕ × Field → List ℕ = λ p. field_line (codes "arg_" ++ decimal p.0) p.1 in
    let shape : ℕ × Field → FieldLayout = λ p. record { name = codes "arg_" ++ decimal p.0; width = width p.1 } in
    record {
      low = low;
      called = wordy-quotable (codes "epid_" ++ decimal (place + 1)) (numbered-wordy (codes "epid_") (place + 1) refl low);
      fields = record {
        lines = map line (enumerate_from 0 fs);
        pieces = map (λ p. shape p ∷ []) (enumerate_from 0 fs);
        text_is = sym (flat_map-map (λ line. line) line (enumerate_from 0 fs));
        shapes_are = flat_map-map (λ piece. piece) (λ p. shape p ∷ []) (enumerate_from 0 fs) ∙ flat_map_single shape (enumerate_from 0 fs);
        are = AreLines-map line (λ p. shape p ∷ []) (length fs)
            (λ k f within. typed-line (type_name f) (codes "arg_" ++ decimal k) (width f) (kind-back Unsigned f) (no-text-name f)
            (numbered-wordy (codes "arg_") k refl (omega (arith, few, within)))) 0 fs (omega arith);
      };
    }

-- given names
module _ (e : EnabledRows) (given : List ProbeNames) where
  -- the names of the event at a place, of which nothing is wrong
  record IsFit (place : ℕ) (n : ProbeNames) : Type 0 where
    here : slice_get given place ≡ Some n
    event : IsWordy n.event.now
    many : length n.fields.now + next_words n.kinds ≡ length (event_fields e (place + 1))
    can : CanMean n.kinds (event_fields e (place + 1))
    fields : (k : ℕ) → k < length n.fields.now → IsWordy (option_map_or (λ name. name.now) (slice_get n.fields.now k) [])
    labels : (k : ℕ) → k < length n.fields.now → All IsQuotable (labels_at n k)

-- what `names_fault` finds of them
fit-at : (stamped : Bool) (e : EnabledRows) (given : List ProbeNames) (place : ℕ) (n : ProbeNames) → slice_get given place ≡ Some n → IsWordy n.event.now
    → fault_at stamped e given place ≡ None → IsFit e given place n
unfolding fault_at fields_fault texts_fault text_fault_at labels_fault label_fault_at
fit-at stamped e given place n here event is =
    let names : List (List ℕ) = map (λ name. name.now) n.fields.now in
    let fs : List Field = event_fields e (place + 1) in
    let test : ProbeNames → Option NameFault =
    λ m. earlier (fields_fault stamped (place + 1) (map (λ name. name.now) m.fields.now) (next_words m.kinds) (event_fields e (place + 1)))
    (earlier (texts_fault (place + 1) m.kinds (event_fields e (place + 1))) (labels_fault (place + 1) m)) in
    let found_is : test n ≡ None = ap (option_and_then test) (sym here) ∙ is in
    let all = earlier-none (fields_fault stamped (place + 1) names (next_words n.kinds) fs) (earlier (texts_fault (place + 1) n.kinds fs) (labels_fault (place + 1) n)) found_is in
    let both = earlier-none (texts_fault (place + 1) n.kinds fs) (labels_fault (place + 1) n) all.1 in
    let told : ℕ × NameKind → NameFault = λ bad. FieldName (place + 1) bad.0 bad.1 in
    let counted : ((length names + next_words n.kinds == length fs) ≡ true) × (option_map told (first_bad stamped names) ≡ None) =
    then-none (length names + next_words n.kinds == length fs) (FieldCount (place + 1)) (option_map told (first_bad stamped names)) all.0 in
    let can : CanMean n.kinds fs =
    λ p within.
    (then-none (can_mean (kind_of n.kinds p) (width (slice_index_or fs p One) == 8) (is_text_before n.kinds p)) (Word (place + 1) p) None
    (none-found (text_fault_at (place + 1) n.kinds fs) (length n.kinds) 0 p both.0 (omega arith) (omega (arith, within)))).0 in
    let fields_fit : first_bad stamped names ≡ None = map-none told (first_bad stamped names) counted.1 in
    let labels_none : (k : ℕ) → k < length n.fields.now → first_bad_label (labels_at n k) ≡ None =
    λ k within. map-none (λ number. Label (place + 1) k number) (first_bad_label (labels_at n k))
    (none-found (label_fault_at (place + 1) n) (length n.fields.now) 0 k both.1 (omega arith) (omega (arith, within))) in
    record {
      here = here;
      event = event;
      many = ap (λ k. k + next_words n.kinds) (sym (length-map n.fields.now (λ name. name.now))) ∙ eqb-true (length names + next_words n.kinds) (length fs) counted.0;
      can = can;
      fields = λ k within.
          subst IsWordy (index-map (λ name. name.now) n.fields.now k) (names-fit stamped names fields_fit k (omega (arith, within, length-map n.fields.now (λ name. name.now))));
      labels = λ k within. labels-fit (labels_at n k) (labels_none k within);
    }

-- a number's line
number-piece : (n : ProbeNames) (k : ℕ) (f : Field) (kind : Kind) (name : List ℕ)
    → IsWordy name × (All IsQuotable (labels_at n (name_place n.kinds k)) × (length (labels_at n (name_place n.kinds k)) ≤ 2 ^ 64)) → given_name n k ≡ name
    → IsPiece (typed_line (labelled_type kind (labels_at n (name_place n.kinds k)) f) name) (shape_at n.kinds (given_name n) (k, f) ∷ [])
number-piece n k f kind name fit is =
    let labels : List (List ℕ) = labels_at n (name_place n.kinds k) in
    subst (λ called. IsPiece (typed_line (labelled_type kind labels f) name) (record { name = called; width = width f } ∷ [])) (sym is)
    (typed-line (labelled_type kind labels f) name (width f) (λ more. type-back kind labels f more fit.1.1 fit.1.0) (no-text-type kind labels f) fit.0)

-- a field's line, by what the field means
kind-piece : (n : ProbeNames) (k : ℕ) (f : Field) (kind : Kind) (name : List ℕ)
    → (is_next kind ≡ false → IsWordy name × (All IsQuotable (labels_at n (name_place n.kinds k)) × (length (labels_at n (name_place n.kinds k)) ≤ 2 ^ 64)))
    → words_at n k ≤ 8 → given_name n k ≡ name → IsPiece (kind_line n k f kind name) (piece_by n.kinds (given_name n) kind (k, f))
kind-piece n k f TextNext name fit few is = inl (refl, refl)
kind-piece n k f Text name fit few is = grind (arith, nat_tests, IsPiece, text-line)
kind-piece n k f Unsigned name fit few is = number-piece n k f Unsigned name (fit refl) is
kind-piece n k f Signed name fit few is = number-piece n k f Signed name (fit refl) is
kind-piece n k f Float name fit few is = number-piece n k f Float name (fit refl) is

-- the next words of a text have no line
no-line : {A : Type 0} (o : Option A) (none : List ℕ) → option_map_or (λ a. none) o none ≡ none
no-line None none = refl
no-line (Some a) none = refl

-- the line of a field
given-line : (e : EnabledRows) (given : List ProbeNames) (place : ℕ) (n : ProbeNames) → IsFit e given place n → ((k : ℕ) → length (labels_at n k) ≤ 2 ^ 64)
    → (k : ℕ) (f : Field) → k < length (event_fields e (place + 1)) → words_at n k ≤ 8 → IsPiece (given_line n k f) (piece_at n.kinds (given_name n) (k, f))
unfolding given_line
given-line e given place n fit few k f within short = go (kind_of n.kinds k) refl
  where
    fs : List Field
    fs = event_fields e (place + 1)

    at : ℕ
    at = name_place n.kinds k

    named : is_next (kind_of n.kinds k) ≡ false → IsPiece (given_line n k f) (piece_at n.kinds (given_name n) (k, f))
    named other =
        let inside : at < length n.fields.now =
        name-within n.kinds (length n.fields.now) (length fs) k fit.many (λ q is. text-within n.kinds fs fit.can q (next-text (kind_of n.kinds q) is)) within other in
        let found = get-some n.fields.now at inside in
        let word : IsWordy (found.0).now = subst (λ o. IsWordy (option_map_or (λ name. name.now) o [])) found.1 (fit.fields at inside) in
        let called : given_name n k ≡ (found.0).now = ap (λ o. option_map_or (λ name. name.now) o []) found.1 in
        subst (λ o. IsPiece (option_map_or (λ name. kind_line n k f (kind_of n.kinds k) name.now) o []) (piece_at n.kinds (given_name n) (k, f))) (sym found.1)
        (kind-piece n k f (kind_of n.kinds k) (found.0).now (λ _. (word, (fit.labels at inside, few at))) short called)

    go : (kind : Kind) → kind_of n.kinds k ≡ kind → IsPiece (given_line n k f) (piece_at n.kinds (given_name n) (k, f))
    go TextNext is =
        inl (
          ap (λ kind. option_map_or (λ name. kind_line n k f kind name.now) (slice_get n.fields.now at) []) is ∙ no-line (slice_get n.fields.now at) [],
          ap (λ kind. piece_by n.kinds (given_name n) kind (k, f)) is,
        )
    go Text is = named (ap is_next is)
    go Unsigned is = named (ap is_next is)
    go Signed is = named (ap is_next is)
    go Float is = named (ap is_next is)

given-told : (e : EnabledRows) (names : Names) (given : List ProbeNames) (place : ℕ) (n : ProbeNames) → place + 1 < 2 ^ 64 → length (event_fields e (place + 1)) ≤ 8
    → ((k : ℕ) → length (labels_at n k) ≤ 2 ^ 64)
    → given_for names (place + 1) ≡ Some n → event_name names place ≡ n.event.now → field_lines names place (event_fields e (place + 1)) ≡ given_lines n (event_fields e (place + 1))
    → ((k : ℕ) → (names_by names).field (place + 1) k ≡ given_name n k) → IsFit e given place n → IsTold e names place
given-told e names given place n low most few here name_is lines_are called fit =
    let fs : List Field = event_fields e (place + 1) in
    let line : ℕ × Field → List ℕ = λ p. given_line n p.0 p.1 in
    let piece : ℕ × Field → List FieldLayout = piece_at n.kinds (given_name n) in
    let same : (q : ℕ) → is_next (kind_of n.kinds (q + 1)) ≡ true → given_name n (q + 1) ≡ given_name n q =
    λ q is. ap (λ at. option_map_or (λ name. name.now) (slice_get n.fields.now at) []) (name-same n.kinds q is) in
    let fits : AreFit n.kinds (given_name n) 0 fs = are-fit n.kinds fs (given_name n) fit.can 0 fs (omega arith) (λ i. ap (λ k. slice_index_or fs k One) (omega arith)) in
    let none : next_in_front (drop 0 n.kinds) ≡ 0 = run-none n.kinds (given_name n) 0 (first-none n.kinds fs fit.can) in
    let all : flat (map piece (enumerate_from 0 fs)) ≡ map (shape_at n.kinds (given_name n)) (enumerate_from 0 fs) =
    flat-pieces n.kinds (given_name n) same 0 fs fits ∙ ap (λ r. drop r (map (shape_at n.kinds (given_name n)) (enumerate_from 0 fs))) none in
    record {
      low = low;
      called = subst IsQuotable (sym name_is) (wordy-quotable n.event.now fit.event);
      fields = record {
        lines = map line (enumerate_from 0 fs);
        pieces = map piece (enumerate_from 0 fs);
        text_is = lines_are ∙ sym (flat_map-map (λ line. line) line (enumerate_from 0 fs));
        shapes_are = all ∙ shapes-same (given_name n) ((names_by names).field (place + 1)) (λ k. sym (called k)) 0 fs;
        are = AreLines-map line piece (length fs) (λ k f within. given-line e given place n fit few k f within (words-few n fs fit.can most k within)) 0 fs (omega arith);
      };
    }
  where
    shapes-same : (name other : ℕ → List ℕ) → ((k : ℕ) → name k ≡ other k) → (k : ℕ) (gs : List Field)
        → map (shape_at n.kinds name) (enumerate_from k gs) ≡ map (shape_at n.kinds other) (enumerate_from k gs)
    shapes-same name other each k [] = refl
    shapes-same name other each k (g ∷ gs) = let rest = shapes-same name other each (k + 1) gs in (λ i. record { name = each k i; width = width g } ∷ rest i)

-- all events have names that can be read
pub all-told : (origin : Origin) (form : Form) (e : EnabledRows) (names : Names) → HasNumbers origin form e names
    → names_fault form e names ≡ None → (place : ℕ) → place < length e.rows → IsTold e names place
unfolding names_fault event_name field_lines events_fault
all-told origin form e Numbered numbers is place within =
    numbered-told e place (omega (arith, within, numbers.events)) (numbers.fields (place + 1))
all-told origin form e (Given given) numbers is place within =
    let stamped : Bool = has_stamp form e.header in
    let names : List (List ℕ) = map (λ n. n.event.now) given.now in
    let told : ℕ × NameKind → NameFault = λ bad. Event (bad.0 + 1) bad.1 in
    let counted : ((length given.now == length e.rows) ≡ true)
    × (earlier (option_map told (first_bad false names)) (first_found (fault_at stamped e given.now) (range_with_len 0 (length e.rows))) ≡ None) =
    then-none (length given.now == length e.rows) EventCount
    (earlier (option_map told (first_bad false names)) (first_found (fault_at stamped e given.now) (range_with_len 0 (length e.rows)))) is in
    let both = earlier-none (option_map told (first_bad false names)) (first_found (fault_at stamped e given.now) (range_with_len 0 (length e.rows))) counted.1 in
    let many : length given.now ≡ length e.rows = eqb-true (length given.now) (length e.rows) counted.0 in
    let found = get-some given.now place (omega (arith, within, many)) in
    let n : ProbeNames = found.0 in
    let back : (place + 1) - 1 ≡ place = omega arith in
    let here : slice_get given.now ((place + 1) - 1) ≡ Some n = ap (slice_get given.now) back ∙ found.1 in
    let events : first_bad false names ≡ None = map-none told (first_bad false names) both.0 in
    let event : IsWordy n.event.now =
    subst (λ o. IsWordy (option_map_or (λ m. m.event.now) o [])) found.1
    (subst IsWordy (index-map (λ m. m.event.now) given.now place) (names-fit false names events place (omega (arith, within, many, length-map given.now (λ m. m.event.now))))) in
    let few : (k : ℕ) → length (labels_at n k) ≤ 2 ^ 64 =
    λ k. subst (λ o. option_map_or (λ m. length (labels_at m k)) o 0 ≤ 2 ^ 64) here (numbers.labels (place + 1) k) in
    given-told e (Given given) given.now place n (omega (arith, within, numbers.events)) (numbers.fields (place + 1)) few here
    (ap (λ o. option_map_or (λ m. m.event.now) o []) found.1)
    (ap (λ o. option_map_or (λ m. given_lines m (event_fields e (place + 1))) o []) found.1)
    (λ k. ap (λ o. option_map_or (λ m. given_name m k) o []) here)
    (fit-at stamped e given.now place n found.1 event (none-found (fault_at stamped e given.now) (length e.rows) 0 place both.1 (omega arith) (omega (arith, within))))

pub names-none : (origin : Origin) (form : Form) (e : EnabledRows) (names : Names) → origin_fault origin form e names ≡ None → names_fault form e names ≡ None
unfolding origin_fault metadata_fault
names-none origin form e names is =
    let first = earlier-none (metadata_fault form e names) (option_and_then process_fault origin.process) is in
    let second = earlier-none (form_fault form e.header) (option_map (λ fault. Name fault) (names_fault form e names)) first.0 in
    map-none (λ fault. Name fault) (names_fault form e names) second.1

pub process-shown : (origin : Origin) (form : Form) (e : EnabledRows) (names : Names) → HasNumbers origin form e names → origin_fault origin form e names ≡ None → IsShown origin.process
unfolding origin_fault
process-shown origin form e names numbers is =
    shown origin.process (earlier-none (metadata_fault form e names) (option_and_then process_fault origin.process) is).1 numbers.pid
