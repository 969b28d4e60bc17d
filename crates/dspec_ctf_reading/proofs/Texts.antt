-- The texts of events are read as their layouts.
use Rattle.std.proofs.Common.{◌≡◌, ◌≤◌, ◌<◌, ◌+◌, ◌-◌, ◌^◌, ◌++◌, ℕ, zero, suc, false, List, [], ◌∷◌, length, map, Option, Some, option_map, refl, ap, sym, ◌∙◌, arith, append_assoc, length-append}
use Rattle.std.proofs.lemmas.{Grind.flat_map-append, List.append-nil}
use Rattle.std.specs.{List.flat_map, List.range_with_len, Prelude.option_and_then, Prelude.codes, Prelude.decimal}
use Rattle.dspec_ctf_reading.specs.Words.{EnabledRows, event_fields, stamp_line, event_name, field_lines, event_number, event_front, event_text, typed_line, FieldLayout, EventLayout, PartRead}
use Rattle.dspec_ctf_reading.specs.Words.{then_read, past, is_digit, is_word, is_quoted, read_quoted, read_fields, read_event_text, read_event_texts, stamp_field, field_layouts, event_layout}
use Rattle.dspec_ctf_reading.specs.Words.{is_timed, names_by, Eight, Header, Unsigned, Form, AsTaken, ByTime, Names}
use Rattle.dspec_record.specs.declared.header.Header.TheVariants as header
use Rattle.dspec_ctf_reading.proofs.{FieldTypes.IsQuotable, FieldTypes.kind-back, FieldTypes.no-text-name, Lines.IsWordy, Lines.AreLines, Lines.joined, Lines.AreLines-append, Lines.typed-line}
use Rattle.dspec_ctf_reading.proofs.{Lines.lines-back, Scanning.read-run-back, Scanning.decimal-back, TextWords.flat}

-- the stamp as a field
pub record HasLines (text : List ℕ) (shapes : List FieldLayout) : Type 0 where
  pub lines : List (List ℕ)
  pub pieces : List (List FieldLayout)
  pub text_is : text ≡ joined lines
  pub shapes_are : flat pieces ≡ shapes
  pub are : AreLines lines pieces

no-lines : HasLines [] []
unfolding AreLines
no-lines = record { lines = []; pieces = []; text_is = refl; shapes_are = refl; are = tt }

stamp-lines : (form : Form) (h : Header) → HasLines (stamp_line form h) (stamp_field (is_timed form) h)
unfolding AreLines IsWordy is_word is_digit
stamp-lines AsTaken header.One = no-lines
stamp-lines AsTaken header.Two = record {
  lines = typed_line (codes "uint64_t") (codes "stamp") ∷ [];
  pieces = stamp_field false header.Two ∷ [];
  text_is = sym (append-nil (typed_line (codes "uint64_t") (codes "stamp")));
  shapes_are = refl;
  are = (typed-line (codes "uint64_t") (codes "stamp") 8 (λ more. kind-back Unsigned Eight more) (λ more. no-text-name Eight more) (refl, omega arith), tt);
}
stamp-lines (ByTime frequency) header.One = no-lines
stamp-lines (ByTime frequency) header.Two = no-lines

eight : (a b c d f g h k x : List ℕ) → (a ++ b ++ c ++ d ++ f ++ g ++ h ++ k) ++ x ≡ a ++ (b ++ (c ++ (d ++ (f ++ (g ++ (h ++ (k ++ x)))))))
eight a b c d f g h k x = simp append_assoc

-- the event at a place has a name and fields that can be read
pub record IsTold (e : EnabledRows) (names : Names) (place : ℕ) : Type 0 where
  pub low : place + 1 < 2 ^ 64
  pub called : IsQuotable (event_name names place)
  pub fields : HasLines (field_lines names place (event_fields e (place + 1))) (field_layouts ((names_by names).field (place + 1)) (event_fields e (place + 1)))

pub event-text-back : (form : Form) (e : EnabledRows) (names : Names) (place : ℕ) (rest : List ℕ) → IsTold e names place
    → read_event_text (event_text form e names place ++ rest) ≡ Some (event_layout (names_by names) (is_timed form) e (place + 1), rest)
unfolding event_text event_front event_number IsQuotable is_quoted is_digit
event-text-back form e names place rest told =
    let stamp : HasLines (stamp_line form e.header) (stamp_field (is_timed form) e.header) = stamp-lines form e.header in
    let name : List ℕ = event_name names place in
    let others : List ℕ = field_lines names place (event_fields e (place + 1)) in
    let end : List ℕ = codes "\t};\n};\n" ++ rest in
    let shapes : List FieldLayout = stamp_field (is_timed form) e.header ++ field_layouts ((names_by names).field (place + 1)) (event_fields e (place + 1)) in
    let all : List (List ℕ) = stamp.lines ++ told.fields.lines in
    let tail : List ℕ = joined all ++ end in
    let tail_is : stamp_line form e.header ++ (others ++ end) ≡ tail =
    (λ i. stamp.text_is i ++ (told.fields.text_is i ++ end)) ∙ sym (append_assoc (joined stamp.lines) (joined told.fields.lines) end)
    ∙ ap (λ bytes. bytes ++ end) (sym (flat_map-append (λ line. line) stamp.lines told.fields.lines)) in
    let c : ℕ → List ℕ → List ℕ → PartRead EventLayout =
    λ id word more. past (codes "\";\n\tstream_id = 0;\n\tfields := struct {\n")
    more (λ more. option_map (λ p. (record { id = id; name = word; fields = p.0 }, p.1)) (read_fields (length more) more)) in
    let b : ℕ → List ℕ → PartRead EventLayout = λ id more. past (codes ";\n\tname = \"") more (λ more. then_read (read_quoted more) (λ word more. c id word more)) in
    let back : (place + 1) - 1 ≡ place = omega arith in
    ap read_event_text
    (eight (codes "\nevent {\n\tid = ") (decimal (place + 1)) (codes ";\n\tname = \"")
    name (codes "\";\n\tstream_id = 0;\n\tfields := struct {\n") (stamp_line form e.header) others (codes "\t};\n};\n") rest
    ∙ ap (λ bytes. codes "\nevent {\n\tid = " ++ (decimal (place + 1) ++ (codes ";\n\tname = \"" ++ (name ++ (codes "\";\n\tstream_id = 0;\n\tfields := struct {\n" ++ bytes))))) tail_is)
    ∙ ap (λ part. then_read part b)
    (decimal-back (place + 1) (codes ";\n\tname = \"" ++ (name ++ (codes "\";\n\tstream_id = 0;\n\tfields := struct {\n" ++ tail))) told.low refl)
    ∙ ap (λ part. then_read part (λ word more. c (place + 1) word more)) (read-run-back is_quoted name (codes "\";\n\tstream_id = 0;\n\tfields := struct {\n" ++ tail) told.called.0 told.called.1 refl)
    ∙ ap (option_map (λ p. (record { id = place + 1; name = name; fields = p.0 }, p.1)))
    (lines-back all (stamp.pieces ++ told.fields.pieces) rest (AreLines-append stamp.lines told.fields.lines stamp.pieces told.fields.pieces stamp.are told.fields.are)
    ∙ ap (λ s. Some (s, rest)) (flat_map-append (λ piece. piece) stamp.pieces told.fields.pieces ∙ (λ i. stamp.shapes_are i ++ told.fields.shapes_are i)))
    ∙ ap (λ at. Some (record { id = place + 1; name = event_name names at; fields = shapes }, rest)) (sym back)

-- a text isn't empty
text-some : (form : Form) (e : EnabledRows) (names : Names) (place : ℕ) → 1 ≤ length (event_text form e names place)
unfolding event_text event_front event_number
text-some form e names place = omega arith

on-bytes : (most : ℕ) (bytes : List ℕ) → 0 < length bytes
    → read_event_texts (suc most) bytes ≡ option_and_then (λ p. option_map (λ events. p.0 ∷ events) (read_event_texts most p.1)) (read_event_text bytes)
on-bytes most [] some = absurd (omega (arith, some))
on-bytes most (b ∷ bytes) some = refl

-- texts of events up to the end
texts-within : (form : Form) (e : EnabledRows) (names : Names) (most a k : ℕ) → ((place : ℕ) → place < a + k → IsTold e names place) → k ≤ most
    → read_event_texts most (flat_map (event_text form e names) (range_with_len a k)) ≡ Some (map (event_layout (names_by names) (is_timed form) e) (range_with_len (a + 1) k))
texts-within form e names zero a zero told few = refl
texts-within form e names (suc most) a zero told few = refl
texts-within form e names zero a (suc k) told few = absurd (omega (arith, few))
texts-within form e names (suc most) a (suc k) told few =
    let rest : List ℕ = flat_map (event_text form e names) (range_with_len (a + 1) k) in
    let go_on : PartRead EventLayout → Option (List EventLayout) = λ part. option_and_then (λ p. option_map (λ events. p.0 ∷ events) (read_event_texts most p.1)) part in
    on-bytes most (event_text form e names a ++ rest) (omega (arith, text-some form e names a, length-append (event_text form e names a) rest))
    ∙ ap go_on (event-text-back form e names a rest (told a (omega arith)))
    ∙ ap (option_map (λ events. event_layout (names_by names) (is_timed form) e (a + 1) ∷ events))
    (texts-within form e names most (a + 1) k (λ place low. told place (omega (arith, low))) (omega (arith, few)))

texts-long : (form : Form) (e : EnabledRows) (names : Names) (a k : ℕ) → k ≤ length (flat_map (event_text form e names) (range_with_len a k))
texts-long form e names a zero = omega arith
texts-long form e names a (suc k) =
    let rest : List ℕ = flat_map (event_text form e names) (range_with_len (a + 1) k) in
    omega (arith, text-some form e names a, length-append (event_text form e names a) rest, texts-long form e names (a + 1) k)

pub texts-back : (form : Form) (e : EnabledRows) (names : Names) (k : ℕ) → ((place : ℕ) → place < k → IsTold e names place)
    → read_event_texts (length (flat_map (event_text form e names) (range_with_len 0 k))) (flat_map (event_text form e names) (range_with_len 0 k))
    ≡ Some (map (event_layout (names_by names) (is_timed form) e) (range_with_len 1 k))
texts-back form e names k told =
    texts-within form e names (length (flat_map (event_text form e names) (range_with_len 0 k))) 0 k (λ place low. told place (omega (arith, low))) (texts-long form e names 0 k)
