-- A record while its text is read.
use Rattle.std.proofs.Common.{◌≡◌, ◌≤◌, ◌<◌, ◌+◌, ◌-◌, ◌++◌, ◌^◌, ◌&&◌, ℕ, ltb, IsTrue, List, [], ◌∷◌, length, take, drop, get_or, replicate, sym, ◌∙◌, ap, subst, arith, refl}
use Rattle.std.proofs.lemmas.{Bool.lt-ltb, Bool.Decides.nat_tests, List.append_assoc, List.append-nil, List.take_at, List.drop_at, List.drop_more, List.length-replicate, List.drop-drop}
use Rattle.std.proofs.lemmas.{List.length-append, List.length-take, List.length-drop, List.take-append-drop, List.drop-take, List.take-take, List.take_rest, List.drop_all}
use Rattle.dspec_record.specs.Words.{Record, width, rounded_up, after, fields_start, fields_end, layout, little_endian, gap, stamp_text, header_text, fields_text, record_text, stamp_fits, fits}
use Rattle.dspec_record.specs.Words.{IsRead, rounded_up-ge, fields_end-ge, fields_start-ge, layout-IsShape, both, length-little_endian, length-header_text}
use Rattle.dspec_record.specs.declared.{field.Field.Field, field.Field.TheVariants.One, field.Field.TheVariants.Four, header.Header.Header}

-- the first values are read, up to `end`: with any further values the text goes on as theirs does, and any
-- record that has the text has further values whose text is what is left
pub record IsReading (h : Header) (all : List Field) (epid stamp : ℕ) (text : List ℕ) (end : ℕ) (read : List ℕ) (n : ℕ) (fs : List Field) : Type 0 where
  pub stamp_fit : IsTrue (stamp_fits h stamp)
  pub so_far : (vs : List ℕ) → header_text h (record { epid = epid; stamp = stamp; values = vs }) ++ fields_text (fields_start h) all (read ++ vs) ≡ take end text ++ fields_text end fs vs
  pub fit : (vs : List ℕ) → fits all (read ++ vs) ≡ fits fs vs
  pub still : (r : Record) → IsTrue (fits all r.values) → text ≡ record_text h all r → IsTrue (fits fs (drop n r.values)) × (drop end text ≡ fields_text end fs (drop n r.values))
  pub exact : rounded_up (fields_end end fs) 4 ≡ length text
  pub short : length text ≤ 128

-- the header at the front, put together of its EPID and of what is after it
header-front : (h : Header) (epid stamp : ℕ) (vs text : List ℕ) → 4 ≤ fields_start h → take 4 text ≡ little_endian 4 epid
    → drop 4 (take (fields_start h) text) ≡ stamp_text h stamp → header_text h (record { epid = epid; stamp = stamp; values = vs }) ≡ take (fields_start h) text
header-front h epid stamp vs text low front later = grind (arith, nat_tests, take-take, take-append-drop)

pub IsReading-start : (h : Header) (fs : List Field) (epid stamp : ℕ) (text : List ℕ) → length fs ≤ 8 → length text ≡ (layout h fs).size → take 4 text ≡ little_endian 4 epid
    → IsTrue (stamp_fits h stamp) → drop 4 (take (fields_start h) text) ≡ stamp_text h stamp → IsReading h fs epid stamp text (fields_start h) [] 0 fs
IsReading-start h fs epid stamp text few long front stamp_fit later = record {
  stamp_fit = stamp_fit;
  so_far = λ vs. ap (λ t. t ++ fields_text (fields_start h) fs vs) (header-front h epid stamp vs text (fields_start-ge h) front later);
  fit = λ vs. refl;
  still = λ r fit is. (
    fit,
    ap (drop (fields_start h)) is ∙ drop_at (header_text h r) (fields_text (fields_start h) fs r.values) (fields_start h) (length-header_text h r),
  );
  exact = sym long;
  short = omega (arith, (layout-IsShape h fs few).bounded);
}

pub IsReading-room : (d : Header) (all : List Field) (epid stamp : ℕ) (text : List ℕ) (end : ℕ) (read : List ℕ) (n : ℕ) (f : Field) (fs : List Field)
    → IsReading d all epid stamp text end read n (f ∷ fs) → after end (width f) (width f) ≤ length text
IsReading-room d all epid stamp text end read n f fs w =
    let next : ℕ = after end (width f) (width f) in
    omega (arith, w.exact, fields_end-ge next fs, rounded_up-ge Four (fields_end next fs))

pub IsReading-near : (d : Header) (all : List Field) (epid stamp : ℕ) (text : List ℕ) (end : ℕ) (read : List ℕ) (n : ℕ) (fs : List Field)
    → IsReading d all epid stamp text end read n fs → end ≤ length text
IsReading-near d all epid stamp text end read n fs w =
    omega (arith, w.exact, fields_end-ge end fs, rounded_up-ge Four (fields_end end fs))

take-add : (n m : ℕ) (xs : List ℕ) → take n xs ++ take m (drop n xs) ≡ take (n + m) xs
take-add n m xs =
    sym (ap (λ p. p ++ take m (drop n xs)) (take-take n (n + m) xs (omega arith)))
    ∙ sym (ap (λ q. take n (take (n + m) xs) ++ q) (drop-take n m xs))
    ∙ take-append-drop n (take (n + m) xs)

-- what is read of one field: zeros in its gap, and the value's bytes after them
pub record HasField (text : List ℕ) (end : ℕ) (f : Field) (v : ℕ) : Type 0 where
  pub zeros : take (rounded_up end (width f) - end) (drop end text) ≡ gap end (width f)
  pub value : little_endian (width f) v ≡ take (width f) (drop (rounded_up end (width f)) text)
  pub holds : v < 256 ^ width f

HasField-taken : (text : List ℕ) (end : ℕ) (f : Field) (v : ℕ) → HasField text end f v → take (after end (width f) (width f)) text ≡ take end text ++ (gap end (width f) ++ little_endian (width f) v)
HasField-taken text end f v h =
    let place : ℕ = rounded_up end (width f) in
    let low : end ≤ place = rounded_up-ge f end in
    let to_place : end + (place - end) ≡ place = omega arith in
    sym (take-add place (width f) text)
    ∙ ap (λ p. p ++ take (width f) (drop place text)) (ap (λ n. take n text) (sym to_place) ∙ sym (take-add end (place - end) text))
    ∙ ap (λ p. take end text ++ p ++ take (width f) (drop place text)) h.zeros
    ∙ ap (λ q. take end text ++ gap end (width f) ++ q) (sym h.value)
    ∙ append_assoc (take end text) (gap end (width f)) (little_endian (width f) v)

four_parts : (a b c x : List ℕ) → a ++ (b ++ (c ++ x)) ≡ a ++ (b ++ c) ++ x
four_parts a b c x = simp append_assoc

-- what is left of a text whose next field is `f`
left-more : (text : List ℕ) (end : ℕ) (f : Field) (fs : List Field) (ws : List ℕ) → IsTrue (fits (f ∷ fs) ws) → drop end text ≡ fields_text end (f ∷ fs) ws
    → IsTrue (fits fs (drop 1 ws)) × (drop (after end (width f) (width f)) text ≡ fields_text (after end (width f) (width f)) fs (drop 1 ws))
left-more text end f fs [] h is = absurd (cc)
left-more text end f fs (u ∷ us) h is =
    let next : ℕ = after end (width f) (width f) in
    let hole : List ℕ = gap end (width f) in
    let bytes : List ℕ = little_endian (width f) u in
    let zero_byte : ℕ = 0 in
    let low : end ≤ rounded_up end (width f) = rounded_up-ge f end in
    let past : end + (rounded_up end (width f) - end + width f) ≡ next = omega arith in
    let long : length (hole ++ bytes) ≡ rounded_up end (width f) - end + width f =
    omega (arith, length-append hole bytes, length-replicate (rounded_up end (width f) - end) zero_byte, length-little_endian f u) in (
      (both (ltb u (256 ^ width f)) (fits fs us) h).1,
      ap (λ n. drop n text) (sym past)
          ∙ sym (drop-drop (rounded_up end (width f) - end + width f) end text)
          ∙ ap (drop (rounded_up end (width f) - end + width f)) (is ∙ sym (append_assoc hole bytes (fields_text next fs us)))
          ∙ drop_at (hole ++ bytes) (fields_text next fs us) (rounded_up end (width f) - end + width f) long,
    )

left-gap : (text : List ℕ) (end : ℕ) (f : Field) (fs : List Field) (ws : List ℕ) → IsTrue (fits (f ∷ fs) ws) → drop end text ≡ fields_text end (f ∷ fs) ws
    → take (rounded_up end (width f) - end) (drop end text) ≡ gap end (width f)
left-gap = grind (arith, nat_tests, take_at, length-replicate)

pub IsReading-more : (d : Header) (all : List Field) (epid stamp : ℕ) (text : List ℕ) (end : ℕ) (read : List ℕ) (n : ℕ) (f : Field) (fs : List Field) (v : ℕ)
    → IsReading d all epid stamp text end read n (f ∷ fs) → HasField text end f v → IsReading d all epid stamp text (after end (width f) (width f)) (read ++ v ∷ []) (n + 1) fs
IsReading-more d all epid stamp text end read n f fs v w h =
    let next : ℕ = after end (width f) (width f) in
    let one : (vs : List ℕ) → read ++ v ∷ [] ++ vs ≡ read ++ v ∷ vs = λ vs. append_assoc read (v ∷ []) vs in
    record {
      stamp_fit = w.stamp_fit;
      so_far = λ vs.
          ap (λ xs. header_text d (record { epid = epid; stamp = stamp; values = vs }) ++ fields_text (fields_start d) all xs) (one vs)
          ∙ w.so_far (v ∷ vs)
          ∙ four_parts (take end text) (gap end (width f)) (little_endian (width f) v) (fields_text next fs vs)
          ∙ ap (λ xs. xs ++ fields_text next fs vs) (sym (HasField-taken text end f v h));
      fit = λ vs.
          ap (fits all) (one vs) ∙ w.fit (v ∷ vs)
          ∙ ap (λ b. b && fits fs vs) (lt-ltb v (256 ^ width f) h.holds);
      still = λ r fit is.
          let was = w.still r fit is in
          let now = left-more text end f fs (drop n r.values) was.0 was.1 in
          let Left : List ℕ → Type 0 = λ ws. IsTrue (fits fs ws) × (drop next text ≡ fields_text next fs ws) in
          subst Left (drop-drop 1 n r.values) now;
      exact = w.exact;
      short = w.short;
    }

pub IsReading-end : (d : Header) (all : List Field) (epid stamp : ℕ) (text : List ℕ) (end : ℕ) (read : List ℕ) (n : ℕ) → IsReading d all epid stamp text end read n []
    → drop end text ≡ gap end 4 → IsRead d all epid text (record { epid = epid; stamp = stamp; values = read })
IsReading-end d all epid stamp text end read n w zeros = grind (arith, nat_tests, append-nil read, take-append-drop end text)

at_field : (d : Header) (all : List Field) (epid stamp : ℕ) (text : List ℕ) (end : ℕ) (read : List ℕ) (i : ℕ) → i < length all
    → IsReading d all epid stamp text end read i (drop i all) → IsReading d all epid stamp text end read i (get_or all i One ∷ drop (i + 1) all)
at_field d all epid stamp text end read i within w = grind (arith, nat_tests, drop_more)

-- the next field ends within the text
pub next-within : (d : Header) (all : List Field) (epid stamp : ℕ) (text : List ℕ) (end : ℕ) (read : List ℕ) (i place w : ℕ) → i < length all
    → IsReading d all epid stamp text end read i (drop i all) → place ≡ rounded_up end (width (get_or all i One)) → w ≡ width (get_or all i One) → place + w ≤ length text
next-within d all epid stamp text end read i place w within inv at wide =
    omega (arith, at, wide, IsReading-room d all epid stamp text end read i (get_or all i One) (drop (i + 1) all) (at_field d all epid stamp text end read i within inv))

gap-is : (text : List ℕ) (end place : ℕ) → end ≤ place → place ≤ length text → length (take (place - end) (drop end text)) ≡ place - end
gap-is text end place low high = omega (arith, length-take (place - end) (drop end text), length-drop end text)

-- one iteration: the gap from `end` to `place` is zero, and `v` has the `w` bytes after it
pub IsReading-next : (d : Header) (all : List Field) (epid stamp : ℕ) (text : List ℕ) (end : ℕ) (read : List ℕ) (i place w v : ℕ) → i < length all
    → IsReading d all epid stamp text end read i (drop i all) → place ≡ rounded_up end (width (get_or all i One)) → w ≡ width (get_or all i One)
    → take (place - end) (drop end text) ≡ replicate (length (take (place - end) (drop end text))) 0 → v < 256 ^ width (get_or all i One)
    → little_endian (width (get_or all i One)) v ≡ take (place + w - place) (drop place text) → IsReading d all epid stamp text (place + w) (read ++ v ∷ []) (i + 1) (drop (i + 1) all)
IsReading-next d all epid stamp text end read i place w v within inv at wide zeros holds written =
    let f : Field = get_or all i One in
    let low : end ≤ rounded_up end (width f) = rounded_up-ge f end in
    let room : place + w ≤ length text = next-within d all epid stamp text end read i place w within inv at wide in
    let has : HasField text end f v = record {
      zeros = ap (λ p. take (p - end) (drop end text)) (sym at) ∙ zeros
          ∙ ap (λ n. replicate n 0) (gap-is text end place (omega arith) (omega arith)) ∙ ap (λ p. replicate (p - end) 0) at;
      value = written ∙ ap (λ n. take n (drop place text)) (omega arith) ∙ ap (λ p. take (width f) (drop p text)) at;
      holds = holds;
    } in
    let next : after end (width f) (width f) ≡ place + w = omega (arith, at, wide) in
    let At : ℕ → Type 0 = λ e. IsReading d all epid stamp text e (read ++ v ∷ []) (i + 1) (drop (i + 1) all) in
    subst At next (IsReading-more d all epid stamp text end read i f (drop (i + 1) all) v (at_field d all epid stamp text end read i within inv) has)

-- a record with the text has zeros in the next gap
pub IsReading-gap : (d : Header) (all : List Field) (epid stamp : ℕ) (text : List ℕ) (end : ℕ) (read : List ℕ) (i place : ℕ) → i < length all
    → IsReading d all epid stamp text end read i (drop i all) → place ≡ rounded_up end (width (get_or all i One)) → (r : Record) → IsTrue (fits all r.values)
    → text ≡ record_text d all r → take (place - end) (drop end text) ≡ replicate (length (take (place - end) (drop end text))) 0
IsReading-gap d all epid stamp text end read i place within inv at r fit is =
    let f : Field = get_or all i One in
    let here : IsReading d all epid stamp text end read i (f ∷ drop (i + 1) all) = at_field d all epid stamp text end read i within inv in
    let left = here.still r fit is in
    let room : after end (width f) (width f) ≤ length text = IsReading-room d all epid stamp text end read i f (drop (i + 1) all) here in
    let hole : take (place - end) (drop end text) ≡ gap end (width f) =
    ap (λ p. take (p - end) (drop end text)) at ∙ left-gap text end f (drop (i + 1) all) (drop i r.values) left.0 left.1 in
    hole ∙ ap (λ n. replicate n 0) (ap (λ p. p - end) (sym at) ∙ sym (gap-is text end place (omega (arith, rounded_up-ge f end)) (omega arith)))

no_more : (d : Header) (all : List Field) (epid stamp : ℕ) (text : List ℕ) (end : ℕ) (read : List ℕ) (i : ℕ) → length all ≤ i
    → IsReading d all epid stamp text end read i (drop i all) → IsReading d all epid stamp text end read i []
no_more d all epid stamp text end read i past w = grind (arith, nat_tests, drop_all)

rest-is : (text : List ℕ) (end : ℕ) → end ≤ length text → length (take (length text - end) (drop end text)) ≡ length text - end
rest-is text end high = gap-is text end (length text) high (omega arith)

-- the bytes after the last field
rest-zero : (text : List ℕ) (end : ℕ) → end ≤ length text → rounded_up end 4 ≡ length text
    → take (length text - end) (drop end text) ≡ replicate (length (take (length text - end) (drop end text))) 0 → drop end text ≡ gap end 4
rest-zero text end high exact zeros =
    sym (take_rest text end) ∙ zeros ∙ ap (λ n. replicate n 0) (rest-is text end high) ∙ ap (λ n. replicate (n - end) 0) (sym exact)

pub IsReading-whole : (d : Header) (all : List Field) (epid stamp : ℕ) (text : List ℕ) (end : ℕ) (read : List ℕ) (i : ℕ) → length all ≡ i
    → IsReading d all epid stamp text end read i (drop i all) → take (length text - end) (drop end text) ≡ replicate (length (take (length text - end) (drop end text))) 0
    → IsRead d all epid text (record { epid = epid; stamp = stamp; values = read })
IsReading-whole d all epid stamp text end read i past w zeros =
    let done : IsReading d all epid stamp text end read i [] = no_more d all epid stamp text end read i (omega arith) w in
    IsReading-end d all epid stamp text end read i done (
    rest-zero text end (IsReading-near d all epid stamp text end read i [] done) done.exact zeros)
