-- Serves proofs. Sizes and differences of texts.
use Rattle.std.proofs.Common.{◌≡◌, ◌<◌, ◌+◌, ◌-◌, ◌^◌, ◌%◌, ◌/◌, ℕ, Bool, true, false, ◌&&◌, ltb, IsTrue, List, [], ◌∷◌, ◌++◌, length, refl, sym, ◌∙◌, ap, arith, All, zero, suc, drop, take}
use Rattle.std.proofs.lemmas.{Bool.ltb-true, Bool.eqb-true, List.length-append, List.length-replicate, List.append_assoc, List.append_cancel_left, List.take_at, List.drop_at}
use Rattle.std.proofs.lemmas.{List.Elements.All-append, List.Elements.All-nil, List.Elements.All-cons, List.Elements.All-replicate, Nat.from_le_bytes-to_le_bytes_2, Nat.from_le_bytes-to_le_bytes_4}
use Rattle.std.proofs.lemmas.{Nat.from_le_bytes-to_le_bytes_8}
use Rattle.std.specs.Int.{w16, w32, w64, from_le_bytes, bytes_low_first, byte_at}
use Rattle.dspec_record.specs.{Laws.Layouts.rounded_up-ge, Layout.width, Layout.rounded_up, Layout.after, Layout.fields_start, Layout.fields_end, Record.Record, RecordText.little_endian}
use Rattle.dspec_record.specs.{RecordText.gap, RecordText.fields_text, RecordText.stamp_text, RecordText.header_text, RecordText.record_text, RecordText.stamp_fits, RecordText.fits}
use Rattle.dspec_record.specs.{declared.field.Field.Field, declared.field.Field.TheVariants.One, declared.field.Field.TheVariants.Two, declared.field.Field.TheVariants.Four}
use Rattle.dspec_record.specs.{declared.field.Field.TheVariants.Eight, declared.header.Header.Header}
use Rattle.dspec_record.specs.declared.header.Header.TheVariants as header

-- a test of two parts that passes has both
pub both : (a b : Bool) → IsTrue (a && b) → IsTrue a × IsTrue b
both true b h = (refl, h)
both false b h = absurd (cc)

pub length-little_endian : (f : Field) (v : ℕ) → length (little_endian (width f) v) ≡ width f
length-little_endian One v = refl
length-little_endian Two v = refl
length-little_endian Four v = refl
length-little_endian Eight v = refl

length-gap : (f : Field) (o : ℕ) → o + length (gap o (width f)) ≡ rounded_up o (width f)
length-gap f o =
    let zero_byte : ℕ = 0 in
    omega (arith, length-replicate (rounded_up o (width f) - o) zero_byte, rounded_up-ge f o)

pub length-fields_text : (start : ℕ) (fs : List Field) (vs : List ℕ) → IsTrue (fits fs vs) → start + length (fields_text start fs vs) ≡ rounded_up (fields_end start fs) 4
length-fields_text start [] [] h = length-gap Four start
length-fields_text start [] (v ∷ vs) h = absurd (cc)
length-fields_text start (f ∷ fs) [] h = absurd (cc)
length-fields_text start (f ∷ fs) (v ∷ vs) h =
    let next : ℕ = after start (width f) (width f) in
    let rest : next + length (fields_text next fs vs) ≡ rounded_up (fields_end next fs) 4 =
    length-fields_text next fs vs (both (ltb v (256 ^ width f)) (fits fs vs) h).1 in
    omega (
      arith,
      rest,
      length-gap f start,
      length-little_endian f v,
      length-append (gap start (width f)) (little_endian (width f) v ++ fields_text next fs vs),
      length-append (little_endian (width f) v) (fields_text next fs vs),
    )

-- lists of one length that begin the same bytes are the same, and so is what follows them
pub append-same : (a b x y : List ℕ) → length a ≡ length b → a ++ x ≡ b ++ y → (a ≡ b) × (x ≡ y)
append-same a b x y e h = (
  sym (take_at a x (length b) e) ∙ ap (take (length b)) h ∙ take_at b y (length b) refl,
  sym (drop_at a x (length b) e) ∙ ap (drop (length b)) h ∙ drop_at b y (length b) refl,
)

three : (a b c x : List ℕ) → a ++ (b ++ c) ++ x ≡ a ++ (b ++ (c ++ x))
three a b c x = simp append_assoc

little_endian-One : (v u : ℕ) → v < 256 → u < 256 → little_endian 1 v ≡ little_endian 1 u → v ≡ u
little_endian-One v u p q e = let low : v % 256 ≡ u % 256 = cc in omega arith

-- a value is known from its bytes
pub little_endian-same : (f : Field) (v u : ℕ) → v < 256 ^ width f → u < 256 ^ width f → little_endian (width f) v ≡ little_endian (width f) u → v ≡ u
little_endian-same One v u p q e = little_endian-One v u p q e
little_endian-same Two v u p q e =
    sym (from_le_bytes-to_le_bytes_2 v p) ∙ ap (from_le_bytes w16) e ∙ from_le_bytes-to_le_bytes_2 u q
little_endian-same Four v u p q e =
    sym (from_le_bytes-to_le_bytes_4 v p) ∙ ap (from_le_bytes w32) e ∙ from_le_bytes-to_le_bytes_4 u q
little_endian-same Eight v u p q e =
    sym (from_le_bytes-to_le_bytes_8 v p) ∙ ap (from_le_bytes w64) e ∙ from_le_bytes-to_le_bytes_8 u q

-- so are the values of a record from bytes that begin with its fields
pub fields_text-same : (start : ℕ) (fs : List Field) (vs us x y : List ℕ) → IsTrue (fits fs vs) → IsTrue (fits fs us) → fields_text start fs vs ++ x ≡ fields_text start fs us ++ y → vs ≡ us
fields_text-same start [] [] [] x y p q e = refl
fields_text-same start [] (v ∷ vs) us x y p q e = absurd (cc)
fields_text-same start [] [] (u ∷ us) x y p q e = absurd (cc)
fields_text-same start (f ∷ fs) [] us x y p q e = absurd (cc)
fields_text-same start (f ∷ fs) (v ∷ vs) [] x y p q e = absurd (cc)
fields_text-same start (f ∷ fs) (v ∷ vs) (u ∷ us) x y p q e =
    let next : ℕ = after start (width f) (width f) in
    let of_v : IsTrue (ltb v (256 ^ width f)) × IsTrue (fits fs vs) = both (ltb v (256 ^ width f)) (fits fs vs) p in
    let of_u : IsTrue (ltb u (256 ^ width f)) × IsTrue (fits fs us) = both (ltb u (256 ^ width f)) (fits fs us) q in
    let hole : List ℕ = gap start (width f) in
    let fields : little_endian (width f) v ++ (fields_text next fs vs ++ x) ≡ little_endian (width f) u ++ (fields_text next fs us ++ y) =
    append_cancel_left hole _ _ (
    sym (three hole (little_endian (width f) v) (fields_text next fs vs) x) ∙ e ∙ three hole (little_endian (width f) u) (fields_text next fs us) y) in
    let parts : (little_endian (width f) v ≡ little_endian (width f) u) × (fields_text next fs vs ++ x ≡ fields_text next fs us ++ y) =
    append-same (little_endian (width f) v) (little_endian (width f) u) _ _ (length-little_endian f v ∙ sym (length-little_endian f u)) fields in
    let value : v ≡ u =
    little_endian-same f v u (ltb-true v (256 ^ width f) of_v.0) (ltb-true u (256 ^ width f) of_u.0) parts.0 in
    let values : vs ≡ us = fields_text-same next fs vs us x y of_v.1 of_u.1 parts.1 in
    λ i. value i ∷ values i

mod-lt : (n : ℕ) → n % 256 < 256
mod-lt n = omega arith

byte_at-lt : (i n : ℕ) → byte_at i n < 256
byte_at-lt zero n = mod-lt n
byte_at-lt (suc i) n = mod-lt (n / 256 ^ suc i)

-- texts are made of bytes
All-bytes_low_first : (i k n : ℕ) → All (λ b. b < 256) (bytes_low_first i k n)
All-bytes_low_first i zero n = All-nil (λ b. b < 256)
All-bytes_low_first i (suc k) n =
    All-cons (λ b. b < 256) (byte_at i n) (bytes_low_first (suc i) k n) (byte_at-lt i n) (All-bytes_low_first (suc i) k n)

All-gap : (o a : ℕ) → All (λ b. b < 256) (gap o a)
All-gap o a = All-replicate (λ b. b < 256) (rounded_up o a - o) 0 (omega arith)

All-fields_text : (start : ℕ) (fs : List Field) (vs : List ℕ) → All (λ b. b < 256) (fields_text start fs vs)
All-fields_text start [] vs = All-gap start 4
All-fields_text start (f ∷ fs) [] = All-gap start 4
All-fields_text start (f ∷ fs) (v ∷ vs) =
    All-append (λ b. b < 256) _ _ (All-gap start (width f)) (
    All-append (λ b. b < 256) _ _ (All-bytes_low_first 0 (width f) v) (All-fields_text (after start (width f) (width f)) fs vs))

All-stamp_text : (h : Header) (stamp : ℕ) → All (λ b. b < 256) (stamp_text h stamp)
All-stamp_text header.One stamp = All-nil (λ b. b < 256)
All-stamp_text header.Two stamp =
    All-append (λ b. b < 256) (little_endian 4 (stamp % 2 ^ 32)) (little_endian 4 (stamp / 2 ^ 32)) (All-bytes_low_first 0 4 (stamp % 2 ^ 32)) (All-bytes_low_first 0 4 (stamp / 2 ^ 32))

All-header_text : (h : Header) (r : Record) → All (λ b. b < 256) (header_text h r)
All-header_text h r =
    All-append (λ b. b < 256) (little_endian 4 r.epid) (stamp_text h r.stamp) (All-bytes_low_first 0 4 r.epid) (All-stamp_text h r.stamp)

pub All-record_text : (h : Header) (fs : List Field) (r : Record) → All (λ b. b < 256) (record_text h fs r)
All-record_text h fs r =
    All-append (λ b. b < 256) (header_text h r) (fields_text (fields_start h) fs r.values) (All-header_text h r) (All-fields_text (fields_start h) fs r.values)

-- the fields begin after the header
pub length-header_text : (h : Header) (r : Record) → length (header_text h r) ≡ fields_start h
length-header_text header.One r = refl
length-header_text header.Two r = refl

pub length-record_text : (h : Header) (fs : List Field) (r : Record) → IsTrue (fits fs r.values) → length (record_text h fs r) ≡ rounded_up (fields_end (fields_start h) fs) 4
length-record_text h fs r fit =
    omega (
      arith,
      length-append (header_text h r) (fields_text (fields_start h) fs r.values),
      length-header_text h r,
      length-fields_text (fields_start h) fs r.values fit,
    )

-- a stamp is known from its two words
words-same : (v u : ℕ) → v < 2 ^ 64 → u < 2 ^ 64 → stamp_text header.Two v ≡ stamp_text header.Two u → v ≡ u
words-same v u p q e =
    let low_v : v % 2 ^ 32 < 256 ^ width Four = omega arith in
    let low_u : u % 2 ^ 32 < 256 ^ width Four = omega arith in
    let high_v : v / 2 ^ 32 < 256 ^ width Four = omega arith in
    let high_u : u / 2 ^ 32 < 256 ^ width Four = omega arith in
    let parts = append-same (little_endian 4 (v % 2 ^ 32)) (little_endian 4 (u % 2 ^ 32)) (little_endian 4 (v / 2 ^ 32)) (little_endian 4 (u / 2 ^ 32)) refl e in
    let low : v % 2 ^ 32 ≡ u % 2 ^ 32 = little_endian-same Four (v % 2 ^ 32) (u % 2 ^ 32) low_v low_u parts.0 in
    let high : v / 2 ^ 32 ≡ u / 2 ^ 32 = little_endian-same Four (v / 2 ^ 32) (u / 2 ^ 32) high_v high_u parts.1 in
    omega (arith, low, high)

-- so the stamp is known from what the header has of it
stamp_text-same : (h : Header) (v u : ℕ) → IsTrue (stamp_fits h v) → IsTrue (stamp_fits h u) → stamp_text h v ≡ stamp_text h u → v ≡ u
stamp_text-same header.One v u p q e = eqb-true v 0 p ∙ sym (eqb-true u 0 q)
stamp_text-same header.Two v u p q e = words-same v u (ltb-true v (2 ^ 64) p) (ltb-true u (2 ^ 64) q) e

length-stamp_text : (h : Header) (v u : ℕ) → length (stamp_text h v) ≡ length (stamp_text h u)
length-stamp_text header.One v u = refl
length-stamp_text header.Two v u = refl

-- bytes that begin with two texts: the EPID's, the stamp's and the fields' parts are the same
record StartsAlike (h : Header) (q r : Record) (x y : List ℕ) : Type 0 where
  epid : little_endian 4 q.epid ≡ little_endian 4 r.epid
  stamp : stamp_text h q.stamp ≡ stamp_text h r.stamp
  rest : x ≡ y

starts-alike : (h : Header) (q r : Record) (x y : List ℕ) → header_text h q ++ x ≡ header_text h r ++ y → StartsAlike h q r x y
starts-alike h q r x y e =
    let split : (p : Record) (z : List ℕ) → header_text h p ++ z ≡ little_endian 4 p.epid ++ (stamp_text h p.stamp ++ z) =
    λ p z. append_assoc (little_endian 4 p.epid) (stamp_text h p.stamp) z in
    let first = append-same (little_endian 4 q.epid) (little_endian 4 r.epid) (stamp_text h q.stamp ++ x) (stamp_text h r.stamp ++ y) refl (
    sym (split q x) ∙ e ∙ split r y) in
    let second = append-same (stamp_text h q.stamp) (stamp_text h r.stamp) x y (length-stamp_text h q.stamp r.stamp) first.1 in
    record { epid = first.0; stamp = second.0; rest = second.1 }

-- records with the same header and fields are the same if some bytes begin with both
pub record_text-same : (h : Header) (fs : List Field) (q r : Record) (x y : List ℕ) → q.epid ≡ r.epid → IsTrue (stamp_fits h q.stamp) → IsTrue (stamp_fits h r.stamp)
    → IsTrue (fits fs q.values) → IsTrue (fits fs r.values) → record_text h fs q ++ x ≡ record_text h fs r ++ y → q ≡ r
record_text-same h fs q r x y epid stamp_q stamp_r of_q of_r e =
    let start : ℕ = fields_start h in
    let alike : StartsAlike h q r (fields_text start fs q.values ++ x) (fields_text start fs r.values ++ y) =
    starts-alike h q r _ _ (
    sym (append_assoc (header_text h q) (fields_text start fs q.values) x) ∙ e ∙ append_assoc (header_text h r) (fields_text start fs r.values) y) in
    let values : q.values ≡ r.values = fields_text-same start fs q.values r.values x y of_q of_r alike.rest in
    let stamp : q.stamp ≡ r.stamp = stamp_text-same h q.stamp r.stamp stamp_q stamp_r alike.stamp in
    λ i. record { epid = epid i; stamp = stamp i; values = values i }

-- and the EPID is known from the bytes
pub record_text-epid : (h : Header) (fs gs : List Field) (q r : Record) (x y : List ℕ) → q.epid < 2 ^ 32 → r.epid < 2 ^ 32 → record_text h fs q ++ x ≡ record_text h gs r ++ y → q.epid ≡ r.epid
record_text-epid h fs gs q r x y of_q of_r e =
    let start : ℕ = fields_start h in
    let alike : StartsAlike h q r (fields_text start fs q.values ++ x) (fields_text start gs r.values ++ y) =
    starts-alike h q r _ _ (
    sym (append_assoc (header_text h q) (fields_text start fs q.values) x) ∙ e ∙ append_assoc (header_text h r) (fields_text start gs r.values) y) in
    little_endian-same Four q.epid r.epid of_q of_r alike.epid
