-- Bytes are the events of one list of records at most.
use Rattle.std.proofs.Common.{◌≡◌, ◌+◌, ◌*◌, ◌^◌, ◌++◌, ℕ, Bool, true, false, cond, ltb, leb, IsTrue, List, [], ◌∷◌, length, Option, Some, None, refl, sym, ◌∙◌, arith, append_assoc, length-append}
use Rattle.std.proofs.Common.{All}
use Rattle.std.proofs.lemmas.{Bool.ltb-true, Bool.eqb-true, Bool.Decides.nat_tests, List.Elements.All-head, List.Elements.All-tail}
use Rattle.std.specs.{Option.option_map_or, Prelude.unwrap_or, Prelude.option_and_then}
use Rattle.dspec_ctf.specs.Words.{Record, width, little_endian, stamp_fits, fits, within_limit, EnabledRows, both, append-same, little_endian-same, length-little_endian, stamp_bytes, values_bytes}
use Rattle.dspec_ctf.specs.Words.{event, events, header_bytes, span_bytes, context_bytes, front_bytes, packet, Accepts, Field, Header}
use Rattle.dspec_record.specs.declared.header.Header.TheVariants as header

-- the values of a record that is accepted fit the fields that its EPID has
row-fits : (gs : List Field) (vs : List ℕ) (few : Bool) → IsTrue (option_map_or (λ fs. fits fs vs) (cond few (Some gs) None) false) → IsTrue (fits gs vs)
row-fits gs vs true h = h
row-fits gs vs false h = absurd (cc)

values-fit : (o : Option (List Field)) (vs : List ℕ) → IsTrue (option_map_or (λ fs. fits fs vs) (option_and_then within_limit o) false) → IsTrue (fits (unwrap_or o []) vs)
values-fit None vs h = absurd (cc)
values-fit (Some gs) vs h = row-fits gs vs (leb (length gs) 8) h

-- values are known from bytes that begin with them
values-same : (fs : List Field) (vs us x y : List ℕ) → IsTrue (fits fs vs) → IsTrue (fits fs us) → values_bytes fs vs ++ x ≡ values_bytes fs us ++ y → (vs ≡ us) × (x ≡ y)
values-same [] [] [] x y p q e = (refl, e)
values-same [] (v ∷ vs) us x y p q e = absurd (cc)
values-same [] [] (u ∷ us) x y p q e = absurd (cc)
values-same (f ∷ fs) [] us x y p q e = absurd (cc)
values-same (f ∷ fs) (v ∷ vs) [] x y p q e = absurd (cc)
values-same (f ∷ fs) (v ∷ vs) (u ∷ us) x y p q e =
    let of_v : IsTrue (ltb v (256 ^ width f)) × IsTrue (fits fs vs) = both (ltb v (256 ^ width f)) (fits fs vs) p in
    let of_u : IsTrue (ltb u (256 ^ width f)) × IsTrue (fits fs us) = both (ltb u (256 ^ width f)) (fits fs us) q in
    let a : List ℕ = little_endian (width f) v in
    let b : List ℕ = little_endian (width f) u in
    let split : a ++ (values_bytes fs vs ++ x) ≡ b ++ (values_bytes fs us ++ y) =
    sym (append_assoc a (values_bytes fs vs) x) ∙ e ∙ append_assoc b (values_bytes fs us) y in
    let parts = append-same a b (values_bytes fs vs ++ x) (values_bytes fs us ++ y) (length-little_endian f v ∙ sym (length-little_endian f u)) split in
    let first : v ≡ u = little_endian-same f v u (ltb-true v (256 ^ width f) of_v.0) (ltb-true u (256 ^ width f) of_u.0) parts.0 in
    let rest = values-same fs vs us x y of_v.1 of_u.1 parts.1 in
    ((λ i. first i ∷ rest.0 i), rest.1)

-- so are stamps
stamps-same : (h : Header) (v u : ℕ) (x y : List ℕ) → IsTrue (stamp_fits h v) → IsTrue (stamp_fits h u) → stamp_bytes h v ++ x ≡ stamp_bytes h u ++ y → (v ≡ u) × (x ≡ y)
stamps-same header.One v u x y p q e = (eqb-true v 0 p ∙ sym (eqb-true u 0 q), e)
stamps-same header.Two v u x y p q e = grind (arith, nat_tests, ltb-true)

-- and records from bytes that begin with their events
pub event-same : (e : EnabledRows) (q r : Record) (x y : List ℕ) → Accepts e q → Accepts e r → event e q ++ x ≡ event e r ++ y → (q ≡ r) × (x ≡ y)
event-same e q r x y of_q of_r is = grind (arith, nat_tests, ltb-true, stamps-same, values-fit, values-same)

pub events-same : (e : EnabledRows) (rs qs : List Record) → All (Accepts e) rs → All (Accepts e) qs → events e rs ≡ events e qs → rs ≡ qs
events-same e [] [] of_r of_q is = refl
events-same e [] (q ∷ qs) of_r of_q is = absurd (cc)
events-same e (r ∷ rs) [] of_r of_q is = absurd (cc)
events-same e (r ∷ rs) (q ∷ qs) of_r of_q is =
    let parts = event-same e r q (events e rs) (events e qs) (All-head (Accepts e) r rs of_r) (All-head (Accepts e) q qs of_q) is in
    let rest = events-same e rs qs (All-tail (Accepts e) r rs of_r) (All-tail (Accepts e) q qs of_q) parts.1 in
    (λ i. parts.0 i ∷ rest i)

-- what stands before the events is as long, whatever it tells
pub length-front : (uuid : List ℕ) (span other : Option (ℕ × ℕ)) (content size missed cpu content' size' missed' cpu' : ℕ) → length (span_bytes span) ≡ length (span_bytes other)
    → length (front_bytes uuid span content size missed cpu) ≡ length (front_bytes uuid other content' size' missed' cpu')
unfolding front_bytes header_bytes context_bytes
length-front uuid span other content size missed cpu content' size' missed' cpu' alike =
    let h : List ℕ = header_bytes uuid in
    let c : List ℕ = context_bytes (8 * content) (8 * size) missed cpu in
    let c' : List ℕ = context_bytes (8 * content') (8 * size') missed' cpu' in
    let same : length c ≡ length c' = refl in
    omega (arith, alike, same, length-append h (span_bytes span ++ c), length-append (span_bytes span) c, length-append h (span_bytes other ++ c'), length-append (span_bytes other) c')

pub packet-same : (e : EnabledRows) (uuid : List ℕ) (missed cpu missed' cpu' : ℕ) (rs qs : List Record) → All (Accepts e) rs → All (Accepts e) qs
    → packet uuid e missed cpu rs ≡ packet uuid e missed' cpu' qs → rs ≡ qs
packet-same e uuid missed cpu missed' cpu' rs qs of_r of_q is =
    let n : ℕ = 52 + length (events e rs) in
    let n' : ℕ = 52 + length (events e qs) in
    let a : List ℕ = front_bytes uuid None n n missed cpu in
    let b : List ℕ = front_bytes uuid None n' n' missed' cpu' in
    let long : length a ≡ length b = length-front uuid None None n n missed cpu n' n' missed' cpu' refl in
    events-same e rs qs of_r of_q (append-same a b (events e rs) (events e qs) long is).1
