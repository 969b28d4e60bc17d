-- Bytes are the packets by time of one list of records at most.
use Rattle.std.proofs.Common.{◌≡◌, ◌≤◌, ◌<◌, ◌+◌, ◌*◌, ◌^◌, ◌/◌, ◌==◌, ◌++◌, ℕ, zero, suc, Bool, true, false, cond, leb, IsTrue, List, [], ◌∷◌, length, take, drop, Option, Some, None, refl, ap, sym}
use Rattle.std.proofs.Common.{subst, ◌∙◌, arith, append_assoc, length-append, All}
use Rattle.std.proofs.lemmas.Bool.{leb-true, eqb-true, Decides.nat_tests}
use Rattle.std.proofs.lemmas.List.{take-append-drop, drop_all, drop-drop, length-take, Elements.All-head, Elements.All-tail, Elements.All-take, Elements.All-drop}
use Rattle.std.specs.{List.flat_map, List.range_with_len, Option.option_map_or, Prelude.option_and_then}
use Rattle.dspec_ctf.specs.Words.{Record, little_endian, fits, within_limit, enabling_of, enabled, EnabledRows, both, append-same, little_endian-same, IsAccepted, accepted-parts, event, events}
use Rattle.dspec_ctf.specs.Words.{header_bytes, span_bytes, context_bytes, front_bytes, Accepts, span_of, packet_count, part_at, timed_packet, packet_at, timed_packets, Field, Eight}
use Rattle.dspec_ctf.proofs.{OneList.events-same, OneList.length-front, Sizes.event_small}

-- a record that is accepted has eight values at most
fits-long : (fs : List Field) (vs : List ℕ) → IsTrue (fits fs vs) → length vs ≡ length fs
fits-long [] [] h = refl
fits-long [] (v ∷ vs) h = absurd (cc)
fits-long (f ∷ fs) [] h = absurd (cc)
fits-long (f ∷ fs) (v ∷ vs) h = ap suc (fits-long fs vs (both _ (fits fs vs) h).1)

row-few : (gs : List Field) (vs : List ℕ) (few : Bool) → leb (length gs) 8 ≡ few → IsTrue (option_map_or (λ fs. fits fs vs) (cond few (Some gs) None) false) → length vs ≤ 8
row-few gs vs true is h = omega (arith, leb-true (length gs) 8 is, fits-long gs vs h)
row-few gs vs false is h = absurd (cc)

values-few : (o : Option (List Field)) (vs : List ℕ) → IsTrue (option_map_or (λ fs. fits fs vs) (option_and_then within_limit o) false) → length vs ≤ 8
values-few None vs h = absurd (cc)
values-few (Some gs) vs h = row-few gs vs (leb (length gs) 8) refl h

pub accepted-small : (e : EnabledRows) (r : Record) → Accepts e r → length (event e r) ≤ 76
accepted-small e r of_r =
    let parts : IsAccepted e.header r (enabled e.rows r.epid) = accepted-parts e.header (enabled e.rows) r of_r in
    event_small e r (values-few (enabling_of e.rows r.epid) r.values parts.values)

pub events-small : (e : EnabledRows) (rs : List Record) → All (Accepts e) rs → length (events e rs) ≤ 76 * length rs
events-small e [] of_r = omega arith
events-small e (r ∷ rs) of_r =
    omega (arith, length-append (event e r) (events e rs), accepted-small e r (All-head (Accepts e) r rs of_r), events-small e rs (All-tail (Accepts e) r rs of_r))

-- up to where a packet's events go is known from its front
pub content-same : (uuid : List ℕ) (p q : Option (ℕ × ℕ)) (content size missed cpu content' size' missed' cpu' : ℕ) → length (span_bytes p) ≡ length (span_bytes q) → content < 2 ^ 60
    → content' < 2 ^ 60 → front_bytes uuid p content size missed cpu ≡ front_bytes uuid q content' size' missed' cpu' → content ≡ content'
unfolding front_bytes header_bytes context_bytes
content-same uuid p q content size missed cpu content' size' missed' cpu' alike low low' is =
    let h : List ℕ = header_bytes uuid in
    let c : List ℕ = context_bytes (8 * content) (8 * size) missed cpu in
    let c' : List ℕ = context_bytes (8 * content') (8 * size') missed' cpu' in
    let first = append-same h h (span_bytes p ++ c) (span_bytes q ++ c') refl is in
    let second = append-same (span_bytes p) (span_bytes q) c c' alike first.1 in
    let third = append-same (little_endian 8 (8 * content)) (little_endian 8 (8 * content'))
    (little_endian 8 (8 * size) ++ (little_endian 8 missed ++ little_endian 4 cpu))
    (little_endian 8 (8 * size') ++ (little_endian 8 missed' ++ little_endian 4 cpu')) refl second.1 in
    let bits : 8 * content ≡ 8 * content' = little_endian-same Eight (8 * content) (8 * content') (omega (arith, low)) (omega (arith, low')) third.0 in
    omega (arith, bits)

-- the records of a packet are known from bytes that begin with it
timed-same : (uuid : List ℕ) (e : EnabledRows) (missed cpu told missed' cpu' told' : ℕ) (ps qs : List Record) (x y : List ℕ) → All (Accepts e) ps → All (Accepts e) qs
    → length ps ≤ 4096 → length qs ≤ 4096 → timed_packet uuid e missed cpu told ps ++ x ≡ timed_packet uuid e missed' cpu' told' qs ++ y → (ps ≡ qs) × (x ≡ y)
timed-same uuid e missed cpu told missed' cpu' told' ps qs x y of_p of_q few few' is =
    let body : List ℕ = events e ps in
    let body' : List ℕ = events e qs in
    let n : ℕ = 68 + length body in
    let n' : ℕ = 68 + length body' in
    let a : List ℕ = front_bytes uuid (Some (span_of ps)) n n told cpu in
    let b : List ℕ = front_bytes uuid (Some (span_of qs)) n' n' told' cpu' in
    let long : length a ≡ length b = length-front uuid (Some (span_of ps)) (Some (span_of qs)) n n told cpu n' n' told' cpu' refl in
    let first = append-same a b (body ++ x) (body' ++ y) long (sym (append_assoc a body x) ∙ is ∙ append_assoc b body' y) in
    let size : n ≡ n' =
    content-same uuid (Some (span_of ps)) (Some (span_of qs)) n n told cpu n' n' told' cpu' refl
    (omega (arith, few, events-small e ps of_p)) (omega (arith, few', events-small e qs of_q)) first.0 in
    let second = append-same body body' x y (omega (arith, size)) first.1 in
    (events-same e ps qs of_p of_q second.0, second.1)

-- what stands before the events isn't nothing
front-long : (uuid : List ℕ) (span : Option (ℕ × ℕ)) (content size missed cpu : ℕ) → 0 < length (front_bytes uuid span content size missed cpu)
unfolding front_bytes header_bytes
front-long uuid span content size missed cpu = omega arith

timed-long : (uuid : List ℕ) (e : EnabledRows) (missed cpu told : ℕ) (ps : List Record) (x : List ℕ) → 0 < length (timed_packet uuid e missed cpu told ps ++ x)
timed-long uuid e missed cpu told ps x =
    let n : ℕ = 68 + length (events e ps) in
    let front : List ℕ = front_bytes uuid (Some (span_of ps)) n n told cpu in
    omega (arith, length-append (front ++ events e ps) x, length-append front (events e ps), front-long uuid (Some (span_of ps)) n n told cpu)

-- a list from this place on is so many records and the list after them
rejoin : (d w n : ℕ) (rs : List Record) → n ≡ d + w → drop d rs ≡ take w (drop d rs) ++ drop n rs
rejoin d w n rs is = sym (take-append-drop w (drop d rs)) ∙ ap (λ more. take w (drop d rs) ++ more) (drop-drop w d rs ∙ ap (λ k. drop k rs) (sym is))

-- what the packet at this place is
packet-is : (uuid : List ℕ) (e : EnabledRows) (missed cpu : ℕ) (rs : List Record) (n a : ℕ)
    → packet_at uuid e missed cpu rs n a ≡ timed_packet uuid e missed cpu (cond (a + 1 == n) missed 0) (take 4096 (drop (4096 * a) rs))
unfolding packet_at part_at
packet-is uuid e missed cpu rs n a = refl

packet-long : (uuid : List ℕ) (e : EnabledRows) (missed cpu : ℕ) (rs : List Record) (n a : ℕ) (x : List ℕ) → 0 < length (packet_at uuid e missed cpu rs n a ++ x)
packet-long uuid e missed cpu rs n a x =
    let part : List Record = take 4096 (drop (4096 * a) rs) in
    let told : ℕ = cond (a + 1 == n) missed 0 in
    subst (λ p. 0 < length (p ++ x)) (sym (packet-is uuid e missed cpu rs n a)) (timed-long uuid e missed cpu told part x)

-- from a place on: the packets' records are the same where their bytes are
module _ (f g : ℕ → List ℕ) (rs qs : List Record) where
  record AreKnown : Type 0 where
    pub step : (a : ℕ) (x y : List ℕ) → f a ++ x ≡ g a ++ y → (take 4096 (drop (4096 * a) rs) ≡ take 4096 (drop (4096 * a) qs)) × (x ≡ y)
    pub left_long : (a : ℕ) (x : List ℕ) → 0 < length (f a ++ x)
    pub right_long : (a : ℕ) (x : List ℕ) → 0 < length (g a ++ x)

  walk : (are : AreKnown) (k l a : ℕ) → length rs ≤ 4096 * (a + k) → length qs ≤ 4096 * (a + l)
      → flat_map f (range_with_len a k) ≡ flat_map g (range_with_len a l) → drop (4096 * a) rs ≡ drop (4096 * a) qs
  walk are zero zero a short short' is = drop_all (4096 * a) rs (omega (arith, short)) ∙ sym (drop_all (4096 * a) qs (omega (arith, short')))
  walk are zero (suc l) a short short' is = grind (arith, nat_tests)
  walk are (suc k) zero a short short' is = grind (arith, nat_tests)
  walk are (suc k) (suc l) a short short' is =
      let parts = are.step a (flat_map f (range_with_len (a + 1) k)) (flat_map g (range_with_len (a + 1) l)) is in
      let after : drop (4096 * (a + 1)) rs ≡ drop (4096 * (a + 1)) qs = walk are k l (a + 1) (omega (arith, short)) (omega (arith, short')) parts.1 in
      rejoin (4096 * a) 4096 (4096 * (a + 1)) rs (omega arith) ∙ ap (λ front. front ++ drop (4096 * (a + 1)) rs) parts.0
      ∙ ap (λ back. take 4096 (drop (4096 * a) qs) ++ back) after ∙ sym (rejoin (4096 * a) 4096 (4096 * (a + 1)) qs (omega arith))

pub few : (ps : List Record) → length (take 4096 ps) ≤ 4096
few ps = omega (arith, length-take 4096 ps)

packets-known : (e : EnabledRows) (uuid : List ℕ) (missed cpu missed' cpu' : ℕ) (rs qs : List Record) (n m : ℕ) → All (Accepts e) rs → All (Accepts e) qs
    → AreKnown (packet_at uuid e missed cpu rs n) (packet_at uuid e missed' cpu' qs m) rs qs
packets-known e uuid missed cpu missed' cpu' rs qs n m of_r of_q = record {
  step = λ a x y is.
      let part : List Record = take 4096 (drop (4096 * a) rs) in
      let part' : List Record = take 4096 (drop (4096 * a) qs) in
      timed-same uuid e missed cpu (cond (a + 1 == n) missed 0) missed' cpu' (cond (a + 1 == m) missed' 0) part part' x y
      (All-take (Accepts e) 4096 (drop (4096 * a) rs) (All-drop (Accepts e) (4096 * a) rs of_r))
      (All-take (Accepts e) 4096 (drop (4096 * a) qs) (All-drop (Accepts e) (4096 * a) qs of_q)) (few (drop (4096 * a) rs)) (few (drop (4096 * a) qs))
      (ap (λ p. p ++ x) (sym (packet-is uuid e missed cpu rs n a)) ∙ is ∙ ap (λ p. p ++ y) (packet-is uuid e missed' cpu' qs m a));
  left_long = λ a x. packet-long uuid e missed cpu rs n a x;
  right_long = λ a x. packet-long uuid e missed' cpu' qs m a x;
}

-- there are packets for all records
covers-test : (missed n : ℕ) (none : Bool) → (n == 0) ≡ none → n ≤ 4096 * (0 + cond none (cond (missed == 0) 0 1) ((n + 4095) / 4096))
covers-test missed n true is = grind (arith, nat_tests, eqb-true)
covers-test missed n false is = omega arith

pub covers : (missed n : ℕ) → n ≤ 4096 * (0 + packet_count missed n)
covers missed n = covers-test missed n (n == 0) refl

pub stream-same : (e : EnabledRows) (uuid : List ℕ) (missed cpu missed' cpu' : ℕ) (rs qs : List Record) → All (Accepts e) rs → All (Accepts e) qs
    → timed_packets uuid e missed cpu rs ≡ timed_packets uuid e missed' cpu' qs → rs ≡ qs
unfolding timed_packets
stream-same e uuid missed cpu missed' cpu' rs qs of_r of_q is =
    let n : ℕ = packet_count missed (length rs) in
    let m : ℕ = packet_count missed' (length qs) in
    walk (packet_at uuid e missed cpu rs n) (packet_at uuid e missed' cpu' qs m) rs qs (packets-known e uuid missed cpu missed' cpu' rs qs n m of_r of_q)
    n m 0 (covers missed (length rs)) (covers missed' (length qs)) is
