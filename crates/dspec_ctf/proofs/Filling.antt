-- Records shared out to packets of 1,024 bytes.
use Rattle.std.proofs.Common.{◌≡◌, ◌≤◌, ◌<◌, ◌+◌, ◌-◌, ◌*◌, ◌++◌, ℕ, Bool, true, false, cond, List, [], ◌∷◌, length, get_or, take, drop, replicate, Option, Some, None, refl, ap, sym, subst, ◌∙◌}
use Rattle.std.proofs.Common.{arith, append_assoc, length-append, All}
use Rattle.std.proofs.lemmas.{Bool.leb-true, Bool.le-leb, Bool.lt-leb, Bool.Decides.nat_tests, List.append-nil, List.drop_more, List.length-drop, List.length-replicate, List.take-replicate}
use Rattle.std.proofs.lemmas.{List.take_more, List.get_or-drop, List.Elements.All-head, List.Elements.All-tail, List.Elements.All-nil, List.Elements.All-cons, List.Elements.All-push}
use Rattle.std.specs.{List.flat_map, Prelude.slice_index, Prelude.slice_range}
use Rattle.dspec_ctf.specs.Words.{Record, little_endian, EnabledRows, event, events, header_bytes, span_bytes, context_bytes, front_bytes, front_size, filled_around, filled_packet, filled_packets}
use Rattle.dspec_ctf.specs.Words.{filled_size, front_by, portions, portions_from, span_by, takes_another, missed_packets, Accepts}
use Rattle.dspec_ctf.proofs.OneStream.{accepted-small}

pub zeros_of : (n : ℕ) → n ≤ filled_size → take n (replicate {A = ℕ} filled_size 0) ≡ replicate {A = ℕ} n 0
zeros_of n few = take-replicate n filled_size 0 few

-- both ways of a choice have something
pub either : {A : Type 0} (P : A → Type 0) (b : Bool) (x y : A) → (b ≡ true → P x) → P y → P (cond b x y)
either P true x y of_x of_y = of_x refl
either P false x y of_x of_y = of_y

front-small : (t : Bool) → front_by t ≤ 68
front-small true = omega arith
front-small false = omega arith

events-more : (e : EnabledRows) (held : List Record) (r : Record) → events e (held ++ r ∷ []) ≡ events e held ++ event e r
events-more e [] r = append-nil (event e r)
events-more e (h ∷ held) r = ap (λ more. event e h ++ more) (events-more e held r) ∙ sym (append_assoc (event e h) (events e held) (event e r))

module _ (timed : Bool) (e : EnabledRows) where
  -- the records of all packets are those that are held and those that come
  pub portions-all : (held rs : List Record) → flat_map (λ portion. portion) (portions_from timed e held rs) ≡ held ++ rs
  portions-all held [] = refl
  portions-all held (r ∷ rs) = either (λ ps. flat_map (λ portion. portion) ps ≡ held ++ r ∷ rs) (takes_another timed e held r)
      (portions_from timed e (held ++ r ∷ []) rs) (held ∷ portions_from timed e (r ∷ []) rs)
      (λ _. portions-all (held ++ r ∷ []) rs ∙ append_assoc held (r ∷ []) rs) (ap (λ more. held ++ more) (portions-all (r ∷ []) rs))

  -- a packet has room for these
  abbrev pub Fits : List Record → Type 0
  Fits rs = All (Accepts e) rs × (front_by timed + length (events e rs) ≤ filled_size)

  pub events-push : (held : List Record) (r : Record) → length (events e (held ++ r ∷ [])) ≡ length (events e held) + length (event e r)
  events-push held r = ap length (events-more e held r) ∙ length-append (events e held) (event e r)

  one-fits : (r : Record) → Accepts e r → Fits (r ∷ [])
  one-fits r of_r = (
    All-cons (Accepts e) r [] of_r (All-nil (Accepts e)),
    omega (arith, length-append (event e r) [], accepted-small e r of_r, front-small timed),
  )

  pub portions-fit : (held rs : List Record) → Fits held → All (Accepts e) rs → All Fits (portions_from timed e held rs)
  portions-fit held [] fits of_rs = All-cons Fits held [] fits (All-nil Fits)
  portions-fit held (r ∷ rs) fits of_rs =
      let of_r = All-head (Accepts e) r rs of_rs in
      let of_more = All-tail (Accepts e) r rs of_rs in
      either (All Fits) (takes_another timed e held r) (portions_from timed e (held ++ r ∷ []) rs) (held ∷ portions_from timed e (r ∷ []) rs)
      (λ is. portions-fit (held ++ r ∷ []) rs (
        All-push (Accepts e) held r fits.0 of_r,
        omega (arith, events-push held r, leb-true (front_by timed + (length (events e held) + length (event e r))) filled_size is),
      ) of_more)
      (All-cons Fits held (portions_from timed e (r ∷ []) rs) fits (portions-fit (r ∷ []) rs (one-fits r of_r) of_more))

  pub front-is : (rs : List Record) → front_size (span_by timed rs) ≡ front_by timed
  front-is rs = grind (arith, nat_tests)

-- what stands before the events has as many bytes as are said
pub front-sized : (uuid : List ℕ) (span : Option (ℕ × ℕ)) (content size missed cpu : ℕ) → length uuid ≡ 16 → length (front_bytes uuid span content size missed cpu) ≡ front_size span
unfolding front_bytes header_bytes context_bytes
front-sized uuid span content size missed cpu long = by-form span
  where
    h : List ℕ
    h = header_bytes uuid

    c : List ℕ
    c = context_bytes (8 * content) (8 * size) missed cpu

    header-sized : length h ≡ 24
    header-sized = omega (arith, long, length-append uuid (little_endian 4 0))

    by-form : (s : Option (ℕ × ℕ)) → length (h ++ (span_bytes s ++ c)) ≡ front_size s
    by-form None = omega (arith, header-sized, length-append h c)
    by-form (Some s) = omega (arith, header-sized, length-append h (span_bytes (Some s) ++ c))

-- and a packet that has room for its events has 1,024 bytes
pub around-sized : (uuid : List ℕ) (span : Option (ℕ × ℕ)) (missed cpu : ℕ) (body : List ℕ) → length uuid ≡ 16 → front_size span + length body ≤ filled_size
    → length (filled_around uuid span missed cpu body) ≡ filled_size
unfolding filled_around
around-sized uuid span missed cpu body long fits =
    let n : ℕ = front_size span + length body in
    let zeros : List ℕ = replicate (filled_size - n) 0 in
    let front : List ℕ = front_bytes uuid span n filled_size missed cpu in
    omega (arith, fits, length-append front (body ++ zeros), length-append body zeros, length-replicate {A = ℕ} (filled_size - n) 0, front-sized uuid span n filled_size missed cpu long)

module _ (timed : Bool) (e : EnabledRows) (uuid : List ℕ) (missed cpu : ℕ) where
  -- the bytes that are written in the end, where these are and those records are to come, some of which are held
  abbrev pub written_then : List ℕ → List Record → List Record → List ℕ
  written_then out held rs = out ++ flat_map (filled_packet timed e uuid missed cpu) (portions_from timed e held rs)

  by-test : (held rs : List Record) (r : Record) (b : Bool) → takes_another timed e held r ≡ b
      → portions_from timed e held (r ∷ rs) ≡ cond b (portions_from timed e (held ++ r ∷ []) rs) (held ∷ portions_from timed e (r ∷ []) rs)
  by-test held rs r b is = ap (λ b. cond b (portions_from timed e (held ++ r ∷ []) rs) (held ∷ portions_from timed e (r ∷ []) rs)) is

  module _ (recs : List Record) (from place : ℕ) (d : Record) (after : from ≤ place) (within : place < length recs) where
    abbrev pub r : Record
    r = get_or recs place d

    abbrev pub held : List Record
    held = slice_range recs from place

    here : drop place recs ≡ r ∷ drop (place + 1) recs
    here = drop_more recs place d within

    -- one record more is held
    pub held-more : slice_range recs from (place + 1) ≡ held ++ r ∷ []
    held-more =
        let k : ℕ = place - from in
        let front : List Record = drop from recs in
        let inside : k < length front = omega (arith, after, within, length-drop from recs) in
        let whole : from + k ≡ place = omega (arith, after) in
        let sum : place + 1 - from ≡ k + 1 = omega (arith, after) in
        let last : get_or front k d ≡ get_or recs place d = get_or-drop from recs k d ∙ ap (λ n. get_or recs n d) whole in
        ap (λ n. take n front) sum ∙ take_more front k d inside ∙ ap (λ x. take k front ++ x ∷ []) last

    -- or it is alone
    pub held-alone : slice_range recs place (place + 1) ≡ r ∷ []
    held-alone =
        let one : place + 1 - place ≡ 1 = omega arith in
        ap (λ n. take n (drop place recs)) one ∙ ap (take 1) here

    pub goes-on : (out whole : List ℕ) → takes_another timed e held r ≡ true → written_then out held (drop place recs) ≡ whole
        → written_then out (slice_range recs from (place + 1)) (drop (place + 1) recs) ≡ whole
    goes-on out whole fits is =
        ap (λ h. written_then out h (drop (place + 1) recs)) held-more
        ∙ (ap (λ ps. out ++ flat_map (filled_packet timed e uuid missed cpu) ps) (sym (by-test held (drop (place + 1) recs) r true fits))
        ∙ (ap (λ rs. written_then out held rs) (sym here) ∙ is))

    pub begins-next : (out more whole : List ℕ) → takes_another timed e held r ≡ false → more ≡ out ++ filled_packet timed e uuid missed cpu held
        → written_then out held (drop place recs) ≡ whole → written_then more (slice_range recs place (place + 1)) (drop (place + 1) recs) ≡ whole
    begins-next out more whole full written is =
        let next : List ℕ = flat_map (filled_packet timed e uuid missed cpu) (portions_from timed e (r ∷ []) (drop (place + 1) recs)) in
        ap (λ h. written_then more h (drop (place + 1) recs)) held-alone
        ∙ (ap (λ o. o ++ next) written
        ∙ (append_assoc out (filled_packet timed e uuid missed cpu held) next
        ∙ (ap (λ ps. out ++ flat_map (filled_packet timed e uuid missed cpu) ps) (sym (by-test held (drop (place + 1) recs) r false full))
        ∙ (ap (λ rs. written_then out held rs) (sym here) ∙ is))))

  module _ (recs : List Record) (whole : List ℕ) where
    -- what is written and held at a place of the records: the packet that isn't ended has those from another place on, whose events are there
    pub record IsFilledTo (out body : List ℕ) (from place : ℕ) : Type 0 where
      pub after : from ≤ place
      pub body_is : body ≡ events e (slice_range recs from place)
      pub fits : front_by timed + length body ≤ filled_size
      pub written : written_then out (slice_range recs from place) (drop place recs) ≡ whole

    -- one record more is held
    pub filled-on : (out body : List ℕ) (from place : ℕ) (d : Record) → place < length recs → IsFilledTo out body from place → (out' body' : List ℕ) (from' : ℕ) → out' ≡ out
        → body' ≡ body ++ event e (get_or recs place d) → from' ≡ from → front_by timed + length body' ≤ filled_size → IsFilledTo out' body' from' (place + 1)
    filled-on out body from place d within at out' body' from' same more stays few =
        let r : Record = get_or recs place d in
        let held : List Record = slice_range recs from place in
        let fits : takes_another timed e held r ≡ true =
        le-leb (front_by timed + (length (events e held) + length (event e r))) filled_size (omega (arith, few, ap length more, ap length at.body_is, length-append body (event e r))) in
        subst (λ f. IsFilledTo out' body' f (place + 1)) (sym stays) (subst (λ o. IsFilledTo o body' from (place + 1)) (sym same) (record {
          after = omega (arith, at.after);
          body_is = more ∙ ap (λ b. b ++ event e r) at.body_is ∙ sym (events-more e held r) ∙ ap (events e) (sym (held-more recs from place d at.after within));
          fits = few;
          written = goes-on recs from place d at.after within out whole fits at.written;
        }))

    -- or the packet is ended, and it is alone
    pub filled-anew : (out body : List ℕ) (from place : ℕ) (d : Record) → place < length recs → IsFilledTo out body from place → (out' body' : List ℕ) (from' : ℕ)
        → out' ≡ out ++ filled_packet timed e uuid missed cpu (slice_range recs from place) → body' ≡ event e (get_or recs place d) → from' ≡ place
        → length (event e (get_or recs place d)) ≤ 76 → filled_size < front_by timed + length (body ++ event e (get_or recs place d)) → IsFilledTo out' body' from' (place + 1)
    filled-anew out body from place d within at out' body' from' ended one stays small full =
        let r : Record = get_or recs place d in
        let held : List Record = slice_range recs from place in
        let fits_none : takes_another timed e held r ≡ false =
        lt-leb (front_by timed + (length (events e held) + length (event e r))) filled_size (omega (arith, full, ap length at.body_is, length-append body (event e r))) in
        subst (λ f. IsFilledTo out' body' f (place + 1)) (sym stays) (record {
          after = omega arith;
          body_is = one ∙ sym (append-nil (event e r)) ∙ ap (events e) (sym (held-alone recs from place d at.after within));
          fits = omega (arith, ap length one, small, front-small timed);
          written = begins-next recs from place d at.after within out out' whole fits_none ended at.written;
        })

  -- each of the packets has 1,024 bytes
  packet-sized : (rs : List Record) → length uuid ≡ 16 → Fits timed e rs → length (filled_packet timed e uuid missed cpu rs) ≡ filled_size
  unfolding filled_packet
  packet-sized rs long fits = around-sized uuid (span_by timed rs) missed cpu (events e rs) long (subst (λ n. n + length (events e rs) ≤ filled_size) (sym (front-is timed e rs)) fits.1)

  each-sized : (ps : List (List Record)) → length uuid ≡ 16 → All (Fits timed e) ps → All (λ portion. length (filled_packet timed e uuid missed cpu portion) ≡ filled_size) ps
  each-sized [] long fit = All-nil (λ portion. length (filled_packet timed e uuid missed cpu portion) ≡ filled_size)
  each-sized (p ∷ ps) long fit = All-cons (λ portion. length (filled_packet timed e uuid missed cpu portion) ≡ filled_size) p ps
      (packet-sized p long (All-head (Fits timed e) p ps fit)) (each-sized ps long (All-tail (Fits timed e) p ps fit))

  all-sized : (ps : List (List Record)) → All (λ portion. length (filled_packet timed e uuid missed cpu portion) ≡ filled_size) ps
      → length (flat_map (filled_packet timed e uuid missed cpu) ps) ≡ filled_size * length ps
  all-sized [] are = refl
  all-sized (p ∷ ps) are =
      let rest : List ℕ = flat_map (filled_packet timed e uuid missed cpu) ps in
      omega (
        arith,
        length-append (filled_packet timed e uuid missed cpu p) rest,
        All-head (λ portion. length (filled_packet timed e uuid missed cpu portion) ≡ filled_size) p ps are,
        all-sized ps (All-tail (λ portion. length (filled_packet timed e uuid missed cpu portion) ≡ filled_size) p ps are),
      )

-- no records
pub none-fits : (timed : Bool) (e : EnabledRows) → Fits timed e []
none-fits true e = (All-nil (Accepts e), omega arith)
none-fits false e = (All-nil (Accepts e), omega arith)

pub packets-whole : (timed : Bool) (e : EnabledRows) (uuid : List ℕ) (missed cpu : ℕ) (rs : List Record) → length uuid ≡ 16 → All (Accepts e) rs
    → All (λ portion. length (filled_packet timed e uuid missed cpu portion) ≡ filled_size) (portions timed e rs)
    × (length (filled_packets timed e uuid missed cpu rs) ≡ filled_size * length (portions timed e rs))
unfolding filled_packets
packets-whole timed e uuid missed cpu rs long of_rs =
    let each = each-sized timed e uuid missed cpu (portions timed e rs) long (portions-fit timed e [] rs (none-fits timed e) of_rs) in
    (each, all-sized timed e uuid missed cpu (portions timed e rs) each)

pub missed-whole : (uuid : List ℕ) (before missed cpu : ℕ) (lasts : List ℕ) → length uuid ≡ 16 → length (missed_packets uuid before missed cpu lasts) ≡ 2 * filled_size
missed-whole uuid before missed cpu lasts long =
    let stamp : ℕ = slice_index lasts 0 in
    let first : List ℕ = filled_around uuid (Some (stamp, stamp)) before cpu [] in
    let second : List ℕ = filled_around uuid (Some (stamp, stamp)) missed cpu [] in
    omega (arith, length-append first second, around-sized uuid (Some (stamp, stamp)) before cpu [] long (omega arith), around-sized uuid (Some (stamp, stamp)) missed cpu [] long (omega arith))
