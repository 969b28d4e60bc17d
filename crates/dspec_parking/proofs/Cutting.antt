-- The places of a ring, by its entries and the bytes that they cut.
use Rattle.std.proofs.Common.{◌≡◌, ℕ, ◌+◌, ◌-◌, ◌≤◌, List, [], ◌∷◌, ◌++◌, length, take, drop, set, cond, Some, zero, suc, true, refl, sym, ap, ap₂, subst, ◌∙◌, arith, length-drop, length-take-le}
use Rattle.std.proofs.lemmas.{List.drop-append-le, List.drop-drop, List.nil_from_length, List.take-append-le, List.take_all, List.Sums.sum_by-cons, Option.none-some, Option.same_Some}
use Rattle.std.specs.{List.sum_by, Prelude.not, Prelude.slice_get}
use Rattle.dspec_parking.specs.Words.{ParkingPlace, bytes_at, is_standing, standing_in, used_bytes, kept_place, entry_bytes, place_with, places_cut}
use Rattle.dspec_parking.specs.declared.parking_entry.ParkingEntry.{ParkingEntry}

-- the entry of a block that was kept
abbrev pub kept_entry : ParkingEntry → ParkingEntry
kept_entry e = record e { is_kept = true }

pub length-places_cut : (es : List ParkingEntry) (bs : List ℕ) → length (places_cut es bs) ≡ length es
length-places_cut [] bs = refl
length-places_cut (e ∷ es) bs = ap suc (length-places_cut es (drop e.length bs))

-- what is left for the entries that follow the first
rest_fits : (e : ParkingEntry) (es : List ParkingEntry) (bs : List ℕ) → sum_by entry_bytes (e ∷ es) ≡ length bs
    → (e.length ≤ length bs) × (sum_by entry_bytes es ≡ length (drop e.length bs))
rest_fits e es bs is =
    let first : e.length + sum_by entry_bytes es ≡ length bs = sym (sum_by-cons entry_bytes e es) ∙ is in
    let after : length (drop e.length bs) ≡ length bs - e.length = length-drop e.length bs in
    (omega arith, omega arith)

-- the entries use all bytes
pub used_bytes-places_cut : (es : List ParkingEntry) (bs : List ℕ) → sum_by entry_bytes es ≡ length bs → used_bytes (places_cut es bs) ≡ length bs
used_bytes-places_cut [] bs is = is
used_bytes-places_cut (e ∷ es) bs is =
    let fits = rest_fits e es bs is in
    let first : length (take e.length bs) ≡ e.length = length-take-le e.length bs fits.0 in
    let rest : used_bytes (places_cut es (drop e.length bs)) ≡ length (drop e.length bs) = used_bytes-places_cut es (drop e.length bs) fits.1 in
    let after : length (drop e.length bs) ≡ length bs - e.length = length-drop e.length bs in
    sum_by-cons bytes_at (place_with e (take e.length bs)) (places_cut es (drop e.length bs)) ∙ omega arith

-- one entry more, with its bytes
pub places_cut-push : (es : List ParkingEntry) (bs more : List ℕ) (e : ParkingEntry) → sum_by entry_bytes es ≡ length bs → e.length ≡ length more
    → places_cut (es ++ e ∷ []) (bs ++ more) ≡ places_cut es bs ++ place_with e more ∷ []
places_cut-push [] bs more e is long =
    subst (λ (b : List ℕ). places_cut (e ∷ []) (b ++ more) ≡ place_with e more ∷ []) (sym (nil_from_length bs (sym is)))
    (ap (λ (l : List ℕ). place_with e l ∷ []) (take_all e.length more (omega arith)))
places_cut-push (x ∷ es) bs more e is long =
    let fits = rest_fits x es bs is in
    ap₂ ◌∷◌ (ap (place_with x) (take-append-le x.length bs more fits.0))
    (ap (places_cut (es ++ e ∷ [])) (drop-append-le x.length bs more fits.0) ∙ places_cut-push es (drop x.length bs) more e fits.1 long)

-- the first entry goes, with its bytes
pub places_cut-rest : (es : List ParkingEntry) (bs : List ℕ) (e : ParkingEntry) → slice_get es 0 ≡ Some e → drop 1 (places_cut es bs) ≡ places_cut (drop 1 es) (drop e.length bs)
places_cut-rest [] bs e is = absurd (none-some e is)
places_cut-rest (x ∷ es) bs e is = ap (λ (v : ParkingEntry). places_cut es (drop v.length bs)) (same_Some x e is)

pub standing_in-rest : (es : List ParkingEntry) (bs : List ℕ) (e : ParkingEntry) → slice_get es 0 ≡ Some e
    → standing_in (places_cut es bs) ≡ cond (not e.is_kept) 1 0 + standing_in (drop 1 (places_cut es bs))
standing_in-rest [] bs e is = absurd (none-some e is)
standing_in-rest (x ∷ es) bs e is =
    sum_by-cons (λ (p : ParkingPlace). cond (is_standing p) 1 0) (place_with x (take x.length bs)) (places_cut es (drop x.length bs))
    ∙ ap (λ (v : ParkingEntry). cond (not v.is_kept) 1 0 + standing_in (places_cut es (drop x.length bs))) (same_Some x e is)

pub sum_by-rest : (es : List ParkingEntry) (e : ParkingEntry) → slice_get es 0 ≡ Some e → sum_by entry_bytes es ≡ e.length + sum_by entry_bytes (drop 1 es)
sum_by-rest [] e is = absurd (none-some e is)
sum_by-rest (x ∷ es) e is = sum_by-cons entry_bytes x es ∙ ap (λ (v : ParkingEntry). v.length + sum_by entry_bytes es) (same_Some x e is)

-- the place of an entry has its part of the bytes
pub slice_get-places_cut : (es : List ParkingEntry) (bs : List ℕ) (i : ℕ) (e : ParkingEntry) → slice_get es i ≡ Some e
    → slice_get (places_cut es bs) i ≡ Some (place_with e (take e.length (drop (sum_by entry_bytes (take i es)) bs)))
slice_get-places_cut [] bs i e is = absurd (none-some e is)
slice_get-places_cut (x ∷ es) bs zero e is = ap (λ (v : ParkingEntry). Some (place_with v (take v.length bs))) (same_Some x e is)
slice_get-places_cut (x ∷ es) bs (suc i) e is =
    slice_get-places_cut es (drop x.length bs) i e is
    ∙ ap (λ (l : List ℕ). Some (place_with e (take e.length l)))
    (drop-drop (sum_by entry_bytes (take i es)) x.length bs ∙ ap (λ (n : ℕ). drop n bs) (sym (sum_by-cons entry_bytes x (take i es))))

-- it is within the bytes
pub entry_within : (es : List ParkingEntry) (i : ℕ) (e : ParkingEntry) → slice_get es i ≡ Some e → sum_by entry_bytes (take i es) + e.length ≤ sum_by entry_bytes es
entry_within [] i e is = absurd (none-some e is)
entry_within (x ∷ es) zero e is =
    let same : x.length ≡ e.length = ap entry_bytes (same_Some x e is) in
    let all : sum_by entry_bytes (x ∷ es) ≡ x.length + sum_by entry_bytes es = sum_by-cons entry_bytes x es in
    omega arith
entry_within (x ∷ es) (suc i) e is =
    let rest : sum_by entry_bytes (take i es) + e.length ≤ sum_by entry_bytes es = entry_within es i e is in
    let all : sum_by entry_bytes (x ∷ es) ≡ x.length + sum_by entry_bytes es = sum_by-cons entry_bytes x es in
    let before : sum_by entry_bytes (x ∷ take i es) ≡ x.length + sum_by entry_bytes (take i es) = sum_by-cons entry_bytes x (take i es) in
    omega arith

-- a block is kept
pub places_cut-kept : (es : List ParkingEntry) (bs : List ℕ) (i : ℕ) (e : ParkingEntry) (p : ParkingPlace) → slice_get es i ≡ Some e → slice_get (places_cut es bs) i ≡ Some p
    → places_cut (set es i (kept_entry e)) bs ≡ set (places_cut es bs) i (kept_place p)
places_cut-kept [] bs i e p is at = absurd (none-some e is)
places_cut-kept (x ∷ es) bs zero e p is at =
    let same = sym (same_Some x e is) in
    ap₂ ◌∷◌ (ap (λ (v : ParkingEntry). kept_place (place_with v (take v.length bs))) same ∙ ap kept_place (same_Some (place_with x (take x.length bs)) p at))
    (ap (λ (v : ParkingEntry). places_cut es (drop v.length bs)) same)
places_cut-kept (x ∷ es) bs (suc i) e p is at =
    ap (λ (ps : List ParkingPlace). place_with x (take x.length bs) ∷ ps) (places_cut-kept es (drop x.length bs) i e p is at)

pub sum_by-kept : (es : List ParkingEntry) (i : ℕ) (e : ParkingEntry) → slice_get es i ≡ Some e → sum_by entry_bytes (set es i (kept_entry e)) ≡ sum_by entry_bytes es
sum_by-kept [] i e is = absurd (none-some e is)
sum_by-kept (x ∷ es) zero e is =
    sum_by-cons entry_bytes (kept_entry e) es ∙ ap (λ (v : ParkingEntry). v.length + sum_by entry_bytes es) (sym (same_Some x e is)) ∙ sym (sum_by-cons entry_bytes x es)
sum_by-kept (x ∷ es) (suc i) e is =
    sum_by-cons entry_bytes x (set es i (kept_entry e)) ∙ ap (λ (n : ℕ). x.length + n) (sum_by-kept es i e is) ∙ sym (sum_by-cons entry_bytes x es)
