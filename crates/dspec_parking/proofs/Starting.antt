-- Where the blocks of a ring start, counted modulo 2^64.
use Rattle.std.proofs.Common.{◌≡◌, ℕ, ◌+◌, ◌-◌, ◌%◌, ◌^◌, ◌<◌, List, [], ◌∷◌, ◌++◌, take, drop, set, Some, zero, suc, sym, ap, ◌∙◌, arith, mod-eq_of_lt}
use Rattle.std.proofs.lemmas.{List.Sums.sum_by-cons, Option.none-some, Option.same_Some}
use native.Mathlib.Nat.{add-mod_right, mod-add-mod}
use Rattle.std.specs.{List.sum_by, Prelude.slice_get}
use Rattle.dspec_parking.specs.{Words.StartsFrom, Words.entry_bytes, Words.wrapped, declared.parking_entry.ParkingEntry.ParkingEntry}
use Rattle.dspec_parking.proofs.Cutting.{kept_entry}

same_further : (a b n : ℕ) → wrapped a ≡ wrapped b → wrapped (a + n) ≡ wrapped (b + n)
same_further a b n is = sym (mod-add-mod a (2 ^ 64) n) ∙ ap (λ (v : ℕ). wrapped (v + n)) is ∙ mod-add-mod b (2 ^ 64) n

wrapped-wrapped : (a : ℕ) → wrapped (wrapped a) ≡ wrapped a
wrapped-wrapped a =
    let none_before : wrapped a ≡ wrapped a + 0 = omega arith in
    let none_after : a + 0 ≡ a = omega arith in
    ap wrapped none_before ∙ mod-add-mod a (2 ^ 64) 0 ∙ ap wrapped none_after

pub StartsFrom-same : (es : List ParkingEntry) (a b : ℕ) → wrapped a ≡ wrapped b → StartsFrom a es → StartsFrom b es
StartsFrom-same [] a b is starts = tt
StartsFrom-same (e ∷ es) a b is starts = (starts.0 ∙ is, StartsFrom-same es (a + e.length) (b + e.length) (same_further a b e.length is) starts.1)

pub StartsFrom-push : (es : List ParkingEntry) (at : ℕ) (e : ParkingEntry) → StartsFrom at es → e.start ≡ wrapped (at + sum_by entry_bytes es) → StartsFrom at (es ++ e ∷ [])
StartsFrom-push [] at e starts is = let none : at + 0 ≡ at = omega arith in (is ∙ ap wrapped none, tt)
StartsFrom-push (x ∷ es) at e starts is =
    let all : sum_by entry_bytes (x ∷ es) ≡ x.length + sum_by entry_bytes es = sum_by-cons entry_bytes x es in
    let same : at + sum_by entry_bytes (x ∷ es) ≡ (at + x.length) + sum_by entry_bytes es = omega arith in
    (starts.0, StartsFrom-push es (at + x.length) e starts.1 (is ∙ ap wrapped same))

pub StartsFrom-rest : (es : List ParkingEntry) (at : ℕ) (e : ParkingEntry) → slice_get es 0 ≡ Some e → StartsFrom at es → StartsFrom (wrapped (at + e.length)) (drop 1 es)
StartsFrom-rest [] at e is starts = absurd (none-some e is)
StartsFrom-rest (x ∷ es) at e is starts =
    let same : x.length ≡ e.length = ap entry_bytes (same_Some x e is) in
    StartsFrom-same es (at + x.length) (wrapped (at + e.length)) (ap (λ (n : ℕ). wrapped (at + n)) same ∙ sym (wrapped-wrapped (at + e.length))) starts.1

pub StartsFrom-kept : (es : List ParkingEntry) (at i : ℕ) (e : ParkingEntry) → slice_get es i ≡ Some e → StartsFrom at es → StartsFrom at (set es i (kept_entry e))
StartsFrom-kept [] at i e is starts = tt
StartsFrom-kept (x ∷ es) at zero e is starts =
    let same = same_Some x e is in
    let long : x.length ≡ e.length = ap entry_bytes same in
    (ap (λ (v : ParkingEntry). v.start) (sym same) ∙ starts.0, StartsFrom-same es (at + x.length) (at + e.length) (ap (λ (n : ℕ). wrapped (at + n)) long) starts.1)
StartsFrom-kept (x ∷ es) at (suc i) e is starts = (starts.0, StartsFrom-kept es (at + x.length) i e is starts.1)

pub start_at : (es : List ParkingEntry) (at i : ℕ) (e : ParkingEntry) → slice_get es i ≡ Some e → StartsFrom at es → e.start ≡ wrapped (at + sum_by entry_bytes (take i es))
start_at [] at i e is starts = absurd (none-some e is)
start_at (x ∷ es) at zero e is starts =
    let none : at ≡ at + 0 = omega arith in
    ap (λ (v : ParkingEntry). v.start) (sym (same_Some x e is)) ∙ starts.0 ∙ ap wrapped none
start_at (x ∷ es) at (suc i) e is starts =
    let all : sum_by entry_bytes (x ∷ take i es) ≡ x.length + sum_by entry_bytes (take i es) = sum_by-cons entry_bytes x (take i es) in
    let same : (at + x.length) + sum_by entry_bytes (take i es) ≡ at + sum_by entry_bytes (x ∷ take i es) = omega arith in
    start_at es (at + x.length) i e is starts.1 ∙ ap wrapped same

-- how far a start is from the tail
pub distance : (at n start : ℕ) → at < 2 ^ 64 → n < 2 ^ 64 → start ≡ wrapped (at + n) → (start + (2 ^ 64 - at)) % 2 ^ 64 ≡ n
distance at n start below small is =
    let round : (at + n) + (2 ^ 64 - at) ≡ n + 2 ^ 64 = omega arith in
    ap (λ (v : ℕ). (v + (2 ^ 64 - at)) % 2 ^ 64) is ∙ mod-add-mod (at + n) (2 ^ 64) (2 ^ 64 - at)
    ∙ ap wrapped round ∙ add-mod_right n (2 ^ 64) ∙ mod-eq_of_lt small
