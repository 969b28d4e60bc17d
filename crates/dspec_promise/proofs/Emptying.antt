-- What the emptying of a buffer does to the offers.
use Rattle.std.proofs.Common.{◌≡◌, ℕ, ◌+◌, Bool, true, false, ◌&&◌, if◌then◌else◌, List, [], ◌∷◌, map, Option, None, Some, refl, sym, ap, true≢false, arith}
use Rattle.std.proofs.lemmas.Bool.Decides.{nat_tests}
use Rattle.dspec_promise.specs.Words.{Record, Speculation, RecordFate, held, emptied_fate, same_fate, is_same_id, HandedRecord, is_for, waits_for, once_emptied, held_for, number, of, DecideFate}
use Rattle.dspec_deeds.proofs.TestLemmas.{off, and_tells, and_false, same_id_tells}

-- a held record is held
pub same_held : (f : RecordFate) → same_fate held f ≡ true → f ≡ held
same_held held e = refl
same_held f e = absurd (true≢false (sym e))

-- what it is for, is of that identifier
pub is_for_tells : (id : Speculation) (x : Option Speculation) → is_for id x ≡ true → x ≡ Some id
is_for_tells id None e = absurd (true≢false (sym e))
is_for_tells id (Some j) e = ap Some (sym (same_id_tells id j e))

-- what waits for a speculation is for it, and held
pub waits_tells : (id : Speculation) (o : HandedRecord) → waits_for id o ≡ true → (o.to ≡ Some id) × (o.fate ≡ held)
waits_tells id o e = grind (arith, nat_tests, and_tells, is_for_tells, same_held)

-- an offer that waits gets the fate
pub emptied_one : (id : Speculation) (f : DecideFate) (o : HandedRecord) → waits_for id o ≡ true → once_emptied id f o ≡ record o { fate = emptied_fate f }
emptied_one id f o e = rw e refl

-- and another stays
pub emptied_other : (id : Speculation) (f : DecideFate) (o : HandedRecord) → waits_for id o ≡ false → once_emptied id f o ≡ o
emptied_other id f o e = rw e refl

-- where nothing is emptied, nothing changes
none_emptied : (id : Speculation) (f : DecideFate) → emptied_fate f ≡ held → (o : HandedRecord) → once_emptied id f o ≡ o
none_emptied id f same o = grind (arith, nat_tests, waits_tells, emptied_one, emptied_other)

pub nothing_emptied : (id : Speculation) (f : DecideFate) → emptied_fate f ≡ held → (os : List HandedRecord) → map (once_emptied id f) os ≡ os
nothing_emptied id f same [] = refl
nothing_emptied id f same (o ∷ os) = λ i. none_emptied id f same o i ∷ nothing_emptied id f same os i

-- an emptied record waits for nothing
emptied_waits : (id j : Speculation) (f : DecideFate) → same_fate held (emptied_fate f) ≡ false → (o : HandedRecord) → waits_for id o ≡ true → waits_for j (once_emptied id f o) ≡ false
emptied_waits id j f gone o t = rw (t, gone) (and_false (is_for j o.to))

-- the contents of the others wait on, and of the emptied buffer none
pub waiting_emptied : (id j : Speculation) (f : DecideFate) → same_fate held (emptied_fate f) ≡ false → (os : List HandedRecord)
    → held_for j (map (once_emptied id f) os) ≡ (if is_same_id j id then [] else held_for j os)
waiting_emptied id j f gone [] = grind (arith, nat_tests)
waiting_emptied id j f gone (o ∷ os) = grind (arith, nat_tests, waiting_emptied id j f gone os, emptied_waits, emptied_other, waits_tells, off, same_id_tells)

-- one more, if so
abbrev pub one : Bool → ℕ
one b = if b then 1 else 0

-- the records of the emptied buffer are counted under their fate
counted_one : (g : RecordFate) → same_fate g held ≡ false → (id : Speculation) (f : DecideFate) (o : HandedRecord) (test : Record → Bool)
    → one (of g (once_emptied id f o) && test (once_emptied id f o).content)
    ≡ one (of g o && test o.content) + (if same_fate g (emptied_fate f) then one (waits_for id o && test o.content) else 0)
counted_one g never id f o test = grind (arith, nat_tests, emptied_one, waits_tells, emptied_other)

pub counted_emptied : (g : RecordFate) → same_fate g held ≡ false → (id : Speculation) (f : DecideFate) (os : List HandedRecord) (test : Record → Bool)
    → number (λ o. of g o && test o.content) (map (once_emptied id f) os)
    ≡ number (λ o. of g o && test o.content) os + (if same_fate g (emptied_fate f) then number (λ o. waits_for id o && test o.content) os else 0)
counted_emptied g never id f [] test = grind (arith, nat_tests)
counted_emptied g never id f (o ∷ os) test = grind (arith, nat_tests, counted_emptied g never id f os test, counted_one)

-- as many pass as stand in the buffer and pass
pub waiting_number : (test : Record → Bool) (id : Speculation) (os : List HandedRecord) → number test (held_for id os) ≡ number (λ o. waits_for id o && test o.content) os
waiting_number test id [] = refl
waiting_number test id (o ∷ os) = grind (arith, nat_tests, waiting_number test id os)
