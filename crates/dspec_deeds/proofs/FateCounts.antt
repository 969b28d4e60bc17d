-- The numbers of the fates are the counts of the report.
use Prim.Native.Nat.{zero, suc}
use Rattle.std.proofs.Common.{◌≡◌, ℕ, ◌+◌, ◌<◌, Bool, true, false, ltb as nat_lt, if◌then◌else◌, List, [], ◌∷◌, length, refl, ◌∙◌, arith}
use Rattle.std.proofs.lemmas.Bool.Decides.{nat_tests}
use Rattle.dspec_deeds.specs.Words.{Record, Speculation, Offer, offers, held, total, accepts_now, traces_dropped_now, specdrops_now, loses_now, discards_now, voids_now, Fate, waiting, fate, fates}
use Rattle.dspec_deeds.specs.Words.{fates_below, is_taken, is_dropped, is_discarded, is_void, is_waiting, times}
use Rattle.dspec_deeds.specs.declared.deed.Deed.{Deed}
use Rattle.dspec_deeds.proofs.{DeedEffects.Accounts, DeedOffers.waits_for, DeedOffers.Counts, DeedOffers.Idle, DeedOffers.Offers, DeedOffers.Empties, DeedOffers.Effect, DeedOffers.idle}
use Rattle.dspec_deeds.proofs.{DeedOffers.offering, DeedOffers.emptying, HeldOffers.fate_offered, HeldOffers.fate_earlier, HeldOffers.fate_emptied, HeldOffers.tally, HeldOffers.emptied_gains}
use Rattle.dspec_deeds.proofs.{HeldOffers.emptied_leaves, HeldOffers.times_held, OfferedContents.AllOffered, OfferedContents.held_offered}

-- how often a list has the records below a number
abbrev times_below : List Offer → ℕ → ℕ
times_below os zero = 0
times_below os (suc j) = times_below os j + times j os

-- an empty list has none
times_none : (n : ℕ) → times_below [] n ≡ 0
times_none zero = refl
times_none (suc j) = omega (arith, times_none j)

-- one more record is counted where its number is below
times_one_more : (o : Offer) (os : List Offer) (n : ℕ) → times_below (o ∷ os) n ≡ times_below os n + (if nat_lt o.number n then 1 else 0)
times_one_more o os zero = grind (arith, nat_tests)
times_one_more o os (suc j) = grind (arith, nat_tests, times_one_more o os j)

-- a list of records below a number is as long as they stand in it
times_all : (c : ℕ) (h : List Deed) (os : List Offer) → AllOffered c h os → times_below os (offers c h) ≡ length os
times_all c h [] a = times_none (offers c h)
times_all c h (o ∷ os) a = grind (arith, nat_tests, times_all c h os a.1, times_one_more)

-- so many records below a number wait as are in the buffer
waiting_below : (c : ℕ) (id : Speculation) (h : List Deed) (n : ℕ) → Accounts c h → fates_below (waits_for id) c h n ≡ times_below (held c id h) n
waiting_below c id h zero l = refl
waiting_below c id h (suc j) l = rw (waiting_below c id h j l, times_held c j id h l) refl

-- as many records wait for a speculation as are in its buffer
pub waiting_count : (c : ℕ) (id : Speculation) (h : List Deed) → Accounts c h → fates (waits_for id) c h ≡ length (held c id h)
waiting_count c id h l = waiting_below c id h (offers c h) l ∙ times_all c h (held c id h) (held_offered c id h l)

-- the same fates have the same numbers
same_below : (test : Fate → Bool) (c : ℕ) (d : Deed) (h : List Deed) (n : ℕ) → ((j : ℕ) → j < n → fate c j (d ∷ h) ≡ fate c j h) → fates_below test c (d ∷ h) n ≡ fates_below test c h n
same_below test c d h zero s = refl
same_below test c d h (suc j) s = rw (same_below test c d h j (λ i lt. s i (omega arith)), s j (omega arith)) refl

-- nothing done leaves the numbers of the fates
pub fates_idle : (test : Fate → Bool) (c : ℕ) (d : Deed) (h : List Deed) → Idle c d h → fates test c (d ∷ h) ≡ fates test c h
fates_idle test c d h h1 = grind arith

-- an offer adds one to its fate's number
pub fates_offered : (test : Fate → Bool) (c : ℕ) (d : Deed) (h : List Deed) (r : Record) (f : Fate) → Offers c d h r f → fates test c (d ∷ h) ≡ fates test c h + (if test f then 1 else 0)
fates_offered test c d h r f o = grind (arith, nat_tests, tally, fate_offered, same_below, fate_earlier)

-- an emptied buffer's records are added to their fate's number
gained_below : (test : Fate → Bool) → ((i : Speculation) → test (waiting i) ≡ false) → (c : ℕ) (d : Deed) (h : List Deed) (id : Speculation) (f : Fate) → Empties c d h id f → (n : ℕ)
    → fates_below test c (d ∷ h) n ≡ fates_below test c h n + (if test f then fates_below (waits_for id) c h n else 0)
gained_below test never c d h id f m zero = grind (arith, nat_tests)
gained_below test never c d h id f m (suc j) =
    rw (gained_below test never c d h id f m j, fate_emptied c j d h id f m, emptied_gains test never id f (fate c j h)) (more (test f))
  where
    more : (b : Bool) → (fates_below test c h j + (if b then fates_below (waits_for id) c h j else 0)) + ((if b then tally (waits_for id) (fate c j h) else 0) + tally test (fate c j h))
        ≡ (fates_below test c h j + tally test (fate c j h)) + (if b then fates_below (waits_for id) c h j + tally (waits_for id) (fate c j h) else 0)
    more true = omega arith
    more false = omega arith

-- the records of an emptied buffer leave the waiting ones
left_below : (c : ℕ) (d : Deed) (h : List Deed) (id : Speculation) (f : Fate) → Empties c d h id f → (n : ℕ)
    → fates_below is_waiting c (d ∷ h) n + fates_below (waits_for id) c h n ≡ fates_below is_waiting c h n
left_below c d h id f m zero = refl
left_below c d h id f m (suc j) = grind (arith, nat_tests, left_below c d h id f m j, emptied_leaves id f (fate c j h) m.gone, fate_emptied c j d h id f m)

-- emptying a buffer offers nothing
emptied_offers : (c : ℕ) (d : Deed) (h : List Deed) (id : Speculation) (f : Fate) → Empties c d h id f → offers c (d ∷ h) ≡ offers c h
emptied_offers c d h id f m = rw m.offered (omega arith)

-- the waiting records are fewer by those of the emptied buffer
pub left_waiting : (c : ℕ) (d : Deed) (h : List Deed) (id : Speculation) (f : Fate) → Accounts c h → Empties c d h id f → fates is_waiting c (d ∷ h) + length (held c id h) ≡ fates is_waiting c h
left_waiting c d h id f l m = grind (arith, nat_tests, emptied_offers, left_below, waiting_count)

-- a deed gives a fate to so many records, and the report counts them
pub record Growth (c : ℕ) (d : Deed) (h : List Deed) : Type 0 where
  pub fate : Fate
  pub number : ℕ
  pub counts : Counts c d fate number
  pub grows : (test : Fate → Bool) → ((i : Speculation) → test (waiting i) ≡ false) → fates test c (d ∷ h) ≡ fates test c h + (if test fate then number else 0)

-- each legal deed is counted
growth : (c : ℕ) (d : Deed) (h : List Deed) → Accounts c (d ∷ h) → Growth c d h
growth c d h l = grind (arith, nat_tests, Effect, idle, fates_idle, offering, fates_offered, emptying, emptied_offers, gained_below, waiting_count)

-- so many were taken as were accepted
pub taken_count : (c : ℕ) (h : List Deed) → Accounts c h → fates is_taken c h ≡ total (accepts_now c) h
taken_count c [] l = refl
taken_count c (d ∷ h) l = grind (arith, nat_tests, growth c d h l, taken_count c h l.0)

-- so many were discarded as are counted
pub discarded_count : (c : ℕ) (h : List Deed) → Accounts c h → fates is_discarded c h ≡ total (discards_now c) h
discarded_count c [] l = refl
discarded_count c (d ∷ h) l = grind (arith, nat_tests, growth c d h l, discarded_count c h l.0)

-- so many were void as are counted
pub void_count : (c : ℕ) (h : List Deed) → Accounts c h → fates is_void c h ≡ total (voids_now c) h
void_count c [] l = refl
void_count c (d ∷ h) l = grind (arith, nat_tests, growth c d h l, void_count c h l.0)

-- so many were dropped as are counted in the three ways to drop
pub dropped_count : (c : ℕ) (h : List Deed) → Accounts c h → fates is_dropped c h ≡ total (traces_dropped_now c) h + total (specdrops_now c) h + total (loses_now c) h
dropped_count c [] l = refl
dropped_count c (d ∷ h) l = grind (arith, nat_tests, growth c d h l, dropped_count c h l.0)
