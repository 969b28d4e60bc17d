-- The records in all of a CPU's speculative buffers, and those in one of them.
use Rattle.std.proofs.Common.{◌≡◌, ℕ, ◌+◌, false, not, if◌then◌else◌, List, [], ◌∷◌, ◌++◌, length, refl, sym, ap, arith}
use Rattle.std.proofs.lemmas.Bool.Decides.{nat_tests}
use Rattle.std.specs.List.{filter}
use Rattle.dspec_deeds.specs.{Fates.discarded, Words.Record, Words.Speculation, Words.same_id, Words.Offer, Words.empties, Words.held, Words.Spoken, Words.speculative, Words.Fate, Words.taken}
use Rattle.dspec_deeds.specs.{Words.dropped, Words.void, Words.waiting, Words.fates, Words.is_waiting, declared.deed.Deed.Deed}
use Rattle.dspec_deeds.proofs.{DeedEffects.Accounts, DeedOffers.waits_for, DeedOffers.spoken_as, DeedOffers.next_offer, DeedOffers.Idle, DeedOffers.Offers, DeedOffers.Empties, DeedOffers.Effect}
use Rattle.dspec_deeds.proofs.{DeedOffers.idle, DeedOffers.offering, DeedOffers.emptying, FateCounts.fates_idle, FateCounts.fates_offered, FateCounts.left_waiting}

-- those kept into one speculation
abbrev pub spoken_to : Speculation → List Spoken → List Offer
spoken_to id [] = []
spoken_to id (p ∷ ps) = if same_id id p.0 then p.1 ∷ spoken_to id ps else spoken_to id ps

-- those that a deed leaves
abbrev left_by : ℕ → Deed → List Spoken → List Spoken
left_by c d ps = filter (λ p. not (empties c p.0 d)) ps

-- a deed that empties nothing leaves all
left_whole : (c : ℕ) (d : Deed) → ((id : Speculation) → empties c id d ≡ false) → (ps : List Spoken) → left_by c d ps ≡ ps
left_whole c d e [] = refl
left_whole c d e (p ∷ ps) = rw (e p.0) (ap (λ qs. p ∷ qs) (left_whole c d e ps))

-- nothing done leaves the speculative records
pub spoken_idle : (c : ℕ) (d : Deed) (h : List Deed) → Idle c d h → speculative c (d ∷ h) ≡ speculative c h
spoken_idle c d h i = rw (i.added, left_whole c d i.empty (speculative c h)) refl

-- an offer adds its record, if kept
pub spoken_offered : (c : ℕ) (d : Deed) (h : List Deed) (r : Record) (f : Fate) → Offers c d h r f → speculative c (d ∷ h) ≡ spoken_as f (next_offer c r h) ++ speculative c h
spoken_offered c d h r f o = rw (o.added, left_whole c d o.empty (speculative c h)) refl

-- emptying a buffer leaves the others
spoken_emptied : (c : ℕ) (d : Deed) (h : List Deed) (id : Speculation) (f : Fate) → Empties c d h id f → speculative c (d ∷ h) ≡ left_by c d (speculative c h)
spoken_emptied c d h id f m = rw m.added refl

-- nothing of an emptied buffer is left, and all of the others
spoken_left : (c : ℕ) (d : Deed) (i id : Speculation) → ((j : Speculation) → empties c j d ≡ same_id j i) → (ps : List Spoken)
    → spoken_to id (left_by c d ps) ≡ (if same_id id i then [] else spoken_to id ps)
spoken_left c d i id e [] = grind (arith, nat_tests)
spoken_left c d i id e (p ∷ ps) = grind (arith, nat_tests, spoken_left c d i id e ps)

-- what is left and what is emptied are all
length_left : (c : ℕ) (d : Deed) (i : Speculation) → ((j : Speculation) → empties c j d ≡ same_id j i) → (ps : List Spoken) → length (left_by c d ps) + length (spoken_to i ps) ≡ length ps
length_left c d i e [] = refl
length_left c d i e (p ∷ ps) = grind (arith, nat_tests, length_left c d i e ps)

-- a CPU's buffer of a speculation has the records kept into it
pub held_spoken : (c : ℕ) (id : Speculation) (h : List Deed) → Accounts c h → spoken_to id (speculative c h) ≡ held c id h
held_spoken c id [] l = refl
held_spoken c id (d ∷ h) l = step (l.1) (held_spoken c id h l.0)
  where
    step : Effect c d h → spoken_to id (speculative c h) ≡ held c id h → spoken_to id (speculative c (d ∷ h)) ≡ held c id (d ∷ h)
    step (idle i) e = rw (spoken_idle c d h i, i.holds id) e
    step (offering r f o) e = rw (spoken_offered c d h r f o, o.holds id) (more f)
      where
        more : (g : Fate) → spoken_to id (spoken_as g (next_offer c r h) ++ speculative c h) ≡ (if waits_for id g then next_offer c r h ∷ held c id h else held c id h)
        more taken = e
        more dropped = e
        more discarded = e
        more void = e
        more (waiting j) = rw e refl
    step (emptying i f m) e = rw (spoken_emptied c d h i f m, m.holds id, spoken_left c d i id m.empty (speculative c h), e) refl

-- the speculative records are fewer by those of the emptied buffer
pub spoken_fewer : (c : ℕ) (d : Deed) (h : List Deed) (id : Speculation) (f : Fate) → Accounts c h → Empties c d h id f
    → length (speculative c (d ∷ h)) + length (held c id h) ≡ length (speculative c h)
spoken_fewer c d h id f l m =
    rw (spoken_emptied c d h id f m, sym (held_spoken c id h l)) (length_left c d id m.empty (speculative c h))

-- the waiting records are those in the speculative buffers
pub held_count : (c : ℕ) (h : List Deed) → Accounts c h → fates is_waiting c h ≡ length (speculative c h)
held_count c [] l = refl
held_count c (d ∷ h) l = step (l.1) (held_count c h l.0)
  where
    step : Effect c d h → fates is_waiting c h ≡ length (speculative c h) → fates is_waiting c (d ∷ h) ≡ length (speculative c (d ∷ h))
    step (idle i) e = rw (fates_idle is_waiting c d h i, spoken_idle c d h i) e
    step (offering r f o) e = rw (fates_offered is_waiting c d h r f o, spoken_offered c d h r f o) (more f)
      where
        more : (g : Fate) → fates is_waiting c h + (if is_waiting g then 1 else 0) ≡ length (spoken_as g (next_offer c r h) ++ speculative c h)
        more taken = omega (arith, e)
        more dropped = omega (arith, e)
        more discarded = omega (arith, e)
        more void = omega (arith, e)
        more (waiting j) = omega (arith, e)
    step (emptying i f m) e =
        let a = left_waiting c d h i f l.0 m in
        let b = spoken_fewer c d h i f l.0 m in
        omega arith
