-- A record is accepted once at most; one offered to a speculation only after its commit, and never where it was discarded.
use Rattle.std.proofs.Common.{◌≡◌, ℕ, ◌≤◌, Bool, true, false, ◌&&◌, ◌==◌, List, [], ◌∷◌, Option, None, Some, refl, sym, ap, ◌∙◌, subst, ⊎_elim, arith, true≢false}
use Rattle.std.proofs.lemmas.Bool.Decides.{nat_tests}
use Rattle.std.specs.Option.{option_map}
use Rattle.dspec_deeds.specs.Fates.{discarded}
use Rattle.dspec_deeds.specs.Words.{Shape, Speculation, is_discard, same_id, verdict, offered_by, offers, accepted, SettlesAs, Follows, IsAllowed, Fate, taken, dropped, void, waiting, fate}
use Rattle.dspec_deeds.specs.Words.{emptied_as, is_taken, offered_to, destination, times, has_commit, AcceptanceLaw}
use Rattle.dspec_deeds.specs.declared.{config.Config.Config, deed.DecideFate.DecideFate, deed.Deed.Deed, deed.Deed.TheVariants.Commit, deed.Deed.TheVariants.Discard, deed.Deed.TheVariants.Settle}
use Rattle.dspec_deeds.specs.declared.deed.DecideFate.TheVariants as decided
use Rattle.dspec_deeds.proofs.{DeedEffects.legal_before, DeedEffects.legal_accounts, DeedEffects.legal_effect, DeedOffers.Sent, DeedOffers.Empties, DeedOffers.Effect, DeedOffers.idle}
use Rattle.dspec_deeds.proofs.{DeedOffers.offering, DeedOffers.emptying, HeldOffers.fate_idle, HeldOffers.fate_offered, HeldOffers.fate_earlier, HeldOffers.fate_emptied, HeldOffers.settled_as}
use Rattle.dspec_deeds.proofs.{HeldOffers.tally, HeldOffers.times_taken, TestLemmas.either_way, TestLemmas.off, TestLemmas.and_tells, TestLemmas.id_is_itself, TestLemmas.same_number}
use Rattle.dspec_deeds.proofs.{TestLemmas.same_id_tells, Verdicts.commit_stays, Verdicts.one_decision, Verdicts.settled_commit, Verdicts.verdict_told}

-- a waiting record was offered to what it waits for, and one that was taken to nothing or to what was committed
abbrev Placed : Option Fate → Option Speculation → List Deed → Type 0
Placed (Some taken) x h = (id : Speculation) → x ≡ Some id → has_commit id h ≡ true
Placed (Some (waiting id)) x h = x ≡ Some id
Placed f x h = Unit {0}

-- a further deed leaves a record so placed
placed_still : (f : Option Fate) (x : Option Speculation) (d : Deed) (h : List Deed) → Placed f x h → Placed f x (d ∷ h)
placed_still None x d h p = tt
placed_still (Some taken) x d h p = λ id e. commit_stays id d h (p id e)
placed_still (Some dropped) x d h p = tt
placed_still (Some discarded) x d h p = tt
placed_still (Some void) x d h p = tt
placed_still (Some (waiting id)) x d h p = p

-- a record is so placed at its offer
placed_offered : (f : Fate) (x : Option Speculation) (h : List Deed) → Sent f x → Placed (Some f) x h
placed_offered taken x h s = λ id e. absurd (cc)
placed_offered dropped x h s = tt
placed_offered discarded x h s = tt
placed_offered void x h s = tt
placed_offered (waiting id) x h s = s

-- a buffer whose records are taken was committed
taken_ruled : (k : Config) (c : ℕ) (d : Deed) (h : List Deed) (id : Speculation) (f : Fate) → Follows k h d → Empties c d h id f → is_taken f ≡ true → has_commit id (d ∷ h) ≡ true
taken_ruled k c (Commit a j g) h id f s m t = grind (arith, nat_tests)
taken_ruled k c (Discard a j g) h id f s m t =
    let both = and_tells (is_discard g) ((c == a) && same_id id j) (m.empty id ∙ id_is_itself id) in
    off (is_taken (emptied_as g id)) (ap is_taken (m.fates id) ∙ t) (discards g both.0)
  where
    discards : (g : DecideFate) → is_discard g ≡ true → is_taken (emptied_as g id) ≡ false
    discards (decided.Thrown n) e = refl
    discards g e = absurd (true≢false (sym e))
taken_ruled k c (Settle a j g) h id f s m t =
    let both = and_tells (c == a) (same_id id j) (m.empty id ∙ id_is_itself id) in
    let settles : SettlesAs (verdict id h) g = subst (λ x. SettlesAs (verdict x h) g) (sym (same_id_tells id j both.1)) s.1.1.1 in
    settled_commit (verdict id h) id h g settles (copies g (ap is_taken (m.fates id) ∙ t)) (verdict_told id h)
  where
    copies : (g : DecideFate) → is_taken (emptied_as g id) ≡ true → is_discard g ≡ false
    copies (decided.Thrown n) e = absurd (true≢false (sym e))
    copies g e = refl
taken_ruled k c d h id f s m t = off (same_id id id) (id_is_itself id) (sym (m.empty id))

-- a record stays so placed when a buffer is emptied
placed_emptied : (c : ℕ) (d : Deed) (h : List Deed) (id : Speculation) (f : Fate) → Empties c d h id f → (is_taken f ≡ true → has_commit id (d ∷ h) ≡ true)
    → (g : Option Fate) (x : Option Speculation) → Placed g x h → Placed (option_map (settled_as id f) g) x (d ∷ h)
placed_emptied c d h id f m ruled None x p = tt
placed_emptied c d h id f m ruled (Some taken) x p = placed_still (Some taken) x d h p
placed_emptied c d h id f m ruled (Some dropped) x p = tt
placed_emptied c d h id f m ruled (Some discarded) x p = tt
placed_emptied c d h id f m ruled (Some void) x p = tt
placed_emptied c d h id f m ruled (Some (waiting j)) x p = grind (arith, nat_tests)

-- without an offer no destination changes
destination_unoffered : (c j : ℕ) (d : Deed) (h : List Deed) → offered_by c d ≡ None → destination c j (d ∷ h) ≡ destination c j h
destination_unoffered c j d h e = rw e refl

-- each record of a legal list is so placed
placed : (shape : ℕ → Option Shape) (k : Config) (c j : ℕ) (h : List Deed) → IsAllowed shape k h → Placed (fate c j h) (destination c j h) h
placed shape k c j [] l = tt
placed shape k c j (d ∷ h) l = step (legal_effect shape k c d h l) (placed shape k c j h (legal_before shape k d h l))
  where
    step : Effect c d h → Placed (fate c j h) (destination c j h) h → Placed (fate c j (d ∷ h)) (destination c j (d ∷ h)) (d ∷ h)
    step (idle i) p = rw (fate_idle c j d h i, destination_unoffered c j d h i.offered) (placed_still (fate c j h) (destination c j h) d h p)
    step (offering r f o) p = ⊎_elim
        (λ (t : (j == offers c h) ≡ true).
        let at = same_number j (offers c h) t in
        let now : fate c j (d ∷ h) ≡ Some f = subst (λ n. fate c n (d ∷ h) ≡ Some f) (sym at) (fate_offered c d h r f o) in
        rw (now, o.offered, t) (placed_offered f (offered_to d) (d ∷ h) o.sent))
        (λ (n : (j == offers c h) ≡ false). rw (fate_earlier c j d h r f o n, o.offered, n) (placed_still (fate c j h) (destination c j h) d h p))
        (either_way (j == offers c h))
    step (emptying i f m) p =
        rw (fate_emptied c j d h i f m, destination_unoffered c j d h m.offered) (placed_emptied c d h i f m (taken_ruled k c d h i f l.0.1 m) (fate c j h) (destination c j h) p)

-- a taken record that was offered to a speculation was committed
taken_committed : (f : Option Fate) (x : Option Speculation) (h : List Deed) (id : Speculation) → Placed f x h → x ≡ Some id → 1 ≤ tally is_taken f → has_commit id h ≡ true
taken_committed None x h id p e le = absurd (omega arith)
taken_committed (Some taken) x h id p e le = p id e
taken_committed (Some dropped) x h id p e le = absurd (omega arith)
taken_committed (Some discarded) x h id p e le = absurd (omega arith)
taken_committed (Some void) x h id p e le = absurd (omega arith)
taken_committed (Some (waiting j)) x h id p e le = absurd (omega arith)

-- what was accepted and offered to a speculation was committed
accepted_committed : (shape : ℕ → Option Shape) (k : Config) (c : ℕ) (h : List Deed) → IsAllowed shape k h → (j : ℕ) (id : Speculation) → destination c j h ≡ Some id
    → 1 ≤ times j (accepted c h) → has_commit id h ≡ true
accepted_committed shape k c h l j id e le =
    taken_committed (fate c j h) (destination c j h) h id (placed shape k c j h l) e (let same = times_taken c j h (legal_accounts shape k c h l) in omega arith)

-- a record is counted once at most
tally_once : (test : Fate → Bool) (f : Option Fate) → tally test f ≤ 1
tally_once test f = grind arith

-- the acceptance law, of every legal list
pub acceptance_law : (shape : ℕ → Option Shape) (k : Config) (c : ℕ) (h : List Deed) → IsAllowed shape k h → AcceptanceLaw c h
acceptance_law shape k c h l = grind (arith, nat_tests, times_taken, legal_accounts, tally_once, accepted_committed, off, one_decision)
