-- What each deed of a legal list does for a CPU, as the page tells it: nothing, it offers a record, or it empties a buffer.
use Rattle.std.proofs.Common.{arith, ◌≡◌, ℕ, true, false, ◌==◌, List, [], ◌∷◌, length, Option, None, Some, refl, sym, ◌∙◌, subst, inl, inr, ⊎_elim, true≢false}
use Rattle.std.proofs.lemmas.Bool.Decides.{nat_tests}
use Rattle.dspec_promise.specs.Words.{Shape, Record, Speculation, is_commit, is_discard, Ruling, undecided, committed, ruled_out, verdict, buffer, SettlesAs, IsAllowed, traces_dropped_now}
use Rattle.dspec_promise.specs.Words.{specdrops_now, done_by, By, commit, discard, service, emptied, traced_fate, speculated_fate, Config, TraceFate, SpeculateFate, DecideFate, Deed, Trace}
use Rattle.dspec_promise.specs.Words.{Speculate, Commit, Discard, Settle}
use Rattle.dspec_deeds.specs.declared.deed.DecideFate.TheVariants as decide
use Rattle.dspec_deeds.specs.Fates as told
use Rattle.dspec_deeds.proofs.{DeedEffects.copied_commit, DeedEffects.lost_commit, DeedEffects.thrown_discard, DeedEffects.copied_settle, DeedEffects.lost_settle, DeedEffects.thrown_settle}
use Rattle.dspec_deeds.proofs.{DeedEffects.legal_effect, DeedOffers.Empties, DeedOffers.own_trace, DeedOffers.own_speculate, TestLemmas.either_way, TestLemmas.and_false, TestLemmas.same_number}
use Rattle.dspec_deeds.proofs.{TestLemmas.number_is_itself, TestLemmas.id_is_itself, Verdicts.Told, Verdicts.verdict_told}
use Rattle.dspec_promise.proofs.DoingKinds.{Does, DoesEmpty, DoesOffer, does_not, does_not_decide, empties_one, nothing, offers_one}

-- the CPU's own offers
traced_own : (c : ℕ) (r : Record) (f : TraceFate) (h : List Deed) → DoesOffer c (Trace c r f) h record { content = r; to = None; fate = traced_fate f }
traced_own c r f h = grind (arith, nat_tests, number_is_itself, own_trace)

spoken_own : (c : ℕ) (id : Speculation) (r : Record) (f : SpeculateFate) (h : List Deed) → DoesOffer c (Speculate c id r f) h record { content = r; to = Some id; fate = speculated_fate f }
spoken_own c id r f h = grind (arith, nat_tests, number_is_itself, own_speculate)

-- the emptying of one of the CPU's buffers
copied : (c : ℕ) (d : Deed) (h : List Deed) (b : By) (id : Speculation) (n : ℕ) → n ≡ length (buffer c id h) → Empties c d h id told.taken → done_by c d ≡ emptied b id (decide.Copied n) ∷ []
    → traces_dropped_now c d ≡ 0 → specdrops_now c d ≡ 0 → told.has_commit id (d ∷ h) ≡ true → DoesEmpty c d h id (decide.Copied n)
copied c d h b id n long m is drops specdrops ruled = grind (arith, nat_tests)

lost_whole : (c : ℕ) (d : Deed) (h : List Deed) (b : By) (id : Speculation) (n : ℕ) → n ≡ length (buffer c id h) → Empties c d h id told.dropped → done_by c d ≡ emptied b id (decide.Lost n) ∷ []
    → traces_dropped_now c d ≡ 0 → specdrops_now c d ≡ 0 → told.has_commit id (d ∷ h) ≡ true → DoesEmpty c d h id (decide.Lost n)
lost_whole c d h b id n long m is drops specdrops ruled = grind (arith, nat_tests)

thrown : (c : ℕ) (d : Deed) (h : List Deed) (b : By) (id : Speculation) (n : ℕ) → n ≡ length (buffer c id h) → Empties c d h id told.discarded → done_by c d ≡ emptied b id (decide.Thrown n) ∷ []
    → traces_dropped_now c d ≡ 0 → specdrops_now c d ≡ 0 → told.has_discard id (d ∷ h) ≡ true → DoesEmpty c d h id (decide.Thrown n)
thrown c d h b id n long m is drops specdrops ruled = grind (arith, nat_tests)

-- a settlement follows a decision
settled_commit : (v : Ruling) (id : Speculation) (h : List Deed) (f : DecideFate) → SettlesAs v f → is_discard f ≡ false → Told v id h → told.has_commit id h ≡ true
settled_commit undecided id h f s e t = absurd s
settled_commit (committed c) id h f s e t = t
settled_commit (ruled_out c) id h f s e t = absurd (true≢false (sym s ∙ e))

settled_discard : (v : Ruling) (id : Speculation) (h : List Deed) (f : DecideFate) → SettlesAs v f → is_commit f ≡ false → Told v id h → told.has_discard id h ≡ true
settled_discard undecided id h f s e t = absurd s
settled_discard (committed c) id h f s e t = absurd (true≢false (sym s ∙ e))
settled_discard (ruled_out c) id h f s e t = t

pub never_settles : (v : Ruling) (f : DecideFate) → SettlesAs v f → is_commit f ≡ false → is_discard f ≡ false → ⊥
never_settles undecided f s a b = s
never_settles (committed c) f s a b = true≢false (sym s ∙ a)
never_settles (ruled_out c) f s a b = true≢false (sym s ∙ b)

-- the CPU's own decisions and settlements
own_commit : (shape : ℕ → Option Shape) (k : Config) (c : ℕ) (id : Speculation) (f : DecideFate) (h : List Deed) → IsAllowed shape k (Commit c id f ∷ h) → Does c (Commit c id f) h
own_commit shape k c id (decide.Copied n) h l = empties_one id (decide.Copied n)
    (copied c (Commit c id (decide.Copied n)) h commit id n l.1.1.0 (copied_commit c id n h l.1.1.0) (rw (number_is_itself c) refl) refl refl (rw (id_is_itself id) refl))
own_commit shape k c id (decide.Lost n) h l = empties_one id (decide.Lost n)
    (lost_whole c (Commit c id (decide.Lost n)) h commit id n l.1.1.0 (lost_commit c id n h l.1.1.0) (rw (number_is_itself c) refl) refl refl (rw (id_is_itself id) refl))
own_commit shape k c id (decide.Thrown n) h l = absurd (true≢false l.0.1.1.1)
own_commit shape k c id decide.Void h l = nothing
    (does_not_decide c (Commit c id decide.Void) h commit id decide.Void (legal_effect shape k c (Commit c id decide.Void) h l) refl (λ j. refl) (rw (number_is_itself c) refl) (inl refl) refl refl)
own_commit shape k c id decide.Stopped h l = nothing
    (does_not_decide c (Commit c id decide.Stopped) h commit id decide.Stopped (legal_effect shape k c (Commit c id decide.Stopped) h l) refl (λ j.
    refl) (rw (number_is_itself c) refl) (inr refl) refl refl)

own_discard : (shape : ℕ → Option Shape) (k : Config) (c : ℕ) (id : Speculation) (f : DecideFate) (h : List Deed) → IsAllowed shape k (Discard c id f ∷ h) → Does c (Discard c id f) h
own_discard shape k c id (decide.Copied n) h l = absurd (true≢false l.0.1.1.1)
own_discard shape k c id (decide.Lost n) h l = absurd (true≢false l.0.1.1.1)
own_discard shape k c id (decide.Thrown n) h l = empties_one id (decide.Thrown n)
    (thrown c (Discard c id (decide.Thrown n)) h discard id n l.1.1 (thrown_discard c id n h l.1.1) (rw (number_is_itself c) refl) refl refl (rw (id_is_itself id) refl))
own_discard shape k c id decide.Void h l = nothing
    (does_not_decide c (Discard c id decide.Void) h discard id decide.Void (legal_effect shape k c (Discard c id decide.Void) h l) refl (λ j. refl) (rw (number_is_itself c) refl) (inl refl) refl refl)
own_discard shape k c id decide.Stopped h l = nothing
    (does_not_decide c (Discard c id decide.Stopped) h discard id decide.Stopped (legal_effect shape k c (Discard c id decide.Stopped) h l) refl (λ
    j. refl) (rw (number_is_itself c) refl) (inr refl) refl refl)

own_settle : (shape : ℕ → Option Shape) (k : Config) (c : ℕ) (id : Speculation) (f : DecideFate) (h : List Deed) → IsAllowed shape k (Settle c id f ∷ h) → Does c (Settle c id f) h
own_settle shape k c id (decide.Copied n) h l = empties_one id (decide.Copied n)
    (copied c (Settle c id (decide.Copied n)) h service id n l.1.1.0 (copied_settle c id n h l.1.1.0) (rw (number_is_itself c) refl) refl refl
    (settled_commit (verdict id h) id h (decide.Copied n) l.0.1.1.1.1 refl (verdict_told id h)))
own_settle shape k c id (decide.Lost n) h l = empties_one id (decide.Lost n)
    (lost_whole c (Settle c id (decide.Lost n)) h service id n l.1.1.0 (lost_settle c id n h l.1.1.0) (rw (number_is_itself c) refl) refl refl
    (settled_commit (verdict id h) id h (decide.Lost n) l.0.1.1.1.1 refl (verdict_told id h)))
own_settle shape k c id (decide.Thrown n) h l = empties_one id (decide.Thrown n)
    (thrown c (Settle c id (decide.Thrown n)) h service id n l.1.1 (thrown_settle c id n h l.1.1) (rw (number_is_itself c) refl) refl refl
    (settled_discard (verdict id h) id h (decide.Thrown n) l.0.1.1.1.1 refl (verdict_told id h)))
own_settle shape k c id decide.Void h l = absurd (never_settles (verdict id h) decide.Void l.0.1.1.1.1 refl refl)
own_settle shape k c id decide.Stopped h l = absurd (never_settles (verdict id h) decide.Stopped l.0.1.1.1.1 refl refl)

-- each deed of a legal list
pub does : (shape : ℕ → Option Shape) (k : Config) (c : ℕ) (d : Deed) (h : List Deed) → IsAllowed shape k (d ∷ h) → Does c d h
does shape k c (Trace a r f) h l = ⊎_elim
    (λ (t : (c == a) ≡ true). subst (λ x. Does c (Trace x r f) h) (same_number c a t) (offers_one record { content = r; to = None; fate = traced_fate f } (traced_own c r f h)))
    (λ (n : (c == a) ≡ false). nothing (does_not c (Trace a r f) h (legal_effect shape k c (Trace a r f) h l) (rw n refl) (λ id. refl) (rw n refl) (simp (n, and_false) refl) refl))
    (either_way (c == a))
does shape k c (Speculate a id r f) h l = ⊎_elim
    (λ (t : (c == a) ≡ true). subst (λ x. Does c (Speculate x id r f) h) (same_number c a t) (offers_one record { content = r; to = Some id; fate = speculated_fate f } (spoken_own c id r f h)))
    (λ (n : (c == a) ≡ false). nothing (does_not c (Speculate a id r f) h (legal_effect shape k c (Speculate a id r f) h l) (rw n refl) (λ id. refl) (rw n refl) refl (simp (n, and_false) refl)))
    (either_way (c == a))
does shape k c (Commit a id f) h l = ⊎_elim
    (λ (t : (c == a) ≡ true). subst (λ x. IsAllowed shape k (Commit x id f ∷ h) → Does c (Commit x id f) h) (same_number c a t) (own_commit shape k c id f h) l)
    (λ (n : (c == a) ≡ false). nothing (does_not c (Commit a id f) h (legal_effect shape k c (Commit a id f) h l) refl (λ j. simp (n, and_false) refl) (rw n refl) refl refl))
    (either_way (c == a))
does shape k c (Discard a id f) h l = ⊎_elim
    (λ (t : (c == a) ≡ true). subst (λ x. IsAllowed shape k (Discard x id f ∷ h) → Does c (Discard x id f) h) (same_number c a t) (own_discard shape k c id f h) l)
    (λ (n : (c == a) ≡ false). nothing (does_not c (Discard a id f) h (legal_effect shape k c (Discard a id f) h l) refl (λ j. simp (n, and_false) refl) (rw n refl) refl refl))
    (either_way (c == a))
does shape k c (Settle a id f) h l = ⊎_elim
    (λ (t : (c == a) ≡ true). subst (λ x. IsAllowed shape k (Settle x id f ∷ h) → Does c (Settle x id f) h) (same_number c a t) (own_settle shape k c id f h) l)
    (λ (n : (c == a) ≡ false). nothing (does_not c (Settle a id f) h (legal_effect shape k c (Settle a id f) h l) refl (λ j. rw n refl) (rw n refl) refl refl))
    (either_way (c == a))
does shape k c d h l = nothing (does_not c d h (legal_effect shape k c d h l) refl (λ id. refl) refl refl refl)
