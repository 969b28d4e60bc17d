-- What a deed does for a CPU: nothing, it offers a record, or it empties a speculative buffer.
use Rattle.std.proofs.Common.{◌≡◌, ℕ, true, false, ◌==◌, List, [], ◌∷◌, length, Option, refl, sym, subst, ⊎_elim, true≢false, arith}
use Rattle.std.proofs.lemmas.Bool.Decides.{nat_tests}
use Rattle.dspec_deeds.specs.Fates.{discarded}
use Rattle.dspec_deeds.specs.Words.{Shape, Speculation, Ruling, verdict, held, SettlesAs, Follows, CpuLegal, IsAllowed, is_commit, is_discard, taken, dropped, first_fate}
use Rattle.dspec_deeds.specs.declared.{config.Config.Config, deed.DecideFate.DecideFate, deed.Deed.Deed, deed.Deed.TheVariants.Trace, deed.Deed.TheVariants.Speculate, deed.Deed.TheVariants.Commit}
use Rattle.dspec_deeds.specs.declared.{deed.Deed.TheVariants.Discard, deed.Deed.TheVariants.Settle}
use Rattle.dspec_deeds.specs.declared.deed.DecideFate.TheVariants as decided
use Rattle.dspec_deeds.proofs.DeedOffers.{Effect, Empties, Idle, emptying, idle, offering, other_commit, other_discard, other_settle, other_speculate, other_trace, own_speculate, own_trace}
use Rattle.dspec_deeds.proofs.TestLemmas.{either_way, same_number, number_is_itself}

-- a decision that decides nothing
undecided_commit : (c : ℕ) (id : Speculation) (f : DecideFate) (h : List Deed) → is_commit f ≡ false → Idle c (Commit c id f) h
undecided_commit c id f h e = grind arith

-- a discard that decides nothing
undecided_discard : (c : ℕ) (id : Speculation) (f : DecideFate) (h : List Deed) → is_discard f ≡ false → Idle c (Discard c id f) h
undecided_discard c id f h e = grind arith

-- the number of records told is the number of those that were held
pub copied_commit : (c : ℕ) (id : Speculation) (n : ℕ) (h : List Deed) → n ≡ length (held c id h) → Empties c (Commit c id (decided.Copied n)) h id taken
copied_commit c id n h l = let e = number_is_itself c in grind arith

-- a commit whose block didn't fit
pub lost_commit : (c : ℕ) (id : Speculation) (n : ℕ) (h : List Deed) → n ≡ length (held c id h) → Empties c (Commit c id (decided.Lost n)) h id dropped
lost_commit c id n h l = let e = number_is_itself c in grind arith

-- a discard that decides
pub thrown_discard : (c : ℕ) (id : Speculation) (n : ℕ) (h : List Deed) → n ≡ length (held c id h) → Empties c (Discard c id (decided.Thrown n)) h id discarded
thrown_discard c id n h l = let e = number_is_itself c in grind arith

-- a settlement after a commit, whose block fits
pub copied_settle : (c : ℕ) (id : Speculation) (n : ℕ) (h : List Deed) → n ≡ length (held c id h) → Empties c (Settle c id (decided.Copied n)) h id taken
copied_settle c id n h l = let e = number_is_itself c in grind arith

-- a settlement after a commit, whose block doesn't fit
pub lost_settle : (c : ℕ) (id : Speculation) (n : ℕ) (h : List Deed) → n ≡ length (held c id h) → Empties c (Settle c id (decided.Lost n)) h id dropped
lost_settle c id n h l = let e = number_is_itself c in grind arith

-- a settlement after a discard
pub thrown_settle : (c : ℕ) (id : Speculation) (n : ℕ) (h : List Deed) → n ≡ length (held c id h) → Empties c (Settle c id (decided.Thrown n)) h id discarded
thrown_settle c id n h l = let e = number_is_itself c in grind arith

-- a settlement settles as some CPU decided
settles_somehow : (v : Ruling) (f : DecideFate) → SettlesAs v f → is_commit f ≡ false → is_discard f ≡ true
settles_somehow v f s e = grind arith

-- a legal commit empties or does nothing
own_commit : (shape : ℕ → Option Shape) (k : Config) (c : ℕ) (id : Speculation) (f : DecideFate) (h : List Deed) → CpuLegal shape k h (Commit c id f) → Effect c (Commit c id f) h
own_commit shape k c id (decided.Copied n) h o = emptying id taken (copied_commit c id n h o.0)
own_commit shape k c id (decided.Lost n) h o = emptying id dropped (lost_commit c id n h o.0)
own_commit shape k c id (decided.Thrown n) h o = idle (undecided_commit c id (decided.Thrown n) h refl)
own_commit shape k c id decided.Void h o = idle (undecided_commit c id decided.Void h refl)
own_commit shape k c id decided.Stopped h o = idle (undecided_commit c id decided.Stopped h refl)

-- a legal discard empties or does nothing
own_discard : (shape : ℕ → Option Shape) (k : Config) (c : ℕ) (id : Speculation) (f : DecideFate) (h : List Deed) → CpuLegal shape k h (Discard c id f) → Effect c (Discard c id f) h
own_discard shape k c id (decided.Copied n) h o = idle (undecided_discard c id (decided.Copied n) h refl)
own_discard shape k c id (decided.Lost n) h o = idle (undecided_discard c id (decided.Lost n) h refl)
own_discard shape k c id (decided.Thrown n) h o = emptying id discarded (thrown_discard c id n h o)
own_discard shape k c id decided.Void h o = idle (undecided_discard c id decided.Void h refl)
own_discard shape k c id decided.Stopped h o = idle (undecided_discard c id decided.Stopped h refl)

-- a legal settlement empties
own_settle : (shape : ℕ → Option Shape) (k : Config) (c : ℕ) (id : Speculation) (f : DecideFate) (h : List Deed) → (is_commit f ≡ false → is_discard f ≡ true)
    → CpuLegal shape k h (Settle c id f) → Effect c (Settle c id f) h
own_settle shape k c id (decided.Copied n) h s o = emptying id taken (copied_settle c id n h o.0)
own_settle shape k c id (decided.Lost n) h s o = emptying id dropped (lost_settle c id n h o.0)
own_settle shape k c id (decided.Thrown n) h s o = emptying id discarded (thrown_settle c id n h o)
own_settle shape k c id decided.Void h s o = absurd (true≢false (sym (s refl)))
own_settle shape k c id decided.Stopped h s o = absurd (true≢false (sym (s refl)))

-- a settlement settles: its fate is a commit's or a discard's
abbrev pub IsDecisive : Deed → Type 0
IsDecisive (Settle c id f) = is_commit f ≡ false → is_discard f ≡ true
IsDecisive d = Unit {0}

pub decisive : (k : Config) (d : Deed) (h : List Deed) → Follows k h d → IsDecisive d
decisive k (Settle c id f) h s = settles_somehow (verdict id h) f s.1.1.1
decisive k d h s = tt

-- each deed that is legal in the own part has one of the three effects
pub effect : (shape : ℕ → Option Shape) (k : Config) (c : ℕ) (d : Deed) (h : List Deed) → IsDecisive d → CpuLegal shape k h d → Effect c d h
effect shape k c (Trace a r f) h s o = ⊎_elim
    (λ (t : (c == a) ≡ true). subst (λ x. Effect c (Trace x r f) h) (same_number c a t) (offering r (first_fate (Trace c r f)) (own_trace c r f h)))
    (λ (n : (c == a) ≡ false). idle (other_trace c a r f h n))
    (either_way (c == a))
effect shape k c (Speculate a id r f) h s o = ⊎_elim
    (λ (t : (c == a) ≡ true). subst (λ x. Effect c (Speculate x id r f) h) (same_number c a t) (offering r (first_fate (Speculate c id r f)) (own_speculate c id r f h)))
    (λ (n : (c == a) ≡ false). idle (other_speculate c a id r f h n))
    (either_way (c == a))
effect shape k c (Commit a id f) h s o = ⊎_elim
    (λ (t : (c == a) ≡ true). subst (λ x. CpuLegal shape k h (Commit x id f) → Effect c (Commit x id f) h) (same_number c a t) (own_commit shape k c id f h) o)
    (λ (n : (c == a) ≡ false). idle (other_commit c a id f h n))
    (either_way (c == a))
effect shape k c (Discard a id f) h s o = ⊎_elim
    (λ (t : (c == a) ≡ true). subst (λ x. CpuLegal shape k h (Discard x id f) → Effect c (Discard x id f) h) (same_number c a t) (own_discard shape k c id f h) o)
    (λ (n : (c == a) ≡ false). idle (other_discard c a id f h n))
    (either_way (c == a))
effect shape k c (Settle a id f) h s o = ⊎_elim
    (λ (t : (c == a) ≡ true). subst (λ x. CpuLegal shape k h (Settle x id f) → Effect c (Settle x id f) h) (same_number c a t) (own_settle shape k c id f h s) o)
    (λ (n : (c == a) ≡ false). idle (other_settle c a id f h n))
    (either_way (c == a))
effect shape k c d h s o = grind (arith, nat_tests)

-- each deed of the list has one of the three effects for the CPU
abbrev pub Accounts : ℕ → List Deed → Type 0
Accounts c [] = Unit {0}
Accounts c (d ∷ h) = Accounts c h × Effect c d h

-- what came before in a legal list is legal
pub legal_before : (shape : ℕ → Option Shape) (k : Config) (d : Deed) (h : List Deed) → IsAllowed shape k (d ∷ h) → IsAllowed shape k h
legal_before shape k d h l = (l.0.0, l.1.0)

-- so each deed of a legal list has one of the three effects
pub legal_accounts : (shape : ℕ → Option Shape) (k : Config) (c : ℕ) (h : List Deed) → IsAllowed shape k h → Accounts c h
legal_accounts shape k c [] l = tt
legal_accounts shape k c (d ∷ h) l = (legal_accounts shape k c h (l.0.0, l.1.0), effect shape k c d h (decisive k d h l.0.1) l.1.1)

-- the latest deed of a legal list has one of the three effects
pub legal_effect : (shape : ℕ → Option Shape) (k : Config) (c : ℕ) (d : Deed) (h : List Deed) → IsAllowed shape k (d ∷ h) → Effect c d h
legal_effect shape k c d h l = (legal_accounts shape k c (d ∷ h) l).1
