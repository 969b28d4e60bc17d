-- That the fates which a list tells are those of the page, and each follows its decision.
use Rattle.std.proofs.Common.{◌≡◌, ℕ, ◌<◌, Bool, true, false, ◌&&◌, ◌||◌, if◌then◌else◌, List, [], ◌∷◌, ◌++◌, map, length, Option, None, Some, refl, sym, ap, ◌∙◌, subst, true≢false, arith}
use Rattle.std.proofs.lemmas.Bool.Decides.{nat_tests}
use Rattle.std.specs.List.{AllByRecursion}
use Rattle.dspec_promise.specs.Words.{Shape, Speculation, WaitsUndecided, Ruling, undecided, committed, ruled_out, verdict, is_undecided, IsAllowed, HasAuthors, Entry, contents, buffer, accepted}
use Rattle.dspec_promise.specs.Words.{offers_of, did, all_did, RecordFate, taken, dropped, specdropped, lost, discarded, void, held, same_fate, is_same_id, HandedRecord, is_for, waits_for}
use Rattle.dspec_promise.specs.Words.{once_emptied, handed, held_for, cpu_stream, is_commit_of, is_discard_of, TellNumbers, Never, AllDecided, WasDecided, IsFate, AreOffers, Config, DecideFate}
use Rattle.dspec_promise.specs.Words.{Deed}
use Rattle.dspec_deeds.specs.Fates as told
use Rattle.dspec_deeds.proofs.{DeedEffects.legal_before, DeedOffers.waits_for as waits_told, TestLemmas.or_true, Verdicts.Told, Verdicts.verdict_told, Verdicts.commit_stays}
use Rattle.dspec_promise.proofs.{Decisions.committed_by, Decisions.discarded_by, Decisions.never_committed, Decisions.never_discarded, DoingKinds.as_told, DoingKinds.IsDue, DoingKinds.DoesEmpty}
use Rattle.dspec_promise.proofs.{DoingKinds.Does, DoingKinds.nothing, DoingKinds.offers_one, DoingKinds.empties_one, Doings.does, Emptying.waits_tells, Emptying.emptied_one, Emptying.emptied_other}
use Rattle.dspec_promise.proofs.{Emptying.waiting_emptied}

-- a fate waits in both alike, and is taken in both alike
waits_alike : (id : Speculation) (g : RecordFate) (x : Option Speculation) → waits_told id (as_told g x) ≡ (is_for id x && same_fate held g)
waits_alike id taken None = refl
waits_alike id taken (Some j) = grind (arith, nat_tests)
waits_alike id held None = refl
waits_alike id held (Some j) = grind (arith, nat_tests)
waits_alike id dropped x = grind (arith, nat_tests)
waits_alike id specdropped x = grind (arith, nat_tests)
waits_alike id lost x = grind (arith, nat_tests)
waits_alike id discarded x = grind (arith, nat_tests)
waits_alike id void x = grind (arith, nat_tests)

taken_alike : (g : RecordFate) (x : Option Speculation) → told.is_taken (as_told g x) ≡ same_fate taken g
taken_alike taken x = refl
taken_alike dropped x = refl
taken_alike specdropped x = refl
taken_alike lost x = refl
taken_alike discarded x = refl
taken_alike void x = refl
taken_alike held None = refl
taken_alike held (Some j) = refl

-- the buffer of a speculation has what waits for it
pub buffer_waits : (shape : ℕ → Option Shape) (k : Config) (c : ℕ) (id : Speculation) (h : List Deed) → IsAllowed shape k h → contents (buffer c id h) ≡ held_for id (handed (did c h))
buffer_waits shape k c id [] l = refl
buffer_waits shape k c id (d ∷ h) l = step (does shape k c d h l) (buffer_waits shape k c id h (legal_before shape k d h l))
  where
    step : Does c d h → contents (buffer c id h) ≡ held_for id (handed (did c h)) → contents (buffer c id (d ∷ h)) ≡ held_for id (handed (did c (d ∷ h)))
    step (nothing m) e = rw (m.idle.holds id, m.made (did c h)) e
    step (offers_one o m) e = rw (m.offering.holds id, m.made (did c h), waits_alike id o.fate o.to) (more (waits_for id o))
      where
        more : (b : Bool) → contents (if b then record { number = offers_of c h; content = o.content } ∷ buffer c id h else buffer c id h)
            ≡ (if b then o.content ∷ held_for id (handed (did c h)) else held_for id (handed (did c h)))
        more true = ap (λ rs. o.content ∷ rs) e
        more false = e
    step (empties_one j f m) e = rw (m.emptying.holds id, m.made (did c h), waiting_emptied j id f m.gone (handed (did c h))) (rest (is_same_id id j))
      where
        rest : (b : Bool) → contents (if b then [] else buffer c id h) ≡ (if b then [] else held_for id (handed (did c h)))
        rest true = refl
        rest false = e

-- the contents of lists
contents_append : (xs ys : List Entry) → contents (xs ++ ys) ≡ contents xs ++ contents ys
contents_append [] ys = refl
contents_append (x ∷ xs) ys = ap (λ zs. x.content ∷ zs) (contents_append xs ys)

contents_length : (xs : List Entry) → length xs ≡ length (contents xs)
contents_length [] = refl
contents_length (x ∷ xs) = omega (arith, contents_length xs)

-- what was accepted is the stream
pub accepted_stream : (shape : ℕ → Option Shape) (k : Config) (c : ℕ) (h : List Deed) → IsAllowed shape k h → contents (accepted c h) ≡ cpu_stream (did c h)
accepted_stream shape k c [] l = refl
accepted_stream shape k c (d ∷ h) l =
    grind (arith, nat_tests, accepted_stream shape k c h (legal_before shape k d h l), does, legal_before, Does, nothing, offers_one, taken_alike, empties_one, contents_append, buffer_waits)

-- the numbers told are those in the buffers
pub numbers_told : (shape : ℕ → Option Shape) (k : Config) (c : ℕ) (h : List Deed) → IsAllowed shape k h → TellNumbers (did c h)
numbers_told shape k c [] l = tt
numbers_told shape k c (d ∷ h) l =
    grind (arith, nat_tests, numbers_told shape k c h (legal_before shape k d h l), does, legal_before, Does, nothing, offers_one, empties_one, contents_length, buffer_waits)

-- what was decided stays so
discard_stays : (id : Speculation) (d : Deed) (h : List Deed) → told.has_discard id h ≡ true → told.has_discard id (d ∷ h) ≡ true
discard_stays id d h t = ap (λ b. told.discards id d || b) t ∙ or_true (told.discards id d)

due_still : (d : Deed) (h : List Deed) (id : Speculation) (f : RecordFate) → IsDue h id f → IsDue (d ∷ h) id f
due_still d h id taken t = commit_stays id d h t
due_still d h id lost t = commit_stays id d h t
due_still d h id discarded t = discard_stays id d h t
due_still d h id dropped t = tt
due_still d h id specdropped t = tt
due_still d h id void t = tt
due_still d h id held t = tt

-- each record's fate follows a decision
abbrev pub IsDecided : List Deed → HandedRecord → Type 0
IsDecided h o = (id : Speculation) → o.to ≡ Some id → IsDue h id o.fate

all_still : (d : Deed) (h : List Deed) (os : List HandedRecord) → AllByRecursion (IsDecided h) os → AllByRecursion (IsDecided (d ∷ h)) os
all_still d h [] a = tt
all_still d h (o ∷ os) a = (λ id e. due_still d h id o.fate (a.0 id e), all_still d h os a.1)

all_emptied : (c : ℕ) (d : Deed) (h : List Deed) (id : Speculation) (f : DecideFate) → DoesEmpty c d h id f → (os : List HandedRecord) → AllByRecursion (IsDecided h) os
    → AllByRecursion (IsDecided (d ∷ h)) (map (once_emptied id f) os)
all_emptied c d h id f m [] a = tt
all_emptied c d h id f m (o ∷ os) a = grind (arith, nat_tests, all_emptied c d h id f m os a.1, emptied_one, waits_tells, IsDue, emptied_other, due_still)

pub all_decided : (shape : ℕ → Option Shape) (k : Config) (c : ℕ) (h : List Deed) → IsAllowed shape k h → AllByRecursion (IsDecided h) (handed (did c h))
all_decided shape k c [] l = tt
all_decided shape k c (d ∷ h) l = step (does shape k c d h l) (all_decided shape k c h (legal_before shape k d h l))
  where
    step : Does c d h → AllByRecursion (IsDecided h) (handed (did c h)) → AllByRecursion (IsDecided (d ∷ h)) (handed (did c (d ∷ h)))
    step (nothing m) a = rw (m.made (did c h)) (all_still d h (handed (did c h)) a)
    step (offers_one o m) a = rw (m.made (did c h)) (m.follows, all_still d h (handed (did c h)) a)
    step (empties_one id f m) a = rw (m.made (did c h)) (all_emptied c d h id f m (handed (did c h)) a)

-- so each fate follows what a CPU of the session did
follows : (k : Config) (h : List Deed) (id : Speculation) (f : RecordFate) → HasAuthors k h → IsDue h id f → WasDecided k.cpus (all_did h) id f
follows k h id taken a t = committed_by k id h a t
follows k h id lost a t = committed_by k id h a t
follows k h id discarded a t = discarded_by k id h a t
follows k h id dropped a t = tt
follows k h id specdropped a t = tt
follows k h id void a t = tt
follows k h id held a t = tt

pub all_follow : (k : Config) (h : List Deed) → HasAuthors k h → (os : List HandedRecord) → AllByRecursion (IsDecided h) os
    → AllDecided k.cpus (all_did h) os
all_follow k h a [] t = tt
all_follow k h a (o ∷ os) t = (λ id e. follows k h id o.fate a (t.0 id e), all_follow k h a os t.1)

-- what waits is undecided, once the session is closed
neither : (v : Ruling) (id : Speculation) (h : List Deed) → is_undecided v ≡ true → Told v id h → (told.has_commit id h ≡ false) × (told.has_discard id h ≡ false)
neither undecided id h u t = t
neither (committed c) id h u t = absurd (true≢false (sym u))
neither (ruled_out c) id h u t = absurd (true≢false (sym u))

pub all_wait : (k : Config) (c : ℕ) (h : List Deed) → WaitsUndecided k h → c < k.cpus → (n : ℕ) (os : List HandedRecord) → AreOffers c h n os
    → AllByRecursion (λ o. (id : Speculation) → o.to ≡ Some id → o.fate ≡ held → Never k.cpus (all_did h) (is_commit_of id) × Never k.cpus (all_did h) (is_discard_of id)) os
all_wait k c h w lt n [] a = tt
all_wait k c h w lt n (o ∷ os) a = (
  λ id e f.
      let is : a.2.fate ≡ told.waiting id = subst (λ x. IsFate held x a.2.fate) e (subst (λ g. IsFate g o.to a.2.fate) f a.2.same) in
      let none = neither (verdict id h) id h (w c a.0 id lt (a.2.has ∙ ap Some is)) (verdict_told id h) in
      (λ b less. never_committed b id h none.0, λ b less. never_discarded b id h none.1),
  all_wait k c h w lt a.0 os a.3,
)
