-- The page's offers are the CPU's records, with their fates.
use Prim.Native.Nat.{suc}
use Rattle.std.proofs.Common.{◌≡◌, ℕ, ◌<◌, Bool, true, false, ◌&&◌, ◌==◌, List, [], ◌∷◌, map, length, Option, None, Some, refl, sym, ap, ◌∙◌, subst, ⊎_elim, arith}
use Rattle.std.proofs.lemmas.Bool.Decides.{nat_tests}
use Rattle.dspec_promise.specs.Words.{Shape, Speculation, offers_of, IsAllowed, did, RecordFate, taken, dropped, specdropped, lost, discarded, void, held, emptied_fate, same_fate, HandedRecord}
use Rattle.dspec_promise.specs.Words.{is_for, waits_for, once_emptied, handed, number, IsFate, IsOffer, AreOffers, Config, DecideFate, Deed}
use Rattle.dspec_deeds.specs.Fates as told
use Rattle.dspec_deeds.proofs.{DeedEffects.legal_before, HeldOffers.fate_idle, HeldOffers.fate_offered, HeldOffers.fate_earlier, HeldOffers.fate_emptied, HeldOffers.settled_as}
use Rattle.dspec_deeds.proofs.{HeldOffers.same_id_back, TestLemmas.either_way, TestLemmas.and_false, TestLemmas.number_is_itself, TestLemmas.id_is_itself}
use Rattle.dspec_promise.proofs.{DoingKinds.as_told, DoingKinds.DoesEmpty, DoingKinds.Does, DoingKinds.nothing, DoingKinds.offers_one, DoingKinds.empties_one, Doings.does, Emptying.waits_tells}
use Rattle.dspec_promise.proofs.{Emptying.emptied_one, Emptying.emptied_other}

-- a deed that offers none of these, and changes none of their fates
kept_offers : (c : ℕ) (d : Deed) (h : List Deed) (n : ℕ) (os : List HandedRecord) → ((j : ℕ) → j < n → told.is_offer c j d h ≡ false)
    → ((j : ℕ) → j < n → told.fate c j (d ∷ h) ≡ told.fate c j h) → AreOffers c h n os → AreOffers c (d ∷ h) n os
kept_offers c d h n [] none same a = a
kept_offers c d h n (o ∷ os) none same a =
    let j = a.0 in
    let lt : j < n = let is = a.1 in omega arith in
    let was = a.2 in (
      j,
      a.1,
      record {
        fate = was.fate;
        has = same j lt ∙ was.has;
        same = was.same;
        content = rw (none j lt) was.content;
        to = rw (none j lt) was.to;
      },
      kept_offers c d h j os (λ i less. none i (omega arith)) (λ i less. same i (omega arith)) a.3,
    )

-- what doesn't wait for the emptied buffer keeps its fate
unwaited : (id : Speculation) (f : told.Fate) (g : RecordFate) (x : Option Speculation) (t : told.Fate) → IsFate g x t → (is_for id x && same_fate held g) ≡ false → settled_as id f t ≡ t
unwaited id f taken x t is n = rw is refl
unwaited id f dropped x t is n = rw is refl
unwaited id f specdropped x t is n = rw is refl
unwaited id f lost x t is n = rw is refl
unwaited id f discarded x t is n = rw is refl
unwaited id f void x t is n = rw is refl
unwaited id f held (Some j) t is n = grind (arith, nat_tests, same_id_back)
unwaited id f held None t is n = absurd is

-- an offer once a buffer is emptied
emptied_offer : (c : ℕ) (d : Deed) (h : List Deed) (id : Speculation) (f : DecideFate) → DoesEmpty c d h id f → (j : ℕ) (o : HandedRecord) → IsOffer c h j o → IsOffer c (d ∷ h) j (once_emptied id f o)
emptied_offer c d h id f m j o was = ⊎_elim
    (λ (t : waits_for id o ≡ true). subst (IsOffer c (d ∷ h) j) (sym (emptied_one id f o t)) (record {
      fate = as_told (emptied_fate f) None;
      has = now ∙ ap Some (moved t);
      same = m.fate o.to;
      content = rw none was.content;
      to = rw none was.to;
    }))
    (λ (n : waits_for id o ≡ false). subst (IsOffer c (d ∷ h) j) (sym (emptied_other id f o n)) (record {
      fate = was.fate;
      has = now ∙ ap Some (unwaited id (as_told (emptied_fate f) None) o.fate o.to was.fate was.same n);
      same = was.same;
      content = rw none was.content;
      to = rw none was.to;
    }))
    (either_way (waits_for id o))
  where
    none : told.is_offer c j d h ≡ false
    none = rw m.emptying.offered refl

    now : told.fate c j (d ∷ h) ≡ Some (settled_as id (as_told (emptied_fate f) None) was.fate)
    now = fate_emptied c j d h id (as_told (emptied_fate f) None) m.emptying ∙ rw was.has refl

    moved : waits_for id o ≡ true → settled_as id (as_told (emptied_fate f) None) was.fate ≡ as_told (emptied_fate f) None
    moved t =
        let both = waits_tells id o t in
        let is : was.fate ≡ told.waiting id = subst (λ x. IsFate held x was.fate) both.0 (subst (λ g. IsFate g o.to was.fate) both.1 was.same) in
        rw (is, id_is_itself id) refl

emptied_offers : (c : ℕ) (d : Deed) (h : List Deed) (id : Speculation) (f : DecideFate) → DoesEmpty c d h id f → (n : ℕ) (os : List HandedRecord) → AreOffers c h n os
    → AreOffers c (d ∷ h) n (map (once_emptied id f) os)
emptied_offers c d h id f m n [] a = a
emptied_offers c d h id f m n (o ∷ os) a = (a.0, a.1, emptied_offer c d h id f m a.0 o a.2, emptied_offers c d h id f m a.0 os a.3)

-- the page's offers are all of the CPU's records
pub are_offers : (shape : ℕ → Option Shape) (k : Config) (c : ℕ) (h : List Deed) → IsAllowed shape k h → AreOffers c h (offers_of c h) (handed (did c h))
are_offers shape k c [] l = refl
are_offers shape k c (d ∷ h) l = step (does shape k c d h l) (are_offers shape k c h (legal_before shape k d h l))
  where
    step : Does c d h → AreOffers c h (offers_of c h) (handed (did c h)) → AreOffers c (d ∷ h) (offers_of c (d ∷ h)) (handed (did c (d ∷ h)))
    step (nothing m) a =
        let same : offers_of c (d ∷ h) ≡ offers_of c h = rw m.idle.offered (omega arith) in
        rw (same, m.made (did c h)) (kept_offers c d h (offers_of c h) (handed (did c h)) (λ j lt. rw m.idle.offered refl) (λ j lt. fate_idle c j d h m.idle) a)
    step (offers_one o m) a =
        let n = offers_of c h in
        let more : offers_of c (d ∷ h) ≡ suc n = rw m.offering.offered (omega arith) in
        rw (m.made (did c h)) (
          n,
          more,
          record {
            fate = as_told o.fate o.to;
            has = fate_offered c d h o.content (as_told o.fate o.to) m.offering;
            same = m.fate;
            content = rw (m.offering.offered, number_is_itself n) refl;
            to = rw (m.offering.offered, number_is_itself n) m.to;
          },
          kept_offers c d h n (handed (did c h)) (λ j lt. let other : (j == n) ≡ false = grind (arith, nat_tests) in rw other (and_false _))
              (λ j lt. let other : (j == n) ≡ false = grind (arith, nat_tests) in fate_earlier c j d h o.content (as_told o.fate o.to) m.offering other) a,
        )
    step (empties_one id f m) a =
        let same : offers_of c (d ∷ h) ≡ offers_of c h = rw m.emptying.offered (omega arith) in
        rw (same, m.made (did c h)) (emptied_offers c d h id f m (offers_of c h) (handed (did c h)) a)

-- they are as many
pub as_many : (c : ℕ) (h : List Deed) (n : ℕ) (os : List HandedRecord) → AreOffers c h n os → n ≡ length os
as_many c h n [] a = a
as_many c h n (o ∷ os) a = let rest = as_many c h a.0 os a.3 in let is = a.1 in omega arith

-- as many have a fate as the list of deeds has
pub same_number_fated : (test : told.Fate → Bool) (p : HandedRecord → Bool) → ((o : HandedRecord) (f : told.Fate) → IsFate o.fate o.to f → test f ≡ p o)
    → (c : ℕ) (h : List Deed) (n : ℕ) (os : List HandedRecord) → AreOffers c h n os → told.fates_below test c h n ≡ number p os
same_number_fated test p same c h n [] a = rw a refl
same_number_fated test p same c h n (o ∷ os) a =
    rw (a.1, a.2.has, same o a.2.fate a.2.same, same_number_fated test p same c h a.0 os a.3) refl
