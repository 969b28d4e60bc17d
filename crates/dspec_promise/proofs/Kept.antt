-- The page's promise, of every legal list.
use Rattle.std.proofs.Common.{◌≡◌, ℕ, ◌+◌, ◌<◌, Bool, true, false, ◌&&◌, ◌||◌, List, [], ◌∷◌, ◌++◌, map, reverse, Option, refl, sym, ap, ◌∙◌, arith}
use Rattle.std.proofs.lemmas.{Bool.Decides.nat_tests, List.append-nil}
use Rattle.dspec_promise.specs.Words.{Shape, Record, Speculation, WaitsUndecided, FateLaw, IsAllowed, IsLegal, stream_of, taken_first, offers_of, report, total, traces_dropped_now, specdrops_now}
use Rattle.dspec_promise.specs.Words.{did, all_did, AtEachMoment, DecidedSoFar, RecordFate, taken, dropped, specdropped, lost, discarded, void, held, emptied_fate, same_fate, HandedRecord}
use Rattle.dspec_promise.specs.Words.{once_emptied, handed, cpu_stream, number, of, KeepsPromise, Promise, IsFate, Config, DecideFate, Deed}
use Rattle.dspec_deeds.specs.Fates as told
use Rattle.dspec_deeds.proofs.{DeedEffects.legal_before, Headlines.headline, Verdicts.one_decision}
use Rattle.dspec_promise.proofs.{Decisions.has_committed, Decisions.never_discarded, DoingKinds.Does, DoingKinds.nothing, DoingKinds.offers_one, DoingKinds.empties_one, Doings.does, Emptying.one}
use Rattle.dspec_promise.proofs.{Emptying.counted_emptied, Fated.are_offers, Fated.as_many, Fated.same_number_fated, KeptFates.accepted_stream, KeptFates.all_decided, KeptFates.all_follow}
use Rattle.dspec_promise.proofs.{KeptFates.all_wait, KeptFates.numbers_told, Once.once}

-- equal tests count alike
number_alike : (p q : HandedRecord → Bool) → ((o : HandedRecord) → p o ≡ q o) → (os : List HandedRecord) → number p os ≡ number q os
number_alike p q same [] = refl
number_alike p q same (o ∷ os) = rw (same o, number_alike p q same os) refl

plain : (b : Bool) → b ≡ (b && true)
plain true = refl
plain false = refl

-- no emptied buffer adds to a fate that only offers give
not_emptied : (g : RecordFate) → same_fate g held ≡ false → (id : Speculation) (f : DecideFate) → same_fate g (emptied_fate f) ≡ false → (os : List HandedRecord)
    → number (of g) (map (once_emptied id f) os) ≡ number (of g) os
not_emptied g never id f other os =
    number_alike (of g) (λ o. of g o && true) (λ o. plain (of g o)) (map (once_emptied id f) os)
    ∙ (counted_emptied g never id f os (λ r. true)
    ∙ (rw other (omega arith)
    ∙ sym (number_alike (of g) (λ o. of g o && true) (λ o. plain (of g o)) os)))

drops_counted : (shape : ℕ → Option Shape) (k : Config) (c : ℕ) (h : List Deed) → IsAllowed shape k h → total (traces_dropped_now c) h ≡ number (of dropped) (handed (did c h))
drops_counted shape k c [] l = refl
drops_counted shape k c (d ∷ h) l = grind (arith, nat_tests, drops_counted shape k c h (legal_before shape k d h l), does, legal_before, Does, nothing, offers_one, empties_one, not_emptied)

specdrops_counted : (shape : ℕ → Option Shape) (k : Config) (c : ℕ) (h : List Deed) → IsAllowed shape k h → total (specdrops_now c) h ≡ number (of specdropped) (handed (did c h))
specdrops_counted shape k c [] l = refl
specdrops_counted shape k c (d ∷ h) l = grind (arith, nat_tests, specdrops_counted shape k c h (legal_before shape k d h l), does, legal_before, Does, nothing, offers_one, empties_one, not_emptied)

-- the fates of both are counted alike
taken_test : (o : HandedRecord) (f : told.Fate) → IsFate o.fate o.to f → told.is_taken f ≡ of taken o
taken_test o f is = grind (arith, nat_tests)

discarded_test : (o : HandedRecord) (f : told.Fate) → IsFate o.fate o.to f → told.is_discarded f ≡ of discarded o
discarded_test o f is = grind (arith, nat_tests)

void_test : (o : HandedRecord) (f : told.Fate) → IsFate o.fate o.to f → told.is_void f ≡ of void o
void_test o f is = grind (arith, nat_tests)

held_test : (o : HandedRecord) (f : told.Fate) → IsFate o.fate o.to f → told.is_waiting f ≡ of held o
held_test o f is = grind (arith, nat_tests)

-- dropped in one of three ways
abbrev any_drop : HandedRecord → Bool
any_drop o = of dropped o || (of specdropped o || of lost o)

dropped_test : (o : HandedRecord) (f : told.Fate) → IsFate o.fate o.to f → told.is_dropped f ≡ any_drop o
dropped_test o f is = grind (arith, nat_tests)

three_drops : (os : List HandedRecord) → number any_drop os ≡ number (of dropped) os + number (of specdropped) os + number (of lost) os
three_drops [] = refl
three_drops (o ∷ os) = grind (arith, nat_tests, three_drops os, one)

-- the stream of the list is the page's
same_stream : (shape : ℕ → Option Shape) (k : Config) (c : ℕ) (h : List Deed) → IsAllowed shape k h → stream_of c h ≡ reverse (cpu_stream (did c h))
same_stream shape k c h l = ap reverse (accepted_stream shape k c h l)

-- what a fate follows was done by then
decided_so_far : (shape : ℕ → Option Shape) (k : Config) (h : List Deed) → IsLegal shape k h → DecidedSoFar k.cpus h
decided_so_far shape k h l c = all_follow k h l.1 (handed (did c h)) (all_decided shape k c h l.0)

pub always : (shape : ℕ → Option Shape) (k : Config) (h : List Deed) → IsLegal shape k h → AtEachMoment (DecidedSoFar k.cpus) h
always shape k [] l = decided_so_far shape k [] l
always shape k (d ∷ h) l = (always shape k h (legal_before shape k d h l.0, l.1.0), decided_so_far shape k (d ∷ h) l)

-- at every moment, of whatever is the beginning of the stream
keeps : (shape : ℕ → Option Shape) (k : Config) (c : ℕ) (h : List Deed) (seen rest : List Record) → IsLegal shape k h → stream_of c h ≡ seen ++ rest → KeepsPromise k.cpus (all_did h) c seen
keeps shape k c h seen rest l begins = record {
  in_order = (rest, sym (same_stream shape k c h l.0) ∙ begins);
  once = λ test. once test (did c h);
  decided = decided_so_far shape k h l c;
  one_decision = λ id t. λ b less. never_discarded b id h (one_decision k id h l.0.0 (has_committed t.0 id h t.2));
  numbers = numbers_told shape k c h l.0;
}

pub underway : (shape : ℕ → Option Shape) (k : Config) (c n : ℕ) (h : List Deed) → IsLegal shape k h → KeepsPromise k.cpus (all_did h) c (taken_first n c h)
underway shape k c n h l = let begins = (headline shape k c h l.0).prefix n in keeps shape k c h (taken_first n c h) begins.0 l begins.1

-- once the session is closed
pub promise : (shape : ℕ → Option Shape) (k : Config) (c worn : ℕ) (h : List Deed) → IsLegal shape k h → WaitsUndecided k h → c < k.cpus
    → Promise k.cpus (all_did h) c (stream_of c h) (report k c worn h)
promise shape k c worn h l w lt =
    let os = handed (did c h) in
    let all = are_offers shape k c h l.0 in
    let law : FateLaw k c h = (headline shape k c h l.0).fates in
    let d = drops_counted shape k c h l.0 in
    let s = specdrops_counted shape k c h l.0 in
    let three = three_drops os in
    let fated = same_number_fated told.is_dropped any_drop dropped_test c h (offers_of c h) os all in
    let counted = law.dropped_count in
    record {
      keeps = keeps shape k c h (stream_of c h) [] l (sym (append-nil (stream_of c h)));
      whole = same_stream shape k c h l.0;
      waits = all_wait k c h w lt (offers_of c h) os all;
      offered = as_many c h (offers_of c h) os all;
      accepts = sym law.taken_count ∙ same_number_fated told.is_taken (of taken) taken_test c h (offers_of c h) os all;
      drops = d;
      specdrops = s;
      loses = omega arith;
      discarding = sym law.discarded_count ∙ same_number_fated told.is_discarded (of discarded) discarded_test c h (offers_of c h) os all;
      voids = sym law.void_count ∙ same_number_fated told.is_void (of void) void_test c h (offers_of c h) os all;
      holds = sym law.held_count ∙ same_number_fated told.is_waiting (of held) held_test c h (offers_of c h) os all;
    }
