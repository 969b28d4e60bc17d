-- What the places of CPUs that are out have, before any goes home.
use Rattle.std.proofs.Common.{◌≡◌, ℕ, ◌+◌, List, [], ◌∷◌, length, Option, Some, suc, zero, refl, sym, ap, ◌∙◌, subst, arith}
use Rattle.std.proofs.lemmas.{Bool.Decides.nat_tests, List.length-map}
use Rattle.std.specs.Prelude.{map, slice_get}
use Rattle.dspec_c.specs.Words.{EnabledRows, set_up, number_in, schema_of, words_of, Consuming, IsConsumerOf, IsSameConsumer, pairs_of, Has, IsFresh, IsSession, TheirStay, Theirs, Came, CpuStay}
use Rattle.dspec_c.specs.Words.{IsPlaceWith, CpuSide, AllCalled, AreCame, EachFrom, Going, IsFreshIn, IsCpuAt, IsEnding, IsPlaceOf, IsStarted, IsWhole, LeavesOne, LookedLater, cpu_inside, firsts}
use Rattle.dspec_c.specs.Words.{insides, they_wait_so, waiting_so, Cpu, Shared, Session}
use Rattle.dspec_c.proofs.{Each.each_placed, Looking.first_at, Looking.same_firsts, Options.if_some, Options.or_this}

pub each_at : {X : Type 0} (P : ℕ → X → Type 0) (n : ℕ) (xs : List X) (k : ℕ) (x : X) → EachFrom P n xs → slice_get xs k ≡ Some x → P (n + k) x
each_at P n [] k x all at = absurd (subst (λ o. if_some o) (sym at) tt)
each_at P n (y ∷ ys) zero x all at = subst (λ k. P k x) (omega arith) (subst (λ z. P n z) (ap (or_this y) at) all.0)
each_at P n (y ∷ ys) (suc k) x all at = subst (λ j. P j x) (omega arith) (each_at P (suc n) ys k x all.1 at)

pub each_from : {X : Type 0} (P : ℕ → X → Type 0) (n : ℕ) (xs : List X) → ((k : ℕ) (x : X) → slice_get xs k ≡ Some x → P (n + k) x) → EachFrom P n xs
each_from P n [] all = tt
each_from P n (x ∷ xs) all = (subst (λ k. P k x) (omega arith) (all 0 x refl), each_from P (suc n) xs (λ k y at. subst (λ j. P j y) (omega arith) (all (suc k) y at)))

-- all that is home makes a session
pub session_is : (shared : Shared) (schema : EnabledRows) (places : List (Option CpuSide)) (consumer : Consuming) (session : Session EnabledRows) → IsEnding shared schema places consumer
    → session.shared ≡ shared → session.consumer ≡ consumer
    → EachFrom (IsCpuAt shared schema (pairs_of consumer)) 0 session.cpus.items → length session.cpus.items ≡ length places → IsSession schema session
session_is shared schema places consumer session is e f home count = grind (arith, nat_tests, each_at)

-- as many as the places that they were at
pub as_many : (cpus : List (Cpu EnabledRows)) (places : List CpuStay) → map Some cpus ≡ insides places → length cpus ≡ length (firsts places)
as_many cpus places e = sym (length-map cpus Some) ∙ ap length e ∙ length-map places cpu_inside ∙ sym (length-map places (λ (s : CpuStay). s.first))

-- the consumer that is home ends what the first one would have ended
pub ends_so : (shared : Shared) (cpus : ℕ) (places : List (Option CpuSide)) (place : Option Theirs) (consumer : Consuming) → (is : IsWhole shared cpus places place)
    → ((first : Theirs) → place ≡ Some first → IsSameConsumer first.consumer consumer × IsConsumerOf (words_of first.shared) consumer) → IsEnding shared is.schema places consumer
ends_so shared cpus places place consumer is same = grind (arith, nat_tests)

-- each CPU of a session can be called
pub all_called : (schema : EnabledRows) (session : Session EnabledRows) (shared : Shared) → IsSession schema session → shared ≡ session.shared → AllCalled shared session.cpus.items
all_called schema session shared is e = subst (λ (s : Shared). AllCalled s session.cpus.items) (sym e) (λ c cpu at. (is.each c cpu at).belongs)

-- what a session that was started has
pub started : (schema : EnabledRows) (session : Session EnabledRows) (shared : Shared) (n : ℕ) → IsSession schema session → shared ≡ session.shared → n ≡ (set_up (words_of session.shared)).cpus
    → IsStarted shared n session.cpus.items session.consumer
started schema session shared n is e count = subst (λ (s : Shared). IsStarted s n session.cpus.items session.consumer) (sym e) (record {
  schema = schema;
  checked = is.checked;
  all = is.all;
  count = count;
  each = each_from (IsCpuAt session.shared schema (pairs_of session.consumer)) 0 session.cpus.items
      (λ k x at. subst (λ j. IsCpuAt session.shared schema (pairs_of session.consumer) j x) (omega arith) (is.each k x at));
  theirs = is.consumer;
})

all_firsts : (shared : Shared) (cpus : List (Cpu EnabledRows)) → length (firsts (map (waiting_so shared) cpus)) ≡ length cpus
all_firsts shared [] = refl
all_firsts shared (cpu ∷ cpus) = ap suc (all_firsts shared cpus)

-- such a session under way
pub whole_at_first : (shared clone : Shared) (n : ℕ) (cpus : List (Cpu EnabledRows)) (consumer : Consuming) (places : List CpuStay) (place : TheirStay)
    → (is : IsStarted shared n cpus consumer) → place ≡ they_wait_so clone consumer → clone ≡ shared → places ≡ map (waiting_so shared) cpus
    → IsWhole shared n (firsts places) place.first
whole_at_first shared clone n cpus consumer places place is at e waiting = record {
  schema = is.schema;
  first = record { shared = clone; consumer = consumer };
  is = ap (λ (s : TheirStay). s.first) at;
  shares = e;
  count = is.count;
  ending = record {
    checked = is.checked;
    all = ap (λ (ps : List CpuStay). length (firsts ps)) waiting ∙ all_firsts shared cpus ∙ is.all;
    each = subst (λ (ps : List CpuStay). EachFrom (IsPlaceOf shared is.schema (pairs_of consumer)) 0 (firsts ps)) (sym waiting) (each_placed shared is.schema (pairs_of consumer) 0 cpus is.each);
    theirs = is.theirs;
  };
}

-- a look at a session as it was seen
pub looked_so : (w old now : Going) → w ≡ old → now.shared ≡ w.shared → now.cpus ≡ w.cpus → AreCame w.places now.places → Came w.consumer now.consumer → LookedLater old now
looked_so w old now seen e f came there = subst (λ (g : Going). LookedLater g now) seen (record { shared = e; cpus = f; places = came; consumer = there })

-- looking for what is home changes nothing of it
pub whole_kept : (shared : Shared) (n : ℕ) (places now : List CpuStay) (place there : TheirStay) → IsWhole shared n (firsts places) place.first → AreCame places now → Came place there
    → IsWhole shared n (firsts now) there.first
whole_kept shared n places now place there is e f =
    subst (λ (xs : List (Option CpuSide)). IsWhole shared n xs there.first) (sym (same_firsts places now e)) (subst (λ (o : Option Theirs). IsWhole shared n (firsts places) o) (sym f.first) is)

pub all_fresh : (shared : Shared) (schema : EnabledRows) (n : ℕ) (cpus : List (Cpu EnabledRows))
    → ((c : ℕ) (cpu : Cpu EnabledRows) → slice_get cpus c ≡ Some cpu → (schema_of cpu ≡ schema) × IsFresh Has cpu) → EachFrom (IsFreshIn schema) n (map (waiting_so shared) cpus)
all_fresh shared schema n [] is = tt
all_fresh shared schema n (cpu ∷ cpus) is = ((refl, ((is 0 cpu refl).0, (is 0 cpu refl).1, refl)), all_fresh shared schema (suc n) cpus (λ c x at. is (suc c) x at))

-- those can call the CPU at a place who share what the session does
pub place_first : (shared given : Shared) (n : ℕ) (places : List CpuStay) (theirs : Option Theirs) (c : ℕ) (there : Option CpuSide) → IsWhole shared n (firsts places) theirs → given ≡ shared
    → slice_get (firsts places) c ≡ Some there → IsPlaceWith given there
place_first shared given n places theirs c there is e at = grind (arith, nat_tests, each_at)

pub place_with : (shared given : Shared) (n : ℕ) (places : List CpuStay) (theirs : Option Theirs) (c : ℕ) (s : CpuStay) → IsWhole shared n (firsts places) theirs → given ≡ shared
    → slice_get places c ≡ Some s → IsPlaceWith given s.first
place_with shared given n places theirs c s is e at = place_first shared given n places theirs c s.first is e (first_at places c s at)

-- a CPU that goes out is the one of its number
pub number_out : (shared given : Shared) (n : ℕ) (places : List CpuStay) (theirs : Option Theirs) (c : ℕ) (side : CpuSide) (now : List CpuStay) → IsWhole shared n (firsts places) theirs
    → LeavesOne given c places side now → number_in side.cpu ≡ c
number_out shared given n places theirs c side now is leaves = grind (arith, nat_tests, each_at, first_at)
