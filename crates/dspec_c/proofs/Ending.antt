-- What is home makes the session that was started.
use Rattle.std.proofs.Common.{arith, ◌≡◌, ℕ, List, [], ◌∷◌, length, Option, Some, None, suc, zero, refl, sym, ap, ◌∙◌, subst}
use Rattle.std.proofs.lemmas.{Bool.Decides.nat_tests, List.length-map, List.length-set}
use Rattle.std.specs.Prelude.{Result, Ok, Err, IfNone, IfOk, IfSome, IsSomeAnd, OnErr, false, map, slice_get, slice_set}
use Rattle.dspec_c.specs.Words.{Config, EnabledRows, last_seat, set_up, schema_of, words_of, Consuming, pairs_of, view_of, Has, IsCpuOf, IsFresh, CpuIdentity, IsTheirPlaceWith, LeaveTheirs}
use Rattle.dspec_c.specs.Words.{TheirStay, Theirs, Pair, CpuStay, IsSameSide, LeavesPlace, CpuSide, EachFrom, Going, GoesOut, IsJustStarted, IsCpuAt, IsPlaceOf, IsWhole, LeavesOne, LooksAt}
use Rattle.dspec_c.specs.Words.{LooksAtOne, TheyGoOut, firsts, they_wait_so, waiting_so, Cpu, Shared}
use Rattle.dspec_c.proofs.{EndingPlaces.all_fresh, EndingPlaces.number_out, Looking.first_at, Options.or_this}

pub each_set : {X : Type 0} (P : ℕ → X → Type 0) (n : ℕ) (xs : List X) (c : ℕ) (x y : X) → EachFrom P n xs → slice_get xs c ≡ Some x → ((k : ℕ) → P k x → P k y)
    → EachFrom P n (slice_set xs c y)
each_set P n [] c x y all at f = tt
each_set P n (z ∷ zs) zero x y all at f = (f n (subst (λ w. P n w) (ap (or_this z) at) all.0), all.1)
each_set P n (z ∷ zs) (suc c) x y all at f = (all.0, each_set P (suc n) zs c x y all.1 at f)

firsts_set : (xs : List CpuStay) (c : ℕ) (y : CpuStay) → firsts (slice_set xs c y) ≡ slice_set (firsts xs) c y.first
firsts_set [] c y = refl
firsts_set (x ∷ xs) zero y = refl
firsts_set (x ∷ xs) (suc c) y = ap (λ (os : List (Option CpuSide)). x.first ∷ os) (firsts_set xs c y)

-- the place of a CPU that went out is still its own
placed : (shared : Shared) (schema : EnabledRows) (pairs : List Pair) (k : ℕ) (o : Option CpuSide) (side : CpuSide) → IsSomeAnd o (λ (first : CpuSide). IsSameSide first side) → side.shared ≡ shared
    → IsCpuAt shared schema pairs k side.cpu → IsPlaceOf shared schema pairs k o
placed shared schema pairs k None side is e at = absurd is
placed shared schema pairs k (Some first) side is e at = record {
  side = first;
  is = refl;
  shares = sym is.shared ∙ e;
  cpu = subst (λ (i : CpuIdentity EnabledRows). IsCpuOf schema (words_of shared) k (slice_get pairs k) i) is.cpu at;
}

still_placed : (shared given : Shared) (schema : EnabledRows) (pairs : List Pair) (k : ℕ) (old new : CpuStay) (side : CpuSide) → given ≡ shared → LeavesPlace given old side new
    → IsPlaceOf shared schema pairs k old.first → IsPlaceOf shared schema pairs k new.first
still_placed shared given schema pairs k old new side e leaves at = placed shared schema pairs k new.first side leaves.stays (leaves.shares ∙ e)
    (subst (λ (i : CpuIdentity EnabledRows). IsCpuOf schema (words_of shared) k (slice_get pairs k) i) (sym (leaves.same at.side at.is)) at.cpu)

-- as many places as before
left_count : (shared : Shared) (c : ℕ) (places now : List CpuStay) (side : CpuSide) → LeavesOne shared c places side now → length now ≡ length places
left_count shared c places now side leaves = ap length leaves.gone ∙ length-set places c leaves.left

-- the session once a CPU went out
pub one_goes : (shared given : Shared) (n c : ℕ) (places now : List CpuStay) (theirs : Option Theirs) (side : CpuSide) → given ≡ shared → IsWhole shared n (firsts places) theirs
    → LeavesOne given c places side now → IsWhole shared n (firsts now) theirs
one_goes shared given n c places now theirs side e is leaves = record {
  schema = is.schema;
  first = is.first;
  is = is.is;
  shares = is.shares;
  count = is.count;
  ending = record {
    checked = is.ending.checked;
    all = length-map now (λ (s : CpuStay). s.first) ∙ left_count given c places now side leaves ∙ sym (length-map places (λ (s : CpuStay). s.first)) ∙ is.ending.all;
    each = subst (λ (os : List (Option CpuSide)). EachFrom (IsPlaceOf shared is.schema (pairs_of is.first.consumer)) 0 os)
        (sym (ap (λ (ps : List CpuStay). firsts ps) leaves.gone ∙ firsts_set places c leaves.left))
        (each_set (IsPlaceOf shared is.schema (pairs_of is.first.consumer)) 0 (firsts places) c leaves.stay.first leaves.left.first is.ending.each (first_at places c leaves.stay leaves.there)
        (λ k at. still_placed shared given is.schema (pairs_of is.first.consumer) k leaves.stay leaves.left side e leaves.leaves at));
    theirs = is.ending.theirs;
  };
}

pub goes_so : {E : Type 0} (shared given : Shared) (n c : ℕ) (w : Going) (theirs : Option Theirs) (r : Result CpuSide E) (now : List CpuStay) → given ≡ w.shared
    → IsWhole shared n (firsts w.places) theirs → IfOk r (λ side. LeavesOne given c w.places side now) → IfOk r (λ side. GoesOut c w side (record w { places = now }))
goes_so shared given n c w theirs (Err x) now e is leaves = tt
goes_so shared given n c w theirs (Ok side) now e is leaves = record {
  left = now;
  leaves = subst (λ (m : Shared). LeavesOne m c w.places side now) e leaves;
  number = number_out shared given n w.places theirs c side now is leaves;
  gone = refl;
}

-- so it is of a session as it was seen
pub goes_from : {E : Type 0} (shared given : Shared) (n c : ℕ) (w old : Going) (theirs : Option Theirs) (r : Result CpuSide E) (now : List CpuStay) → w ≡ old → given ≡ w.shared
    → IsWhole shared n (firsts w.places) theirs → IfOk r (λ side. LeavesOne given c w.places side now) → IfOk r (λ side. GoesOut c old side (record w { places = now }))
goes_from shared given n c w old theirs r now seen e is leaves =
    subst (λ (g : Going). IfOk r (λ side. GoesOut c g side (record w { places = now }))) seen (goes_so shared given n c w theirs r now e is leaves)

pub stays_from : {X E : Type 0} (w old : Going) (r : Result X E) (now : List CpuStay) → w ≡ old → OnErr r (now ≡ w.places) → OnErr r (record w { places = now } ≡ old)
stays_from w old (Err x) now seen is = ap (λ (ps : List CpuStay). record w { places = ps }) is ∙ seen
stays_from w old (Ok x) now seen is = tt

-- the session after a CPU was asked for
pub asked_for_one : {E : Type 0} (shared given : Shared) (n c : ℕ) (places now : List CpuStay) (theirs : Option Theirs) (r : Result CpuSide E)
    → given ≡ shared → IsWhole shared n (firsts places) theirs
    → IfOk r (λ side. LeavesOne given c places side now) → OnErr r (now ≡ places) → IsWhole shared n (firsts now) theirs
asked_for_one shared given n c places now theirs (Err x) e is leaves none = subst (λ (ps : List CpuStay). IsWhole shared n (firsts ps) theirs) (sym none) is
asked_for_one shared given n c places now theirs (Ok side) e is leaves none = one_goes shared given n c places now theirs side e is leaves

-- a look at one place of a session as it was seen
pub looks_from : (c : ℕ) (w old now : Going) → w ≡ old → now.shared ≡ w.shared → now.cpus ≡ w.cpus → now.consumer ≡ w.consumer → LooksAt c w.places now.places → LooksAtOne c old now
looks_from c w old now seen e f g is = subst (λ (x : Going). LooksAtOne c x now) seen (record { shared = e; cpus = f; consumer = g; places = is })

-- so does the consumer
pub they_share : (shared given : Shared) (n : ℕ) (places : List (Option CpuSide)) (theirs : Option Theirs) → IsWhole shared n places theirs → given ≡ shared → IsTheirPlaceWith given theirs
they_share shared given n places theirs is e = λ first f. e ∙ sym is.shares ∙ ap (λ (o : Option Theirs). (or_this first o).shared) (sym is.is ∙ f)

pub they_go : (shared given : Shared) (n : ℕ) (w : Going) (o : Option Theirs) (now : TheirStay) → w.shared ≡ shared → w.cpus ≡ n → given ≡ shared → IsWhole shared n (firsts w.places) w.consumer.first
    → IfSome o (λ side. LeaveTheirs given w.consumer side now) → IfSome o (λ side. TheyGoOut w side (record w { consumer = now }))
they_go shared given n w None now e f g is leave = tt
they_go shared given n w (Some side) now e f g is leave = grind (arith, nat_tests)

pub they_go_from : (shared given : Shared) (n : ℕ) (w old : Going) (o : Option Theirs) (now : TheirStay) → w ≡ old → w.shared ≡ shared → w.cpus ≡ n → given ≡ shared
    → IsWhole shared n (firsts w.places) w.consumer.first → IfSome o (λ side. LeaveTheirs given w.consumer side now) → IfSome o (λ side. TheyGoOut old side (record w { consumer = now }))
they_go_from shared given n w old o now seen e f g is leave =
    subst (λ (h : Going). IfSome o (λ side. TheyGoOut h side (record w { consumer = now }))) seen (they_go shared given n w o now e f g is leave)

pub they_stay : (shared given : Shared) (n : ℕ) (places : List (Option CpuSide)) (place now : TheirStay) (o : Option Theirs) → IsWhole shared n places place.first
    → IfSome o (λ side. LeaveTheirs given place side now) → IfNone o ((place.waits ≡ false) × (now ≡ place)) → IsWhole shared n places now.first
they_stay shared given n places place now None is leave none = subst (λ (s : TheirStay). IsWhole shared n places s.first) (sym none.1) is
they_stay shared given n places place now (Some side) is leave none = subst (λ (s : TheirStay). IsWhole shared n places s.first) (sym leave.gone) is

-- so it is begun
pub begun : (k : Config) (schema : EnabledRows) (shared common : Shared) (cpus : List (Cpu EnabledRows)) (consumer : Consuming) (n : ℕ) (w : Going)
    → ((c : ℕ) (cpu : Cpu EnabledRows) → slice_get cpus c ≡ Some cpu → (schema_of cpu ≡ schema) × IsFresh Has cpu) → view_of consumer ≡ last_seat k
    → set_up (words_of shared) ≡ k → common ≡ shared → n ≡ k.cpus → w.shared ≡ common → w.cpus ≡ n
    → w.places ≡ map (waiting_so common) cpus → w.consumer ≡ they_wait_so common consumer → IsJustStarted k schema w
begun k schema shared common cpus consumer n w fresh unasked is e f g h i j = grind (arith, nat_tests, all_fresh)
