-- What a sink gets, and what is taken meanwhile.
use Rattle.std.proofs.Common.{◌≡◌, ℕ, zero, suc, ◌+◌, ◌<◌, ◌==◌, ⊎_elim, Bool, true, false, if◌then◌else◌, List, [], ◌∷◌, ◌++◌, length, map, take, refl, sym, ap, ◌∙◌, subst, arith}
use Rattle.std.proofs.lemmas.{Bool.Decides.nat_tests, List.append-nil, List.append_assoc, List.Elements.All-append, List.Elements.All-cons, List.Elements.All-nil, Option.slice_get_within}
use Rattle.std.specs.{Option.option_map_or, Prelude.slice_get, Prelude.slice_set, Prelude.Some, Prelude.None, Prelude.Result, Prelude.Ok, Prelude.Err, Prelude.OnOk, Prelude.OnErr, Prelude.MatchBool}
use Rattle.dspec.specs.Words.{Config, Deed, Release, View, ConsumerSeat, known_there, ConsumerKnows, waiting, Took, FoundNone, GaveBack, IsNotTakenBack, Asked, Consuming, IsConsumerOf, Stays}
use Rattle.dspec.specs.Words.{set_up_of, view_of, taken_at, Passed, AreFrom, passed_from, each_from, left_batches, rests_passed, GotAll, PassesOn, Batch, Left}
use Rattle.dspec_table.specs.declared.seats.Words.{Words}
use Rattle.dspec_session_core.proofs.PromisedBy.{there_is}

-- a batch more stands before the others of its CPU
more_in_front : (q : Bool) (b : Batch) (xs ys : List Batch) → (if q then b ∷ (xs ++ ys) else xs ++ ys) ≡ (if q then b ∷ xs else xs) ++ ys
more_in_front true b xs ys = refl
more_in_front false b xs ys = refl

pub from_both : (c : ℕ) (xs ys : List Passed) → passed_from c (xs ++ ys) ≡ passed_from c xs ++ passed_from c ys
from_both c [] ys = refl
from_both c (x ∷ xs) ys =
    ap (λ t. if x.from == c then x.batch ∷ t else t) (from_both c xs ys) ∙ more_in_front (x.from == c) x.batch (passed_from c xs) (passed_from c ys)

-- what was taken of the CPU d, by the ends
abbrev taken_in : List ConsumerKnows → ℕ → List Batch
taken_in es d = option_map_or (λ (e : ConsumerKnows). e.taken) (slice_get es d) []

-- one end becomes another
end_set : (es : List ConsumerKnows) (c d : ℕ) (e f : ConsumerKnows) (bs : List Batch) → slice_get es c ≡ Some e → f.taken ≡ e.taken ++ bs
    → taken_in (slice_set es c f) d ≡ taken_in es d ++ (if c == d then bs else [])
end_set [] c d e f bs at is = let within = slice_get_within [] c e at in absurd (omega arith)
end_set (z ∷ es) zero zero e f bs at is = let same : z ≡ e = cc (at) in is ∙ ap (λ (k : ConsumerKnows). k.taken ++ bs) (sym same)
end_set (z ∷ es) zero (suc d) e f bs at is = let apart : (zero == suc d) ≡ false = grind (arith, nat_tests) in rw apart (sym (append-nil (taken_in es d)))
end_set (z ∷ es) (suc c) zero e f bs at is = let apart : (suc c == zero) ≡ false = grind (arith, nat_tests) in rw apart (sym (append-nil z.taken))
end_set (z ∷ es) (suc c) (suc d) e f bs at is = let same : (suc c == suc d) ≡ (c == d) = grind (arith, nat_tests) in rw same (end_set es c d e f bs at is)

either_same : (q : Bool) (xs : List Batch) → (if q then xs else xs) ≡ xs
either_same true xs = refl
either_same false xs = refl

end_kept : (es : List ConsumerKnows) (c d : ℕ) (e f : ConsumerKnows) → slice_get es c ≡ Some e → f.taken ≡ e.taken → taken_in (slice_set es c f) d ≡ taken_in es d
end_kept es c d e f at is =
    end_set es c d e f [] at (is ∙ sym (append-nil e.taken)) ∙ (ap (λ t. taken_in es d ++ t) (either_same (c == d) []) ∙ append-nil (taken_in es d))

-- what was taken is read off the ends
pub ends_taken : (x y : Consuming) → y.ends ≡ x.ends → (d : ℕ) → taken_at y d ≡ taken_at x d
ends_taken x y e d = ap (λ es. taken_in es d) e

-- an ask takes nothing
pub ask_ends : (asks : Bool) (A B : Type 0) (c : ℕ) (x y : Consuming) → MatchBool asks (A × Asked c x y) (B × (y ≡ x)) → y.ends ≡ x.ends
ask_ends true A B c x y m = m.1.ends
ask_ends false A B c x y m = ap (λ (v : Consuming). v.ends) m.1

-- nor does a look at a ring that is empty
pub none_taken : (c : ℕ) (x y : Consuming) (d : ℕ) → FoundNone c x y → taken_at y d ≡ taken_at x d
none_taken c x y d found = grind (arith, nat_tests, end_kept)

-- a batch that goes back, or is refused, was taken all the same
pub back_taken : {T : Type 0} (r : Result T Batch) (b : Batch) (x y : Consuming) (d : ℕ) → OnOk r (GaveBack b x y) → OnErr r (IsNotTakenBack b x y) → taken_at y d ≡ taken_at x d
back_taken = grind (arith, nat_tests, end_kept)

-- the seat enters nothing where it makes no step, or asks
seat_kept : (x y : Consuming) → y.seat ≡ x.seat → (view_of y).own ≡ (view_of x).own
seat_kept x y e = ap (λ (s : ConsumerSeat). (known_there s).own) e

pub ask_own : (asks : Bool) (A B : Type 0) (c : ℕ) (x y : Consuming) → MatchBool asks (A × Asked c x y) (B × (y ≡ x)) → (view_of y).own ≡ (view_of x).own
ask_own true A B c x y m = ap (λ (v : View). v.own) m.1.stored.2
ask_own false A B c x y m = ap (λ (v : Consuming). (view_of v).own) m.1

pub none_own : (c : ℕ) (x y : Consuming) → FoundNone c x y → (view_of y).own ≡ (view_of x).own
none_own c x y found = ⊎_elim (λ h. ap (λ (v : Consuming). (view_of v).own) h.1) (λ h. let t = h.0 in seat_kept x y t.seat) found

pub back_own : {T : Type 0} (r : Result T Batch) (b : Batch) (x y : Consuming) → OnOk r (GaveBack b x y) → OnErr r (IsNotTakenBack b x y) → (view_of y).own ≡ (view_of x).own
back_own (Ok t) b x y given why = seat_kept x y given.seat
back_own (Err back) b x y given why = ⊎_elim (λ h. ap (λ (v : Consuming). (view_of v).own) h.1) (λ h. let t = h.0 in seat_kept x y t.seat) why

-- the Releases of more slots stand in front
releases_both : (ss ts : List ℕ) (ds : List Deed) → map (λ s. Release s) ss ++ (map (λ s. Release s) ts ++ ds) ≡ map (λ s. Release s) (ss ++ ts) ++ ds
releases_both [] ts ds = refl
releases_both (s ∷ ss) ts ds = ap (λ hs. Release s ∷ hs) (releases_both ss ts ds)

-- the consumer stays the same over two calls
pub stays_both : (words : Words) (x y z : Consuming) → Stays words x y → Stays words y z → Stays words x z
stays_both words x y z a b = record { session = b.session; same = record { config = b.same.config ∙ a.same.config; pairs = b.same.pairs ∙ a.same.pairs } }

module _ {K : Type 0} (gets : K → Batch → K → Type 0) where
  pub got_both : (xs ys : List Passed) (k m l : K) → GotAll gets k xs m → GotAll gets m ys l → GotAll gets k (xs ++ ys) l
  got_both [] ys k m l e more = subst (λ j. GotAll gets j ys l) (sym e) more
  got_both (x ∷ xs) ys k m l got more = (got.0, got.1, got_both xs ys got.0 m l got.2 more)

  -- the last buffer of a CPU, after the batch that it had sealed
  pub got_rest : (n : ℕ) (l : Left) (k m : K) → l.rest ≡ None → gets k l.last m → GotAll gets k (rests_passed n (l ∷ [])) m
  got_rest n l k m none g = subst (λ o. GotAll gets k (each_from n (waiting o ++ l.last ∷ []) ++ []) m) (sym none) (m, g, refl)

  pub got_rests : (n : ℕ) (l : Left) (b : Batch) (k j m : K) → l.rest ≡ Some b → gets k b j → gets j l.last m → GotAll gets k (rests_passed n (l ∷ [])) m
  got_rests n l b k j m some first g =
      subst (λ o. GotAll gets k (each_from n (waiting o ++ l.last ∷ []) ++ []) m) (sym some) (j, first, (m, g, refl))

  module _ (words : Words) where
    -- nothing was taken, and these slots were released
    pub passes_released : (x y : Consuming) (k : K) (slots : List ℕ) → Stays words x y → ((d : ℕ) → taken_at y d ≡ taken_at x d)
        → (view_of y).own ≡ map (λ s. Release s) slots ++ (view_of x).own → PassesOn gets words x k y k
    passes_released x y k slots stays same entered = record {
      stays = stays;
      passed = [];
      from = All-nil (λ (p : Passed). p.from < (set_up_of x).cpus);
      got = refl;
      taken = λ d. same d ∙ sym (append-nil (taken_at x d));
      released = slots;
      entered = entered;
    }

    -- nothing was taken, nor released
    pub passes_none : (x y : Consuming) (k : K) → Stays words x y → ((d : ℕ) → taken_at y d ≡ taken_at x d) → (view_of y).own ≡ (view_of x).own → PassesOn gets words x k y k
    passes_none x y k stays same entered = passes_released x y k [] stays same entered

    -- one batch was
    pub passes_one : (c : ℕ) (b : Batch) (x y : Consuming) (k l : K) → Stays words x y → Took c b x y → gets k b l → PassesOn gets words x k y l
    passes_one c b x y k l stays took g = record {
      stays = stays;
      passed = record { from = c; batch = b } ∷ [];
      from = let P : Passed → Type 0 = λ p. p.from < (set_up_of x).cpus in All-cons P (record { from = c; batch = b }) [] took.known (All-nil P);
      got = (l, g, refl);
      taken = λ d. ap (λ es. taken_in es d) took.ends ∙ end_set x.ends c d took.before took.after (b ∷ []) took.there took.took.taken;
      released = [];
      entered = ap (λ (s : ConsumerSeat). (known_there s).own) took.seat;
    }

    pub passes_nothing : (x : Consuming) (k : K) → IsConsumerOf words x → PassesOn gets words x k x k
    passes_nothing x k is = passes_none x x k (record { session = is; same = record { config = refl; pairs = refl } }) (λ d. refl) refl

    -- and then more
    pub passes_both : (x y z : Consuming) (k m l : K) → PassesOn gets words x k y m → PassesOn gets words y m z l → PassesOn gets words x k z l
    passes_both x y z k m l a b = record {
      stays = stays_both words x y z a.stays b.stays;
      passed = a.passed ++ b.passed;
      from = All-append (λ (p : Passed). p.from < (set_up_of x).cpus) a.passed b.passed a.from
          (subst (λ (s : Config). AreFrom s.cpus b.passed) a.stays.same.config b.from);
      got = got_both a.passed b.passed k m l a.got b.got;
      taken = λ d. b.taken d ∙ (ap (λ t. t ++ passed_from d b.passed) (a.taken d)
          ∙ (append_assoc (taken_at x d) (passed_from d a.passed) (passed_from d b.passed) ∙ ap (λ t. taken_at x d ++ t) (sym (from_both d a.passed b.passed))));
      released = b.released ++ a.released;
      entered = b.entered ∙ (ap (λ ds. map (λ s. Release s) b.released ++ ds) a.entered ∙ releases_both b.released a.released (view_of x).own);
    }

-- what is passed of one CPU alone
itself : (n : ℕ) (bs : List Batch) → passed_from n (each_from n bs) ≡ bs
itself n [] = refl
itself n (b ∷ bs) = let same : (n == n) ≡ true = grind (arith, nat_tests) in rw same (ap (λ t. b ∷ t) (itself n bs))

other : (n m : ℕ) (bs : List Batch) → n < m → passed_from m (each_from n bs) ≡ []
other n m [] lt = refl
other n m (b ∷ bs) lt = let apart : (n == m) ≡ false = grind (arith, nat_tests) in rw apart (other n m bs lt)

other_above : (n m : ℕ) (bs : List Batch) → m < n → passed_from m (each_from n bs) ≡ []
other_above n m [] lt = refl
other_above n m (b ∷ bs) lt = let apart : (n == m) ≡ false = grind (arith, nat_tests) in rw apart (other_above n m bs lt)

later : (n m : ℕ) (ls : List Left) → m < n → passed_from m (rests_passed n ls) ≡ []
later n m [] lt = refl
later n m (l ∷ ls) lt =
    from_both m (each_from n (left_batches l)) (rests_passed (n + 1) ls)
    ∙ (ap (λ t. t ++ passed_from m (rests_passed (n + 1) ls)) (other_above n m (left_batches l) lt) ∙ later (n + 1) m ls (omega arith))

-- what was left came from CPUs that there are
each_from_it : (m n : ℕ) (bs : List Batch) → n < m → AreFrom m (each_from n bs)
each_from_it m n [] lt = All-nil (λ (p : Passed). p.from < m)
each_from_it m n (b ∷ bs) lt = All-cons (λ (p : Passed). p.from < m) (record { from = n; batch = b }) (each_from n bs) lt (each_from_it m n bs lt)

pub rests_from : (m n : ℕ) (ls : List Left) → m ≡ n + length ls → AreFrom m (rests_passed n ls)
rests_from m n [] e = All-nil (λ (p : Passed). p.from < m)
rests_from m n (l ∷ ls) e =
    let at : n < m = omega arith in
    let on : m ≡ (n + 1) + length ls = omega arith in
    All-append (λ (p : Passed). p.from < m) (each_from n (left_batches l)) (rests_passed (n + 1) ls) (each_from_it m n (left_batches l) at) (rests_from m (n + 1) ls on)

-- what is passed of a CPU is what was left of it
pub rest_there : (n c m : ℕ) (ls : List Left) (l : Left) → m ≡ n + c → slice_get ls c ≡ Some l → passed_from m (rests_passed n ls) ≡ left_batches l
rest_there n c m [] l e at = let within = slice_get_within [] c l at in absurd (omega arith)
rest_there n zero m (x ∷ ls) l e at =
    let same : x ≡ l = cc (at) in
    let here : m ≡ n = omega arith in
    let mine : passed_from m (each_from n (left_batches x)) ≡ left_batches x = rw here (itself n (left_batches x)) in
    from_both m (each_from n (left_batches x)) (rests_passed (n + 1) ls)
    ∙ (ap (λ t. t ++ passed_from m (rests_passed (n + 1) ls)) mine
    ∙ (ap (λ t. left_batches x ++ t) (later (n + 1) m ls (omega arith)) ∙ (append-nil (left_batches x) ∙ ap left_batches same)))
rest_there n (suc c) m (x ∷ ls) l e at =
    from_both m (each_from n (left_batches x)) (rests_passed (n + 1) ls)
    ∙ (ap (λ t. t ++ passed_from m (rests_passed (n + 1) ls)) (other n m (left_batches x) (omega arith)) ∙ rest_there (n + 1) c m ls l (omega arith) at)

-- one CPU more
pub rests_more : (n : ℕ) (ls : List Left) (i : ℕ) (l : Left) → slice_get ls i ≡ Some l
    → rests_passed n (take (suc i) ls) ≡ rests_passed n (take i ls) ++ rests_passed (n + i) (l ∷ [])
rests_more n [] i l at = let within = slice_get_within [] i l at in absurd (omega arith)
rests_more n (x ∷ ls) zero l at =
    let same : x ≡ l = cc (at) in
    let here : n + 0 ≡ n = omega arith in
    ap (λ (y : Left). each_from n (left_batches y) ++ []) same ∙ ap (λ m. each_from m (left_batches l) ++ []) (sym here)
rests_more n (x ∷ ls) (suc i) l at =
    let on : n + suc i ≡ (n + 1) + i = omega arith in
    ap (λ t. each_from n (left_batches x) ++ t) (rests_more (n + 1) ls i l at)
    ∙ (sym (append_assoc (each_from n (left_batches x)) (rests_passed (n + 1) (take i ls)) (rests_passed ((n + 1) + i) (l ∷ [])))
    ∙ ap (λ k. rests_passed n (take (suc i) (x ∷ ls)) ++ rests_passed k (l ∷ [])) (sym on))

-- so is what is passed of a CPU more
pub got_more : {K : Type 0} (gets : K → Batch → K → Type 0) (ls : List Left) (i : ℕ) (k m l : K) → i < length ls → GotAll gets k (rests_passed 0 (take i ls)) m
    → ((x : Left) → slice_get ls i ≡ Some x → GotAll gets m (rests_passed i (x ∷ [])) l) → GotAll gets k (rests_passed 0 (take (i + 1) ls)) l
got_more gets ls i k m l lt before more =
    let (x, at) = there_is ls i lt in
    let on : i + 1 ≡ suc i = omega arith in
    let from : 0 + i ≡ i = omega arith in
    subst (λ xs. GotAll gets k xs l)
    (sym (ap (λ n. rests_passed 0 (take n ls)) on ∙ (rests_more 0 ls i x at ∙ ap (λ n. rests_passed 0 (take i ls) ++ rests_passed n (x ∷ [])) from)))
    (got_both gets (rests_passed 0 (take i ls)) (rests_passed i (x ∷ [])) k m l before (more x at))
