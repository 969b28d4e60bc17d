-- A session that closed: what the sink got is what its CPUs accepted, and what each is promised.
use Rattle.std.proofs.Common.{◌≡◌, ℕ, zero, suc, ◌+◌, ◌<◌, Bool, List, [], ◌∷◌, ◌++◌, length, map, All, refl, sym, ap, ◌∙◌, subst, arith}
use Rattle.std.proofs.lemmas.{Bool.Decides.nat_tests, List.append-nil, List.append_assoc, List.Elements.All-append, List.Elements.All-head, List.Elements.All-tail}
use Rattle.std.specs.{Option.option_map_or, Prelude.slice_get, Prelude.Option, Prelude.Some}
use Rattle.dspec.specs.Words.{Record, stream, known, ConsumerKnows, IsUnusedConsumer, CallsMade, called, no_calls, number_in, seat_of, waiting, ClosesAs, HoldInOrder, Consuming, set_up_of, view_of}
use Rattle.dspec.specs.Words.{AllSteady, Has, IsPromised, IsPromisedBy, called_at, entered_at, HasAt, IsFresh, taken_at, all_did, did, Passed, AreFrom, passed_from, left_batches, rests_passed}
use Rattle.dspec.specs.Words.{GotAll, PassesOn, HasLists, IsOneList, IsKept, IsTraced, Shape, Config, Deed, Release, Batch, Cpu, Left}
use Rattle.dspec_table.specs.declared.seats.Words.{Words}
use Rattle.dspec_session_core.proofs.PromisedBy.{there_is, called_there, entered_there, had_tells}
use Rattle.dspec.proofs.Passing.{from_both, got_both, rest_there, rests_from}

-- nothing was taken yet
unused : (es : List ConsumerKnows) (c : ℕ) → All IsUnusedConsumer es → option_map_or (λ (e : ConsumerKnows). e.taken) (slice_get es c) [] ≡ []
unused [] c all = refl
unused (e ∷ es) zero all = (All-head IsUnusedConsumer e es all).taken
unused (e ∷ es) (suc c) all = unused es c (All-tail IsUnusedConsumer e es all)

-- the first list, then the others
abbrev lists : List Deed → (ℕ → List Deed) → ℕ → List Deed
lists p ps zero = p
lists p ps (suc n) = ps n

module _ {S : Type 0} (shape_of : S → ℕ → Option Shape) (accepted : S → Record → Bool) (text : S → Record → List ℕ) where
  next_has : (cpu : Cpu S) (cpus : List (Cpu S)) (p : List Deed) (ps : ℕ → List Deed) → Has shape_of accepted text cpu p
      → ((c : ℕ) → HasAt (Has shape_of accepted text) cpus c (ps c)) → (c : ℕ) → HasAt (Has shape_of accepted text) (cpu ∷ cpus) c (lists p ps c)
  next_has cpu cpus p ps has all zero x at = let same : cpu ≡ x = cc (at) in subst (λ (y : Cpu S). Has shape_of accepted text y p) same has
  next_has cpu cpus p ps has all (suc c) x at = all c x at

  -- each CPU has a list
  pub lists_had : (cpus : List (Cpu S)) → AllSteady shape_of accepted text cpus → (p : ℕ → List Deed) × ((c : ℕ) → HasAt (Has shape_of accepted text) cpus c (p c))
  lists_had [] all = ((λ c. []), (λ c cpu at. absurd (cc (at))))
  lists_had (cpu ∷ cpus) all =
      let steady = all 0 cpu refl in
      let more = lists_had cpus (λ c x at. all (suc c) x at) in
      (lists steady.list more.0, next_has cpu cpus steady.list more.0 steady.listed more.1)

  -- a CPU that has the empty list made no calls
  pub fresh_none : (cpu : Cpu S) → IsFresh (Has shape_of accepted text) cpu → no_calls ≡ called cpu
  fresh_none cpu fresh = grind (arith, nat_tests, had_tells)

  module _ {K : Type 0} (gets : K → Batch → K → Type 0) (schema : S) (words : Words) (x y : Consuming) (old mid new : K) (left : List Left)
      (fresh : All IsUnusedConsumer x.ends) (passes : PassesOn gets words x old y mid) (rests : GotAll gets mid (rests_passed 0 left) new) where
    -- the sink got of each CPU what was taken, then what was left
    whole : (c : ℕ) (l : Left) → slice_get left c ≡ Some l → passed_from c (passes.passed ++ rests_passed 0 left) ≡ taken_at y c ++ left_batches l
    whole c l at =
        from_both c passes.passed (rests_passed 0 left)
        ∙ (ap (λ t. passed_from c passes.passed ++ t) (rest_there 0 c c left l (omega arith) at)
        ∙ ap (λ t. t ++ left_batches l) (sym (passes.taken c ∙ ap (λ t. t ++ passed_from c passes.passed) (unused x.ends c fresh))))

    all_got : GotAll gets old (passes.passed ++ rests_passed 0 left) new
    all_got = got_both gets passes.passed (rests_passed 0 left) old mid new passes.got rests

    -- by a list that closes the lists of the CPUs
    listed_by : (k : Config) (worn : ℕ → ℕ) (deeds : List Deed) (p : ℕ → List Deed) (g : List Deed)
        → ClosesAs (shape_of schema) (accepted schema) (text schema) k worn (taken_at y) deeds left p g
        → HasLists gets (shape_of schema) (accepted schema) (text schema) k old left new
    listed_by k worn deeds p g closes = record {
      passed = passes.passed ++ rests_passed 0 left;
      got = all_got;
      worn = worn;
      taken = taken_at y;
      consumer = deeds;
      own = p;
      deeds = g;
      closes = closes;
      whole = whole;
      accepts = λ c l at.
          subst (λ bs. HoldInOrder (shape_of schema) (accepted schema) (text schema) bs (stream c g))
          (append_assoc (taken_at y c) (waiting l.rest) (l.last ∷ []) ∙ sym (whole c l at)) (closes.each c l at).kept;
    }

    -- what the consumer's seat entered
    entered_last : (view_of x).own ≡ [] → (view_of y).own ≡ map (λ s. Release s) passes.released
    entered_last none =
        passes.entered ∙ (ap (λ ds. map (λ s. Release s) passes.released ++ ds) none ∙ append-nil (map (λ s. Release s) passes.released))

    -- and of no other CPU
    from_all : (k : Config) → set_up_of x ≡ k → length left ≡ k.cpus → AreFrom k.cpus (passes.passed ++ rests_passed 0 left)
    from_all k is count =
        let all : k.cpus ≡ 0 + length left = omega arith in
        All-append (λ (p : Passed). p.from < k.cpus) passes.passed (rests_passed 0 left) (subst (λ (s : Config). AreFrom s.cpus passes.passed) is passes.from)
        (rests_from k.cpus 0 left all)

    module _ (does : ℕ → CallsMade → CallsMade → Type 0) (k : Config) (cpus : List (Cpu S)) (is : set_up_of x ≡ k) (lefts : length left ≡ k.cpus)
        (count : length cpus ≡ k.cpus) (none : (view_of x).own ≡ [])
        (numbers : (c : ℕ) (cpu : Cpu S) → slice_get cpus c ≡ Some cpu → number_in cpu ≡ c)
        (worked : (c : ℕ) (cpu : Cpu S) → slice_get cpus c ≡ Some cpu → does c no_calls (called cpu)) where
      -- by what the consumer's seat entered
      traced_by : IsPromisedBy (shape_of schema) (accepted schema) (text schema) k (entered_at cpus) (map (λ s. Release s) passes.released) (called_at cpus) (taken_at y) left
          → IsTraced gets does (shape_of schema) (accepted schema) (text schema) k old left new
      traced_by promised = record {
        passed = passes.passed ++ rests_passed 0 left;
        from = from_all k is lefts;
        got = all_got;
        calls = called_at cpus;
        worked = λ c lt.
            let (cpu, at) = there_is cpus c (subst (λ n. c < n) (sym count) lt) in
            subst (does c no_calls) (sym (called_there cpus c cpu at)) (worked c cpu at);
        entered = entered_at cpus;
        told = λ c lt.
            let (cpu, at) = there_is cpus c (subst (λ n. c < n) (sym count) lt) in
            ap (did c) (entered_there cpus c cpu at)
            ∙ (ap (λ n. did n (known (seat_of cpu)).own) (sym (numbers c cpu at)) ∙ ap (λ (z : CallsMade). z.done) (sym (called_there cpus c cpu at)));
        released = passes.released;
        taken = taken_at y;
        whole = whole;
        promised = promised;
      }

      -- the list that closes the lists of the CPUs is the one of the page
      pub by_one_list : (worn : ℕ → ℕ) → AllSteady shape_of accepted text cpus
          → ((p : ℕ → List Deed) → ((c : ℕ) → c < k.cpus → HasAt (Has shape_of accepted text) cpus c (p c))
          → (g : List Deed) × ClosesAs (shape_of schema) (accepted schema) (text schema) k worn (taken_at y) (view_of y).own left p g
          × ((promised : IsPromisedBy (shape_of schema) (accepted schema) (text schema) k (entered_at cpus) (view_of y).own (called_at cpus) (taken_at y) left) × (promised.deeds ≡ g)))
          → IsOneList gets does (shape_of schema) (accepted schema) (text schema) k old left new
      unfolding traced_by listed_by
      by_one_list worn steady one =
          let had = lists_had cpus steady in
          let made = one had.0 (λ c lt. had.1 c) in
          let said = subst (λ ds. (promised : IsPromisedBy (shape_of schema) (accepted schema) (text schema) k (entered_at cpus) ds (called_at cpus) (taken_at y) left)
          × (promised.deeds ≡ made.0)) (entered_last none) made.2 in
          (traced_by said.0, listed_by k worn (view_of y).own had.0 made.0 made.1, said.1, refl)

module _ {K : Type 0} (gets : K → Batch → K → Type 0) (does : ℕ → CallsMade → CallsMade → Type 0) (shape : ℕ → Option Shape) (accepted : Record → Bool)
    (text : Record → List ℕ) where
  -- the page alone, without the list
  pub kept_alone : (k : Config) (old : K) (left : List Left) (new : K) → IsTraced gets does shape accepted text k old left new → IsKept gets does shape accepted text k old left new
  kept_alone k old left new t = record {
    passed = t.passed;
    from = t.from;
    got = t.got;
    calls = t.calls;
    worked = t.worked;
    page = record {
      all = all_did t.promised.deeds;
      closed = t.promised.closed;
      each = λ c l at.
          subst (λ bs. IsPromised shape accepted text k.cpus (all_did t.promised.deeds) c (t.calls c) (t.promised.closed c) bs l.report)
          (append_assoc (t.taken c) (waiting l.rest) (l.last ∷ []) ∙ sym (t.whole c l at)) (t.promised.each c l at);
    };
  }
