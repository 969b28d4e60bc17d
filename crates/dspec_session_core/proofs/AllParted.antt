-- CPUs that have parted from their seats, in a list, and the last of them.
use Rattle.std.proofs.Common.{◌≡◌, ℕ, ◌+◌, ◌<◌, List, [], ◌∷◌, ◌++◌, length, map, reverse, Option, refl, sym, ap, ◌∙◌, subst, append-nil, append_assoc, arith}
use Rattle.std.proofs.lemmas.{List.length-append, List.length-map, List.map-append, Option.slice_get_read}
use Rattle.std.specs.Prelude.{Bool, slice_index_or}
use Rattle.dspec_session_core.specs.{Leaving.Has, Words.Record, Words.AreSeats, Words.set_up, Words.ConsumerKnows, Words.rest_with, Words.schema_of, Words.seat_of, Words.RestHasList}
use Rattle.dspec_session_core.specs.{Words.AllParted, Words.AreLeft, Words.AreParting, Words.HasParted, Words.IsRestOf, Words.Leaves, Words.Shape, Words.Config, Words.Deed, Words.CpuSeat, Words.Cpu}
use Rattle.dspec_session_core.specs.{Words.CpuRest, declared.left.Left.Left, declared.parted.Parted.Parted}
use Rattle.dspec_table.specs.declared.seats.Words.{Words}
use Rattle.dspec_session_core.proofs.{Ends.none_in, FirstParted.next_left, Partings.are_seats, Partings.one_parted}

module _ {S : Type 0} (shape_of : S → ℕ → Option Shape) (accepted : S → Record → Bool) (text : S → Record → List ℕ) where
  -- one more has parted
  pub parted_more : (cpus : List (Cpu S)) (xs : List Parted) (cpu : Cpu S) (x : Parted) → AllParted shape_of accepted text cpus xs → HasParted shape_of accepted text cpu x
      → AllParted shape_of accepted text (cpus ++ cpu ∷ []) (xs ++ x ∷ [])
  parted_more [] [] cpu x all one = (one, tt)
  parted_more (c ∷ cs) (y ∷ ys) cpu x all one = (all.0, parted_more cs ys cpu x all.1 one)
  parted_more cpus xs cpu x all one = absurd all

  -- the last of them
  pub record LastParted (cpus : List (Cpu S)) (xs : List Parted) (x : Parted) : Type 0 where
    pub before : List (Cpu S)
    pub cpu : Cpu S
    pub split : before ++ cpu ∷ [] ≡ cpus
    pub others : AllParted shape_of accepted text before xs
    pub has : HasParted shape_of accepted text cpu x

  pub last_parted : (cpus : List (Cpu S)) (xs : List Parted) (x : Parted) → AllParted shape_of accepted text cpus (xs ++ x ∷ []) → LastParted cpus xs x
  last_parted [] [] x all = absurd all
  last_parted [] (y ∷ ys) x all = absurd all
  last_parted (c ∷ []) [] x all = record { before = []; cpu = c; split = refl; others = tt; has = all.0 }
  last_parted (c ∷ d ∷ cs) [] x all = absurd all.1
  last_parted (c ∷ cs) (y ∷ ys) x all =
      let rest = last_parted cs ys x all.1 in
      record { before = c ∷ rest.before; cpu = rest.cpu; split = ap (λ zs. c ∷ zs) rest.split; others = (all.0, rest.others); has = rest.has }

  -- there are as many
  pub as_many : (cpus : List (Cpu S)) (xs : List Parted) → AllParted shape_of accepted text cpus xs → length xs ≡ length cpus
  as_many [] [] all = refl
  as_many (c ∷ cs) (y ∷ ys) all = let more = as_many cs ys all.1 in omega arith
  as_many cpus xs all = absurd all

  pub none_parted_yet : (cpus : List (Cpu S)) (xs : List Parted) → AllParted shape_of accepted text cpus xs → xs ≡ [] → cpus ≡ []
  none_parted_yet [] xs all none = refl
  none_parted_yet (c ∷ cs) [] all none = absurd all
  none_parted_yet (c ∷ cs) (y ∷ ys) all none = absurd (cc (none))

  -- with the schema of the session it is what is left
  pub is_rest : (cpu : Cpu S) (x : Parted) (schema : S) → schema ≡ schema_of cpu → HasParted shape_of accepted text cpu x → IsRestOf cpu x.end (rest_with schema x.rest)
  is_rest cpu x schema same has = subst (λ s. IsRestOf cpu x.end (rest_with s x.rest)) (sym same) has.rest

  pub rest_lists : (cpu : Cpu S) (x : Parted) (schema : S) → schema ≡ schema_of cpu → HasParted shape_of accepted text cpu x → (q : List Deed) → Has shape_of accepted text cpu q
      → RestHasList (shape_of schema) (accepted schema) (text schema) (rest_with schema x.rest) x.end.handed q
  rest_lists cpu x schema same has =
      subst (λ s. (q : List Deed) → Has shape_of accepted text cpu q → RestHasList (shape_of s) (accepted s) (text s) (rest_with s x.rest) x.end.handed q) (sym same) has.lists

  module _ (schema : S) (words : Words) (p : ℕ → List Deed) where
    -- the others, once the first ones have parted
    pub parted_after : (before after : List (Cpu S)) (es fs : List ConsumerKnows) (seats : List CpuSeat) → length es ≡ length before
        → AreParting shape_of accepted text schema words p seats (before ++ after) (es ++ fs)
        → AreParting shape_of accepted text schema words p (seats ++ map (λ (x : Cpu S). seat_of x) before) after fs
    parted_after [] after [] fs seats n are = subst (λ ss. AreParting shape_of accepted text schema words p ss after fs) (sym (append-nil seats)) are
    parted_after (c ∷ cs) after (e ∷ es) fs seats n are =
        subst (λ ss. AreParting shape_of accepted text schema words p ss after fs) (append_assoc seats (seat_of c ∷ []) (map (λ (x : Cpu S). seat_of x) cs))
        (parted_after cs after es fs (seats ++ seat_of c ∷ []) (omega arith) (one_parted shape_of accepted text schema words p seats c (cs ++ after) e (es ++ fs) are))
    parted_after before after es fs seats n are = absurd (omega arith)

    -- all have parted
    pub all_seats : (seats new : List CpuSeat) (cpus : List (Cpu S)) (ends : List ConsumerKnows) → AreParting shape_of accepted text schema words p seats cpus ends
        → new ≡ seats ++ map (λ (x : Cpu S). seat_of x) cpus → AreSeats words new
    all_seats seats new cpus ends are is =
        let split : AreParting shape_of accepted text schema words p seats (cpus ++ []) (ends ++ []) =
        subst (λ xs. AreParting shape_of accepted text schema words p seats xs (ends ++ [])) (sym (append-nil cpus))
        (subst (λ es. AreParting shape_of accepted text schema words p seats cpus es) (sym (append-nil ends)) are) in
        subst (λ ss. AreSeats words ss) (sym is)
        (are_seats shape_of accepted text schema words p (seats ++ map (λ (x : Cpu S). seat_of x) cpus) [] [] (parted_after cpus [] ends [] seats are.ends_all split) refl)

  -- What is known of the last that has parted, of those before some of which was told what is left.
  pub record NextLeft (schema : S) (words : Words) (p : ℕ → List Deed) (seats : List CpuSeat) (cpus after : List (Cpu S)) (fs : List ConsumerKnows) (xs : List Parted) (x : Parted)
      (es : List ConsumerKnows) (other : ConsumerKnows) (ends : List ConsumerKnows) (size : ℕ) : Type 0 where
    pub before : List (Cpu S)
    pub cpu : Cpu S
    pub split : before ++ cpu ∷ after ≡ cpus
    pub split_ends : es ++ other ∷ fs ≡ ends
    pub one_less : size ≡ length before + 1
    pub others : AllParted shape_of accepted text before xs
    pub has : HasParted shape_of accepted text cpu x
    pub count : length es ≡ length before
    pub seats_are : (seats ++ map (λ (y : Cpu S). seat_of y) before) ++ map (λ (y : Cpu S). seat_of y) (cpu ∷ after) ≡ seats ++ map (λ (y : Cpu S). seat_of y) cpus
    pub parting : AreParting shape_of accepted text schema words p (seats ++ map (λ (y : Cpu S). seat_of y) before) (cpu ∷ after) (other ∷ fs)

  pub next_of_left : (schema : S) (words : Words) (p : ℕ → List Deed) (seats : List CpuSeat) (cpus : List (Cpu S)) (ends : List ConsumerKnows)
      → AreParting shape_of accepted text schema words p seats cpus ends → (front after : List (Cpu S)) (here fs : List ConsumerKnows) (xs all : List Parted) (x : Parted)
      (es : List ConsumerKnows) (other : ConsumerKnows) → front ++ after ≡ cpus → here ++ fs ≡ ends → length here ≡ length front → AllParted shape_of accepted text front all
      → all ≡ xs ++ x ∷ [] → here ≡ es ++ other ∷ [] → NextLeft schema words p seats cpus after fs xs x es other ends (length front)
  next_of_left schema words p seats cpus ends are front after here fs xs all x es other cpus_are ends_are same parted popped pulled =
      let last = last_parted front xs x (subst (λ ys. AllParted shape_of accepted text front ys) popped parted) in
      let split : last.before ++ last.cpu ∷ after ≡ cpus =
      sym (append_assoc last.before (last.cpu ∷ []) after) ∙ (ap (λ ys. ys ++ after) last.split ∙ cpus_are) in
      let split_ends : es ++ other ∷ fs ≡ ends = sym (append_assoc es (other ∷ []) fs) ∙ (ap (λ ys. ys ++ fs) (sym pulled) ∙ ends_are) in
      let one : length (last.before ++ last.cpu ∷ []) ≡ length last.before + 1 = length-append last.before (last.cpu ∷ []) in
      let two : length (es ++ other ∷ []) ≡ length es + 1 = length-append es (other ∷ []) in
      let three : length (last.before ++ last.cpu ∷ []) ≡ length front = ap length last.split in
      let four : length here ≡ length (es ++ other ∷ []) = ap length pulled in
      let count : length es ≡ length last.before = omega arith in
      let whole : AreParting shape_of accepted text schema words p seats (last.before ++ last.cpu ∷ after) (es ++ other ∷ fs) =
      subst (λ ys. AreParting shape_of accepted text schema words p seats ys (es ++ other ∷ fs)) (sym split)
      (subst (λ gs. AreParting shape_of accepted text schema words p seats cpus gs) (sym split_ends) are) in
      record {
        before = last.before;
        cpu = last.cpu;
        split = split;
        split_ends = split_ends;
        one_less = omega arith;
        others = last.others;
        has = last.has;
        count = count;
        seats_are = append_assoc seats (map (λ (y : Cpu S). seat_of y) last.before) (map (λ (y : Cpu S). seat_of y) (last.cpu ∷ after))
            ∙ ap (λ ss. seats ++ ss) (sym (map-append (λ (y : Cpu S). seat_of y) last.before (last.cpu ∷ after)) ∙ ap (λ ys. map (λ (y : Cpu S). seat_of y) ys) split);
        parting = parted_after schema words p last.before (last.cpu ∷ after) es (other ∷ fs) seats count whole;
      }

  -- Of all CPUs those that aren't there any more have parted: their seats stand after those before.
  pub record PartedSoFar (all cpus : List (Cpu S)) (old seats : List CpuSeat) (xs : List Parted) : Type 0 where
    pub done : List (Cpu S)
    pub split : done ++ cpus ≡ all
    pub seats_are : seats ≡ old ++ map (λ (x : Cpu S). seat_of x) done
    pub parted : AllParted shape_of accepted text done xs

  pub one_parts : (all cpus now : List (Cpu S)) (old seats new : List CpuSeat) (xs ys : List Parted) (cpu : Cpu S) (seat : CpuSeat) (x : Parted) → PartedSoFar all cpus old seats xs
      → cpu ∷ now ≡ cpus → seat ≡ seat_of cpu → HasParted shape_of accepted text cpu x → new ≡ seats ++ seat ∷ [] → ys ≡ xs ++ x ∷ [] → PartedSoFar all now old new ys
  one_parts all cpus now old seats new xs ys cpu seat x was cpus_are seat_is has new_is ys_are = record {
    done = was.done ++ cpu ∷ [];
    split = append_assoc was.done (cpu ∷ []) now ∙ (ap (λ cs. was.done ++ cs) cpus_are ∙ was.split);
    seats_are = new_is ∙ (ap (λ s. seats ++ s ∷ []) seat_is ∙ (ap (λ ss. ss ++ seat_of cpu ∷ []) was.seats_are
        ∙ (append_assoc old (map (λ (y : Cpu S). seat_of y) was.done) (seat_of cpu ∷ []) ∙ ap (λ ss. old ++ ss) (sym (map-append (λ (y : Cpu S). seat_of y) was.done (cpu ∷ []))))));
    parted = subst (λ zs. AllParted shape_of accepted text (was.done ++ cpu ∷ []) zs) (sym ys_are) (parted_more was.done xs cpu x was.parted has);
  }

  -- It is told what is left of the last CPUs, and those before them have parted.
  pub record LeftSoFar (k : Config) (words : List ℕ) (n : ℕ) (all : List (Cpu S)) (ends here : List ConsumerKnows) (xs : List Parted) (left : List Left) : Type 0 where
    pub before : List (Cpu S)
    pub after : List (Cpu S)
    pub told : List ConsumerKnows
    pub split : before ++ after ≡ all
    pub split_ends : here ++ told ≡ ends
    pub same : length here ≡ length before
    pub parted : AllParted shape_of accepted text before xs
    pub left_is : AreLeft shape_of accepted text k words (n + length before) after told (reverse left)

  -- once all have parted their seats are there
  pub seats_of_all : (all cpus : List (Cpu S)) (old seats : List CpuSeat) (xs : List Parted) → PartedSoFar all cpus old seats xs → cpus ≡ []
      → seats ≡ old ++ map (λ (x : Cpu S). seat_of x) all
  seats_of_all all cpus old seats xs so none =
      so.seats_are ∙ ap (λ cs. old ++ map (λ (x : Cpu S). seat_of x) cs) (sym (append-nil so.done) ∙ (ap (λ cs. so.done ++ cs) (sym none) ∙ so.split))

  -- and of none is told yet what is left
  pub none_told : (k : Config) (words : List ℕ) (n : ℕ) (all cpus : List (Cpu S)) (ends : List ConsumerKnows) (old seats : List CpuSeat) (xs : List Parted) (left : List Left)
      → length ends ≡ length all → PartedSoFar all cpus old seats xs → cpus ≡ [] → LeftSoFar k words n all ends ends xs left
  none_told k words n all cpus ends old seats xs left same so none =
      let done : so.done ≡ all = sym (append-nil so.done) ∙ (ap (λ cs. so.done ++ cs) (sym none) ∙ so.split) in
      record {
        before = all;
        after = [];
        told = [];
        split = append-nil all;
        split_ends = append-nil ends;
        same = same;
        parted = subst (λ cs. AllParted shape_of accepted text cs xs) done so.parted;
        left_is = λ i cpu end l at_cpu at_end at_left. absurd (cc (at_cpu));
      }

  -- it is told of all of them
  pub told_all : (k : Config) (words : List ℕ) (n : ℕ) (all : List (Cpu S)) (ends here : List ConsumerKnows) (xs : List Parted) (left : List Left)
      → LeftSoFar k words n all ends here xs left → xs ≡ [] → AreLeft shape_of accepted text k words n all ends (reverse left)
  told_all k words n all ends here xs left so none =
      let first : so.before ≡ [] = none_parted_yet so.before xs so.parted none in
      let zero : length so.before ≡ 0 = ap length first in
      let here_none : here ≡ [] = none_in here (length here) refl (so.same ∙ zero) in
      let same : n + length so.before ≡ n = omega arith in
      subst (λ m. AreLeft shape_of accepted text k words m all ends (reverse left)) same
      (subst (λ cs. AreLeft shape_of accepted text k words (n + length so.before) cs ends (reverse left)) (ap (λ bs. bs ++ so.after) (sym first) ∙ so.split)
      (subst (λ es. AreLeft shape_of accepted text k words (n + length so.before) so.after es (reverse left)) (ap (λ hs. hs ++ so.told) (sym here_none) ∙ so.split_ends) so.left_is))

  -- it is told of one CPU more
  pub left_more : (schema : S) (words : Words) (p : ℕ → List Deed) (seats : List CpuSeat) (cpus : List (Cpu S)) (ends here es : List ConsumerKnows) (all xs : List Parted) (x : Parted)
      (other : ConsumerKnows) (last : List ℕ) (left more : List Left) (so : LeftSoFar (set_up words) last (length seats) cpus ends here all left)
      (next : NextLeft schema words p seats cpus so.after so.told xs x es other ends (length so.before)) (rest : CpuRest S) (l : Left) → IsRestOf next.cpu x.end rest
      → ((q : List Deed) → Has shape_of accepted text next.cpu q → RestHasList (shape_of rest.schema) (accepted rest.schema) (text rest.schema) rest x.end.handed q)
      → Leaves shape_of accepted text (λ q. RestHasList (shape_of rest.schema) (accepted rest.schema) (text rest.schema) rest x.end.handed q) last other.taken l rest.schema rest.config rest.cpu
      rest.side.counts.worn → more ≡ left ++ l ∷ [] → LeftSoFar (set_up words) last (length seats) cpus ends es xs more
  left_more schema words p seats cpus ends here es all xs x other last left more so next rest l is lists leaves more_is =
      let old = seats ++ map (λ (y : Cpu S). seat_of y) next.before in
      let new = old ++ seat_of next.cpu ∷ [] in
      let olds : length old ≡ length seats + length next.before =
      length-append seats (map (λ (y : Cpu S). seat_of y) next.before) ∙ ap (λ n. length seats + n) (length-map next.before (λ (y : Cpu S). seat_of y)) in
      let news : length new ≡ length old + 1 = length-append old (seat_of next.cpu ∷ []) in
      let less = next.one_less in
      let same : length seats + length so.before ≡ length new = omega arith in
      record {
        before = next.before;
        after = next.cpu ∷ so.after;
        told = other ∷ so.told;
        split = next.split;
        split_ends = next.split_ends;
        same = next.count;
        parted = next.others;
        left_is = subst (λ n. AreLeft shape_of accepted text (set_up words) last n (next.cpu ∷ so.after) (other ∷ so.told) (reverse more)) olds
            (next_left shape_of accepted text schema words p old (next.cpu ∷ so.after) (other ∷ so.told) next.parting next.cpu so.after other so.told refl refl last new x.end rest left more l
            refl is lists leaves (subst (λ n. AreLeft shape_of accepted text (set_up words) last n so.after so.told (reverse left)) same so.left_is) more_is);
      }

  -- the schema is that of the first CPU
  pub first_schema : (schema : S) (words : Words) (p : ℕ → List Deed) (seats : List CpuSeat) (cpus : List (Cpu S)) (ends : List ConsumerKnows) (cpu : Cpu S)
      → AreParting shape_of accepted text schema words p seats cpus ends → 0 < length cpus → cpu ≡ slice_index_or cpus 0 cpu → schema_of cpu ≡ schema
  first_schema schema words p seats cpus ends cpu are some at = (are.each 0 cpu (slice_get_read cpus (length cpus) 0 cpu refl some at)).0.one
