-- A path that goes on in a new speculation keeps the page.
use Rattle.std.proofs.Common.{◌≡◌, ◌≢◌, ◌==◌, ◌||◌, ℕ, Bool, true, false, Option, Some, None, if◌then◌else◌, refl, sym, ap, subst, ◌∙◌, inl, inr, true≢false, arith}
use Rattle.std.proofs.lemmas.Bool.Decides.{nat_tests}
use Rattle.std.specs.Prelude.{slice_set}
use Rattle.dspec_paths.specs.Words.{CallsMade, with_speculation, Decided, Opening, Id, Unavailable, Busy, Stopped, Worn, is_same_id, Speculation, Places, path_at, IsUndecided, with_path, turned_to}
use Rattle.dspec_paths.specs.Words.{DiscardsIfThere, TurnsBy, going, PathBook, Became, NotCopied, IsNobodys, IsHere, KeepsPaths, GoesOnTo, GoesTo, IsDecided}
use Rattle.dspec_paths.specs.declared.{open_path.OpenPath.OpenPath, path_key.PathKey.PathKey}
use Rattle.dspec_deeds.proofs.TestLemmas.{either_way, id_is_itself, same_id_tells, same_number}
use Rattle.dspec_paths.proofs.{Deciding.if_there_copies_none, Deciding.if_there_throws_none, Deciding.other_id, Keeping.some_inside, Keeping.state_undecided, Moving.becomes, Moving.is_begun}
use Rattle.dspec_paths.proofs.{Moving.path_other, Moving.path_set, Moving.place_within, Moving.two_paths, Opening.asked, Opening.became_as, Opening.fresh_became, Opening.keeps_here}
use Rattle.dspec_paths.proofs.{Opening.not_fresh}

-- this is the older one
is_older : Option Speculation → Speculation → Bool
is_older None j = false
is_older (Some o) j = is_same_id j o

older_tells : (o : Option Speculation) (j : Speculation) → is_older o j ≡ true → o ≡ Some j
unfolding is_older
older_tells None j e = absurd (true≢false (sym e))
older_tells (Some i) j e = ap Some (sym (same_id_tells j i e))

some_same : (i k : Speculation) → Some i ≡ Some k → i ≡ k
some_same i k e = cc (e)

not_older : (o : Option Speculation) (j k : Speculation) → is_older o j ≡ false → o ≡ Some k → is_same_id j k ≡ false
unfolding is_older
not_older None j k e is = cc (is)
not_older (Some i) j k e is = subst (λ (v : Speculation). is_same_id j v ≡ false) (some_same i k is) e

none_older : (o : Option Speculation) (j : Speculation) → o ≢ Some j → is_older o j ≡ false
unfolding is_older
none_older None j apart = refl
none_older (Some i) j apart = other_id j i (λ e. apart (ap Some (sym e)))

-- the path has one speculation more, and the older one is cut
abbrev with_next : PathBook → Speculation → ℕ → Option Speculation → PathBook
with_next book id n older = record book {
  owner = λ (j : Speculation). if is_same_id j id then n else book.owner j;
  is_cut = λ (j : Speculation). if is_same_id j id then false else is_older older j || book.is_cut j;
}

next_own : (book : PathBook) (id : Speculation) (n : ℕ) (o : Option Speculation) (j : Speculation) → is_same_id j id ≡ true
    → ((with_next book id n o).owner j ≡ n) × ((with_next book id n o).is_cut j ≡ false)
next_own book id n o j e = (ap (λ (b : Bool). if b then n else book.owner j) e, ap (λ (b : Bool). if b then false else is_older o j || book.is_cut j) e)

next_other : (book : PathBook) (id : Speculation) (n : ℕ) (o : Option Speculation) (j : Speculation) → is_same_id j id ≡ false
    → ((with_next book id n o).owner j ≡ book.owner j) × ((with_next book id n o).is_cut j ≡ (is_older o j || book.is_cut j))
next_other book id n o j e = (ap (λ (b : Bool). if b then n else book.owner j) e, ap (λ (b : Bool). if b then false else is_older o j || book.is_cut j) e)

-- what is neither the new one nor the older one is as it was
next_same : (book : PathBook) (id : Speculation) (n : ℕ) (o : Option Speculation) (j : Speculation) → is_same_id j id ≡ false → is_older o j ≡ false
    → ((with_next book id n o).owner j ≡ book.owner j) × ((with_next book id n o).is_cut j ≡ book.is_cut j)
next_same book id n o j e f = ((next_other book id n o j e).0, (next_other book id n o j e).1 ∙ ap (λ (b : Bool). b || book.is_cut j) f)

or_kept : (a b : Bool) → b ≡ true → (a || b) ≡ true
or_kept true b is = refl
or_kept false b is = is

turned : (book : PathBook) (ps : Places) (k : PathKey) (p : OpenPath) (id : Speculation) (gone : Option Decided) (x y : CallsMade) → KeepsPaths book ps x.done → IsUndecided k ps p
    → IsNobodys book x.done id → DiscardsIfThere p.older gone x y
    → GoesOnTo book (with_next book id (book.owner p.newest) p.older) × KeepsPaths (with_next book id (book.owner p.newest) p.older) (with_path k (turned_to id gone p) ps) y.done
turned book ps k p id gone x y keeps undecided fresh so =
    let n : ℕ = book.owner p.newest in
    let later : PathBook = with_next book id n p.older in
    let q : OpenPath = turned_to id gone p in
    let at_place = undecided.0.0 in
    let here = keeps.here k.place p at_place in
    let some : n ≢ 0 = is_begun book ps x.done k.place p keeps at_place in
    let state : book.state n ≡ going k.place = state_undecided book ps x.done k p keeps undecided in
    let copied : (j : Speculation) → NotCopied j x.done → NotCopied j y.done = λ j none. if_there_copies_none j p.older gone x y so none in
    let of_older : (j : Speculation) → p.older ≡ Some j → book.owner j ≡ n = λ j at. (here.older j at).0 in
    let own = next_own book id n p.older id (id_is_itself id) in
    let last = next_same book id n p.older p.newest (not_fresh book x.done id p.newest fresh some) (none_older p.older p.newest here.apart) in
    let one : IsHere later k.place q = record {
      state = ap book.state own.0 ∙ here.state;
      newest = own.1;
      older = λ j at. let e : p.newest ≡ j = some_same p.newest j at in (ap later.owner (sym e) ∙ last.0 ∙ sym own.0, ap later.is_cut (sym e) ∙ (last.1 ∙ here.newest));
      apart = λ at. some (ap book.owner (some_same p.newest id at) ∙ fresh.0);
      last = λ is. absurd (true≢false (sym is ∙ undecided.1));
    } in
    let next : KeepsPaths later (with_path k q ps) y.done = record {
      became = λ j. elim (either_way (is_same_id j id)) [
        | inl e ↦
            let mine = next_own book id n p.older j e in
            let same : j ≡ id = same_id_tells j id e in
            became_as (later.state (later.owner j)) (going k.place) (later.is_cut j) false j y.done (ap book.state mine.0 ∙ state) mine.1
            (fresh_became k.place id j y.done e (copied id fresh.1)
            (if_there_throws_none id p.older gone x y so (λ i at. other_id id i (λ is. some (sym (of_older i at) ∙ (ap book.owner (sym is) ∙ fresh.0)))) fresh.2))
        | inr e ↦ elim (either_way (is_older p.older j)) [
          | inl f ↦
              let at : p.older ≡ Some j = older_tells p.older j f in
              let other = next_other book id n p.older j e in
              let was : Became (going k.place) false j x.done =
              became_as (going k.place) (book.state (book.owner j)) false (book.is_cut j) j x.done (sym (ap book.state (of_older j at) ∙ state)) (sym (here.older j at).1) (keeps.became j) in
              became_as (later.state (later.owner j)) (going k.place) (later.is_cut j) true j y.done (ap book.state other.0 ∙ (ap book.state (of_older j at) ∙ state))
              (other.1 ∙ ap (λ (b : Bool). b || book.is_cut j) f) (copied j was.0)
          | inr f ↦
              let same = next_same book id n p.older j e f in
              became_as (later.state (later.owner j)) (book.state (book.owner j)) (later.is_cut j) (book.is_cut j) j y.done (ap book.state same.0) same.1
              (becomes (book.state (book.owner j)) (book.is_cut j) j x.done y.done (copied j) (if_there_throws_none j p.older gone x y so (λ i at. not_older p.older j i f at)) (keeps.became j))
        ]
      ];
      here = λ i r at. elim (either_way (i == k.place)) [
        | inl e ↦
            let same : i ≡ k.place = same_number i k.place e in
            let q_is : Some q ≡ Some r = sym (path_set k.place ps (Some q) (place_within k.place ps p at_place)) ∙ ap (λ (j : ℕ). path_at j (slice_set ps k.place (Some q))) (sym same) ∙ at in
            subst (λ (j : ℕ). IsHere later j r) (sym same) (subst (λ (v : OpenPath). IsHere later k.place v) (some_inside q r q_is) one)
        | inr e ↦
            let apart : i ≢ k.place = grind (arith, nat_tests) in
            let was : path_at i ps ≡ Some r = sym (path_other k.place i ps (Some q) apart) ∙ at in
            let begun = is_begun book ps x.done i r keeps was in
            let two = two_paths book ps x.done k.place i p r keeps at_place was apart in
            keeps_here book later i r (keeps.here i r was)
            (λ j owned.
            next_same book id n p.older j (not_fresh book x.done id j fresh (λ none. begun (sym owned ∙ none)))
            (none_older p.older j (λ is. two (sym owned ∙ of_older j is)))) refl
      ];
      owned = λ j. elim (either_way (is_same_id j id)) [
        | inl e ↦ let mine = (next_own book id n p.older j e).0 in omega (arith, mine, keeps.owned p.newest)
        | inr e ↦ let same = (next_other book id n p.older j e).0 in omega (arith, same, keeps.owned j)
      ];
      nobody = keeps.nobody;
      next = keeps.next;
    } in (
      record {
        owners = λ j owned. (next_other book id n p.older j (not_fresh book x.done id j fresh owned)).0;
        cut = λ j owned is. (next_other book id n p.older j (not_fresh book x.done id j fresh owned)).1 ∙ or_kept (is_older p.older j) (book.is_cut j) is;
        decided = λ m i was. subst IsDecided (sym was) tt;
        over = λ m is. refl;
      },
      next,
    )

pub turns : (book : PathBook) (ps new : Places) (k : PathKey) (p : OpenPath) (a : Option Speculation) (o : Opening) (x y : CallsMade) → KeepsPaths book ps x.done → IsUndecided k ps p
    → ((id : Speculation) → o ≡ Id id → IsNobodys book x.done id) → TurnsBy o k p a x y ps new → GoesTo book new y.done
turns book ps new k p a (Id id) x y keeps undecided fresh (is, (gone, so, places)) =
    let on = turned book ps k p id gone (with_speculation (Id id) x) y keeps undecided (fresh id refl) so in (
      with_next book id (book.owner p.newest) p.older,
      on.0,
      subst (λ (qs : Places). KeepsPaths (with_next book id (book.owner p.newest) p.older) qs y.done) (sym places) on.1,
    )
turns book ps new k p a Unavailable x y keeps undecided fresh (none, calls, places) = asked book ps new Unavailable x y keeps calls places
turns book ps new k p a Busy x y keeps undecided fresh (none, calls, places) = asked book ps new Busy x y keeps calls places
turns book ps new k p a Stopped x y keeps undecided fresh (none, calls, places) = asked book ps new Stopped x y keeps calls places
turns book ps new k p a Worn x y keeps undecided fresh (none, calls, places) = asked book ps new Worn x y keeps calls places
