-- A speculation that is given out, and what else a CPU does, keep the page.
use Rattle.std.proofs.Common.{◌≡◌, ◌≢◌, ◌+◌, ◌<◌, ◌≤◌, ◌==◌, ℕ, zero, suc, Bool, true, false, List, [], ◌∷◌, length, replicate, Option, Some, None, if◌then◌else◌, refl, sym, ap, subst, ◌∙◌, ◌⊎◌}
use Rattle.std.proofs.Common.{inl, inr, arith}
use Rattle.std.proofs.lemmas.{Bool.Decides.nat_tests, Option.slice_get_within}
use Rattle.std.specs.Prelude.{slice_get, slice_set}
use Rattle.dspec_paths.specs.Words.{CallsMade, with_speculation, Opening, Id, Unavailable, Busy, Stopped, Worn, Did, is_same_id, some, Speculation, Places, path_at, with_path, begun_with, BeginsBy}
use Rattle.dspec_paths.specs.Words.{PathState, nobodys, going, keeping, PathBook, Became, NotCopied, NotThrown, IsNobodys, IsHere, KeepsPaths, GoesOnTo, GoesTo, IsOver, IsDecided, Spares, no_paths}
use Rattle.dspec_paths.specs.Words.{copies, throws}
use Rattle.dspec_paths.specs.declared.{open_path.OpenPath.OpenPath, path_key.PathKey.PathKey}
use Rattle.dspec_deeds.proofs.TestLemmas.{either_way, id_is_itself, same_id_tells, same_number}
use Rattle.dspec_paths.proofs.{Deciding.discard_copies_none, Deciding.discard_throws_none, Deciding.one_more, Keeping.goes_as_it_is, Keeping.not_of, Keeping.some_inside, Moving.becomes}
use Rattle.dspec_paths.proofs.{Moving.is_begun, Moving.path_other, Moving.path_set}

zero_or : (n : ℕ) → (n ≡ 0) ⊎ (n ≢ 0)
zero_or n = elim (either_way (n == 0)) [ inl e ↦ inl (same_number n 0 e) | inr e ↦ inr (grind (arith, nat_tests)) ]

-- what became of it, by equal words
pub became_as : (s t : PathState) (b c : Bool) (id : Speculation) (ds : List Did) → s ≡ t → b ≡ c → Became t c id ds → Became s b id ds
became_as s t b c id ds state cut is = subst (λ (v : PathState). Became v b id ds) (sym state) (subst (λ (v : Bool). Became t v id ds) (sym cut) is)

-- the CPU's calls did more, of which nothing decided what is somebody's
more_done : (book : PathBook) (ps : Places) (ds es : List Did) → KeepsPaths book ps ds
    → ((id : Speculation) → book.owner id ≢ 0 → (NotCopied id ds → NotCopied id es) × (NotThrown id ds → NotThrown id es)) → KeepsPaths book ps es
more_done book ps ds es keeps spares = record {
  became = λ id. elim (zero_or (book.owner id)) [
    | inl none ↦ became_as (book.state (book.owner id)) nobodys (book.is_cut id) (book.is_cut id) id es (ap book.state none ∙ keeps.nobody) refl tt
    | inr some ↦ becomes (book.state (book.owner id)) (book.is_cut id) id ds es (spares id some).0 (spares id some).1 (keeps.became id)
  ];
  here = keeps.here;
  owned = keeps.owned;
  nobody = keeps.nobody;
  next = keeps.next;
}

pub others_keep : (book : PathBook) (ps : Places) (ds : List Did) (d : Did) → KeepsPaths book ps ds → Spares book d → KeepsPaths book ps (d ∷ ds)
others_keep book ps ds d keeps spares =
    more_done book ps ds (d ∷ ds) keeps
    (λ id owned. (λ none. one_more (copies id d) (some (copies id) ds) (spares id owned).0 none, λ none. one_more (throws id d) (some (throws id) ds) (spares id owned).1 none))

-- a path is here in another book, where its speculations and its state are the same
pub keeps_here : (book later : PathBook) (i : ℕ) (q : OpenPath) → IsHere book i q
    → ((j : Speculation) → book.owner j ≡ book.owner q.newest → (later.owner j ≡ book.owner j) × (later.is_cut j ≡ book.is_cut j))
    → later.state (book.owner q.newest) ≡ book.state (book.owner q.newest) → IsHere later i q
keeps_here book later i q is same state =
    let own : later.owner q.newest ≡ book.owner q.newest = (same q.newest refl).0 in
    record {
      state = ap later.state own ∙ state ∙ is.state;
      newest = (same q.newest refl).1 ∙ is.newest;
      older = λ id at. ((same id (is.older id at).0).0 ∙ (is.older id at).0 ∙ sym own, (same id (is.older id at).0).1 ∙ (is.older id at).1);
      apart = is.apart;
      last = is.last;
    }

-- ---- a path that begins

abbrev with_new : PathBook → Speculation → ℕ → PathBook
with_new book id i = record {
  owner = λ (j : Speculation). if is_same_id j id then book.begun + 1 else book.owner j;
  is_cut = λ (j : Speculation). if is_same_id j id then false else book.is_cut j;
  state = λ (m : ℕ). if m == book.begun + 1 then going i else book.state m;
  begun = book.begun + 1;
}

new_state : (book : PathBook) (id : Speculation) (i m : ℕ) → m ≤ book.begun → (with_new book id i).state m ≡ book.state m
new_state book id i m low = let e : (m == book.begun + 1) ≡ false = grind (arith, nat_tests) in ap (λ (b : Bool). if b then going i else book.state m) e

own_state : (book : PathBook) (id : Speculation) (i : ℕ) → (with_new book id i).state (book.begun + 1) ≡ going i
own_state book id i = let e : (book.begun + 1 == book.begun + 1) ≡ true = grind (arith, nat_tests) in ap (λ (b : Bool). if b then going i else book.state (book.begun + 1)) e

new_owner : (book : PathBook) (id : Speculation) (i : ℕ) (j : Speculation) → is_same_id j id ≡ false
    → ((with_new book id i).owner j ≡ book.owner j) × ((with_new book id i).is_cut j ≡ book.is_cut j)
new_owner book id i j e = (ap (λ (b : Bool). if b then book.begun + 1 else book.owner j) e, ap (λ (b : Bool). if b then false else book.is_cut j) e)

own_owner : (book : PathBook) (id : Speculation) (i : ℕ) (j : Speculation) → is_same_id j id ≡ true
    → ((with_new book id i).owner j ≡ book.begun + 1) × ((with_new book id i).is_cut j ≡ false)
own_owner book id i j e = (ap (λ (b : Bool). if b then book.begun + 1 else book.owner j) e, ap (λ (b : Bool). if b then false else book.is_cut j) e)

-- what is somebody's is another
pub not_fresh : (book : PathBook) (ds : List Did) (id j : Speculation) → IsNobodys book ds id → book.owner j ≢ 0 → is_same_id j id ≡ false
not_fresh book ds id j fresh some = not_of book j id (λ e. some (e ∙ fresh.0))

pub fresh_became : (i : ℕ) (id j : Speculation) (ds : List Did) → is_same_id j id ≡ true → NotCopied id ds → NotThrown id ds → Became (going i) false j ds
fresh_became i id j ds same copied thrown =
    let e : id ≡ j = sym (same_id_tells j id same) in
    (subst (λ (v : Speculation). NotCopied v ds) e copied, subst (λ (v : Speculation). NotThrown v ds) e thrown)

begins_new : (book : PathBook) (ps : Places) (k : PathKey) (number thread stamp : ℕ) (id : Speculation) (ds : List Did) → KeepsPaths book ps ds → IsNobodys book ds id → k.newest ≡ id
    → slice_get ps k.place ≡ Some None → k.place < length ps → KeepsPaths (with_new book id k.place) (with_path k (begun_with number thread stamp id) ps) ds
begins_new book ps k number thread stamp id ds keeps fresh newest free there =
    let later : PathBook = with_new book id k.place in
    let q : OpenPath = begun_with number thread stamp id in
    let own = own_owner book id k.place id (id_is_itself id) in
    let one : IsHere later k.place q = record {
      state = ap later.state own.0 ∙ own_state book id k.place;
      newest = own.1;
      older = λ j at. cc (at);
      apart = λ at. cc (at);
      last = λ is. refl;
    } in
    record {
      became = λ j. elim (either_way (is_same_id j id)) [
        | inl e ↦
            let mine = own_owner book id k.place j e in
            became_as (later.state (later.owner j)) (going k.place) (later.is_cut j) false j ds (ap later.state mine.0 ∙ own_state book id k.place) mine.1
            (fresh_became k.place id j ds e fresh.1 fresh.2)
        | inr e ↦
            let same = new_owner book id k.place j e in
            became_as (later.state (later.owner j)) (book.state (book.owner j)) (later.is_cut j) (book.is_cut j) j ds
            (ap later.state same.0 ∙ new_state book id k.place (book.owner j) (keeps.owned j)) same.1 (keeps.became j)
      ];
      here = λ i r at. elim (either_way (i == k.place)) [
        | inl e ↦
            let same : i ≡ k.place = same_number i k.place e in
            let q_is : Some q ≡ Some r = sym (path_set k.place ps (Some q) there) ∙ ap (λ (j : ℕ). path_at j (slice_set ps k.place (Some q))) (sym same) ∙ at in
            subst (λ (j : ℕ). IsHere later j r) (sym same) (subst (λ (v : OpenPath). IsHere later k.place v) (some_inside q r q_is) one)
        | inr e ↦
            let apart : i ≢ k.place = grind (arith, nat_tests) in
            let was : path_at i ps ≡ Some r = sym (path_other k.place i ps (Some q) apart) ∙ at in
            let begun = is_begun book ps ds i r keeps was in
            keeps_here book later i r (keeps.here i r was)
            (λ j owned. new_owner book id k.place j (not_fresh book ds id j fresh (λ none. begun (sym owned ∙ none))))
            (new_state book id k.place (book.owner r.newest) (keeps.owned r.newest))
      ];
      owned = λ j. elim (either_way (is_same_id j id)) [
        | inl e ↦ let mine = (own_owner book id k.place j e).0 in omega (arith, mine)
        | inr e ↦ let same = (new_owner book id k.place j e).0 in omega (arith, same, keeps.owned j)
      ];
      nobody = new_state book id k.place 0 (omega arith) ∙ keeps.nobody;
      next = λ m.
          let e : (book.begun + 1 + 1 + m == book.begun + 1) ≡ false = grind (arith, nat_tests) in
          let same : book.begun + 1 + 1 + m ≡ book.begun + 1 + (1 + m) = omega arith in
          ap (λ (b : Bool). if b then going k.place else book.state (book.begun + 1 + 1 + m)) e ∙ (ap book.state same ∙ keeps.next (1 + m));
    }

state_some : (book : PathBook) (ps : Places) (ds : List Did) (m : ℕ) (t : PathState) → KeepsPaths book ps ds → book.state m ≡ t → (t ≡ nobodys → ⊥) → m ≢ book.begun + 1
state_some book ps ds m t keeps is some e =
    let zero : book.begun + 1 ≡ book.begun + 1 + 0 = omega arith in
    some (sym is ∙ ap book.state (e ∙ zero) ∙ keeps.next 0)

over_some : (t : PathState) → IsOver t → t ≡ nobodys → ⊥
over_some t over none = subst IsOver none over

new_goes_on : (book : PathBook) (ps : Places) (ds : List Did) (id : Speculation) (i : ℕ) → KeepsPaths book ps ds → IsNobodys book ds id → GoesOnTo book (with_new book id i)
new_goes_on book ps ds id i keeps fresh =
    let stays : (m : ℕ) → m ≢ book.begun + 1 → (with_new book id i).state m ≡ book.state m =
    λ m apart. let e : (m == book.begun + 1) ≡ false = grind (arith, nat_tests) in ap (λ (b : Bool). if b then going i else book.state m) e in
    record {
      owners = λ j some. (new_owner book id i j (not_fresh book ds id j fresh some)).0;
      cut = λ j some is. (new_owner book id i j (not_fresh book ds id j fresh some)).1 ∙ is;
      decided = λ m at was.
          subst IsDecided (sym (stays m (state_some book ps ds m (keeping at) keeps was (λ none. cc (none))))) (subst IsDecided (sym was) tt);
      over = λ m is. stays m (λ e. over_some (book.state m) is (let zero : book.begun + 1 ≡ book.begun + 1 + 0 = omega arith in ap book.state (e ∙ zero) ∙ keeps.next 0));
    }

-- a speculation was asked for, and nothing more was done
pub asked : (book : PathBook) (ps new : Places) (o : Opening) (x y : CallsMade) → KeepsPaths book ps x.done → y ≡ with_speculation o x → new ≡ ps → GoesTo book new y.done
asked book ps new o x y keeps calls places = (
  book,
  goes_as_it_is book,
  subst (λ (z : CallsMade). KeepsPaths book new z.done) (sym calls) (subst (λ (qs : Places). KeepsPaths book qs x.done) (sym places) keeps),
)

pub begins : (book : PathBook) (ps new : Places) (number thread stamp : ℕ) (a : Option PathKey) (o : Opening) (x y : CallsMade) → KeepsPaths book ps x.done
    → ((id : Speculation) → o ≡ Id id → IsNobodys book x.done id) → BeginsBy o number thread stamp a x y ps new → GoesTo book new y.done
begins book ps new number thread stamp (Some k) (Id id) x y keeps fresh (newest, free, calls, places) = (
  with_new book id k.place,
  new_goes_on book ps x.done id k.place keeps (fresh id refl),
  subst (λ (z : CallsMade). KeepsPaths (with_new book id k.place) new z.done) (sym calls)
      (subst (λ (qs : Places). KeepsPaths (with_new book id k.place) qs x.done) (sym places)
      (begins_new book ps k number thread stamp id x.done keeps (fresh id refl) newest free (slice_get_within ps k.place None free))),
)
begins book ps new number thread stamp None (Id id) x y keeps fresh (taken, (d, so), places) = (
  book,
  goes_as_it_is book,
  subst (λ (qs : Places). KeepsPaths book qs y.done) (sym places)
      (more_done book ps x.done y.done keeps
      (λ j some. (
        λ none. discard_copies_none j id d (with_speculation (Id id) x) y so none,
        λ none. discard_throws_none j id d (with_speculation (Id id) x) y so (not_fresh book x.done id j (fresh id refl) some) none,
      ))),
)
begins book ps new number thread stamp a Unavailable x y keeps fresh (none, calls, places) = asked book ps new Unavailable x y keeps calls places
begins book ps new number thread stamp a Busy x y keeps fresh (none, calls, places) = asked book ps new Busy x y keeps calls places
begins book ps new number thread stamp a Stopped x y keeps fresh (none, calls, places) = asked book ps new Stopped x y keeps calls places
begins book ps new number thread stamp a Worn x y keeps fresh (none, calls, places) = asked book ps new Worn x y keeps calls places

-- ---- a table in which no path has begun

none_open : (n i : ℕ) (p : OpenPath) → path_at i (replicate n None) ≡ Some p → ⊥
none_open zero i p at = cc (at)
none_open (suc n) zero p at = cc (at)
none_open (suc n) (suc i) p at = none_open n i p at

pub none_begun : (n : ℕ) → KeepsPaths no_paths (replicate n None) []
none_begun n = record {
  became = λ id. tt;
  here = λ i p at. absurd (none_open n i p at);
  owned = λ id. omega arith;
  nobody = refl;
  next = λ m. refl;
}
