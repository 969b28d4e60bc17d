-- A book in which one path is something else now.
use Rattle.std.proofs.Common.{◌≡◌, ◌≢◌, ◌+◌, ◌<◌, ◌≤◌, ◌==◌, ℕ, Bool, true, false, List, length, Option, Some, None, if◌then◌else◌, refl, sym, ap, subst, ◌∙◌, inl, inr, arith}
use Rattle.std.proofs.lemmas.{Bool.Decides.nat_tests, Option.slice_get_within}
use Rattle.std.specs.Prelude.{slice_get, slice_set}
use Rattle.dspec_cpu_state.proofs.Places.{got_other, got_set}
use Rattle.dspec_deeds.proofs.TestLemmas.{either_way, same_number, number_is_itself}
use Rattle.dspec_paths.specs.Words.{Did, Speculation, Places, at_place, path_at, IsNamed, PathState, nobodys, going, keeping, kept, thrown_away, lost, PathBook, Became, NotCopied, NotThrown, IsHere}
use Rattle.dspec_paths.specs.Words.{KeepsPaths, GoesOnTo, GoesTo, IsOver, IsDecided, open_state}
use Rattle.dspec_paths.specs.declared.{open_path.OpenPath.OpenPath, path_key.PathKey.PathKey}

-- what became of a speculation goes on where nothing more was copied or thrown away of it
pub becomes : (s : PathState) (cut : Bool) (id : Speculation) (ds es : List Did) → (NotCopied id ds → NotCopied id es) → (NotThrown id ds → NotThrown id es) → Became s cut id ds → Became s cut id es
becomes nobodys cut id ds es copied thrown is = is
becomes (going i) true id ds es copied thrown is = copied is
becomes (going i) false id ds es copied thrown is = (copied is.0, thrown is.1)
becomes (keeping i) true id ds es copied thrown is = copied is
becomes (keeping i) false id ds es copied thrown is = thrown is
becomes kept true id ds es copied thrown is = copied is
becomes kept false id ds es copied thrown is = thrown is
becomes thrown_away cut id ds es copied thrown is = copied is
becomes lost cut id ds es copied thrown is = copied is

-- an open path is at one place
pub one_place : (a b : Bool) (i j : ℕ) → open_state a i ≡ open_state b j → i ≡ j
one_place true true i j e = cc (e)
one_place true false i j e = cc (e)
one_place false true i j e = cc (e)
one_place false false i j e = cc (e)

open_is_some : (a : Bool) (i : ℕ) → open_state a i ≡ nobodys → ⊥
open_is_some true i e = cc (e)
open_is_some false i e = cc (e)

open_is_not_over : (a : Bool) (i : ℕ) → IsOver (open_state a i) → ⊥
open_is_not_over true i over = over
open_is_not_over false i over = over

-- this path is something else now
abbrev pub moved : PathBook → ℕ → PathState → PathBook
moved book n s = record book { state = λ (m : ℕ). if m == n then s else book.state m }

pub state_here : (book : PathBook) (n : ℕ) (s : PathState) → (moved book n s).state n ≡ s
state_here book n s = rw (number_is_itself n) refl

pub state_there : (book : PathBook) (n m : ℕ) (s : PathState) → m ≢ n → (moved book n s).state m ≡ book.state m
state_there book n m s apart = let e : (m == n) ≡ false = grind (arith, nat_tests) in rw e refl

-- a place whose path is that one
path_within : (o : Option (Option OpenPath)) (i : ℕ) (ps : Places) (p : OpenPath) → slice_get ps i ≡ o → at_place o ≡ Some p → i < length ps
path_within (Some x) i ps p got is = slice_get_within ps i x got
path_within None i ps p got is = cc (is)

pub place_within : (i : ℕ) (ps : Places) (p : OpenPath) → path_at i ps ≡ Some p → i < length ps
place_within i ps p is = path_within (slice_get ps i) i ps p refl is

pub path_set : (i : ℕ) (ps : Places) (o : Option OpenPath) → i < length ps → path_at i (slice_set ps i o) ≡ o
path_set i ps o there = ap at_place (got_set ps i o there)

pub path_other : (i j : ℕ) (ps : Places) (o : Option OpenPath) → j ≢ i → path_at j (slice_set ps i o) ≡ path_at j ps
path_other i j ps o apart = ap at_place (got_other ps i j o apart)

-- the number of an open path is that of a path that began
pub is_begun : (book : PathBook) (ps : Places) (ds : List Did) (i : ℕ) (p : OpenPath) → KeepsPaths book ps ds → path_at i ps ≡ Some p → book.owner p.newest ≢ 0
is_begun book ps ds i p keeps at zero = open_is_some p.is_kept i (sym (keeps.here i p at).state ∙ ap book.state zero ∙ keeps.nobody)

-- paths at two places are two paths
pub two_paths : (book : PathBook) (ps : Places) (ds : List Did) (i j : ℕ) (p q : OpenPath) → KeepsPaths book ps ds → path_at i ps ≡ Some p → path_at j ps ≡ Some q → j ≢ i
    → book.owner q.newest ≢ book.owner p.newest
two_paths book ps ds i j p q keeps at_i at_j apart same =
    apart (one_place q.is_kept p.is_kept j i (sym (keeps.here j q at_j).state ∙ ap book.state same ∙ (keeps.here i p at_i).state))

-- what is so at another place is so where one path changed
still_here : (book : PathBook) (n : ℕ) (s : PathState) (j : ℕ) (q : OpenPath) → IsHere book j q → book.owner q.newest ≢ n → IsHere (moved book n s) j q
still_here book n s j q is apart = record {
  state = state_there book n (book.owner q.newest) s apart ∙ is.state;
  newest = is.newest;
  older = is.older;
  apart = is.apart;
  last = is.last;
}

keeping_is_kept : (a : Bool) (i j : ℕ) → open_state a i ≡ keeping j → a ≡ true
keeping_is_kept true i j e = refl
keeping_is_kept false i j e = cc (e)

still_decided : (t : PathState) (i : ℕ) → t ≡ keeping i → IsDecided t
still_decided t i is = subst IsDecided (sym is) tt

decided_then : (book : PathBook) (n m i : ℕ) (s : PathState) → book.state m ≡ keeping i → (m ≡ n → IsDecided s) → IsDecided ((moved book n s).state m)
decided_then book n m i s was of_it = elim (either_way (m == n)) [
  | inl e ↦ subst IsDecided (sym (ap (λ (b : Bool). if b then s else book.state m) e)) (of_it (same_number m n e))
  | inr e ↦ subst IsDecided (sym (ap (λ (b : Bool). if b then s else book.state m) e)) (still_decided (book.state m) i was)
]

over_then : (book : PathBook) (n m : ℕ) (s : PathState) → (m ≡ n → ⊥) → (moved book n s).state m ≡ book.state m
over_then book n m s apart = state_there book n m s apart

goes_on : (book : PathBook) (ps : Places) (ds : List Did) (k : PathKey) (p : OpenPath) (s : PathState) → KeepsPaths book ps ds → IsNamed k ps p → (p.is_kept ≡ true → IsDecided s)
    → GoesOnTo book (moved book (book.owner p.newest) s)
goes_on book ps ds k p s keeps named decided =
    let n : ℕ = book.owner p.newest in
    let here : book.state n ≡ open_state p.is_kept k.place = (keeps.here k.place p named.0).state in
    record {
      owners = λ id some. refl;
      cut = λ id some is. is;
      decided = λ m i was. decided_then book n m i s was (λ e. decided (keeping_is_kept p.is_kept k.place i (sym here ∙ ap book.state (sym e) ∙ was)));
      over = λ m is. over_then book n m s (λ e. open_is_not_over p.is_kept k.place (subst IsOver (ap book.state e ∙ here) is));
    }

-- what became of each, where that is so of the path's own and of the others
became_then : (book : PathBook) (n : ℕ) (s : PathState) (es : List Did) → ((id : Speculation) → book.owner id ≡ n → Became s (book.is_cut id) id es)
    → ((id : Speculation) → book.owner id ≢ n → Became (book.state (book.owner id)) (book.is_cut id) id es)
    → (id : Speculation) → Became ((moved book n s).state (book.owner id)) (book.is_cut id) id es
became_then book n s es own others id = elim (either_way (book.owner id == n)) [
  | inl e ↦
      subst (λ (t : PathState). Became t (book.is_cut id) id es) (sym (ap (λ (b : Bool). if b then s else book.state (book.owner id)) e)) (own id (same_number (book.owner id) n e))
  | inr e ↦
      let apart : book.owner id ≢ n = grind (arith, nat_tests) in
      subst (λ (t : PathState). Became t (book.is_cut id) id es) (sym (ap (λ (b : Bool). if b then s else book.state (book.owner id)) e)) (others id apart)
]

here_then : (book : PathBook) (ps new : Places) (k : PathKey) (p : OpenPath) (s : PathState) (o : Option OpenPath) (ds : List Did) → KeepsPaths book ps ds → IsNamed k ps p
    → new ≡ slice_set ps k.place o → ((q : OpenPath) → o ≡ Some q → IsHere (moved book (book.owner p.newest) s) k.place q)
    → (i : ℕ) (q : OpenPath) → path_at i new ≡ Some q → IsHere (moved book (book.owner p.newest) s) i q
here_then book ps new k p s o ds keeps named is there i q at =
    let set : path_at i (slice_set ps k.place o) ≡ Some q = ap (path_at i) (sym is) ∙ at in
    elim (either_way (i == k.place)) [
      | inl e ↦
          let same : i ≡ k.place = same_number i k.place e in
          let o_is : o ≡ Some q = sym (path_set k.place ps o (place_within k.place ps p named.0)) ∙ ap (λ (j : ℕ). path_at j (slice_set ps k.place o)) (sym same) ∙ set in
          subst (λ (j : ℕ). IsHere (moved book (book.owner p.newest) s) j q) (sym same) (there q o_is)
      | inr e ↦
          let apart : i ≢ k.place = grind (arith, nat_tests) in
          let was : path_at i ps ≡ Some q = sym (path_other k.place i ps o apart) ∙ set in
          still_here book (book.owner p.newest) s i q (keeps.here i q was) (two_paths book ps ds k.place i p q keeps named.0 was apart)
    ]

-- The path at this place is something else now, and the place has another path, or none.
pub changes : (book : PathBook) (ps new : Places) (k : PathKey) (p : OpenPath) (s : PathState) (o : Option OpenPath) (ds es : List Did) → KeepsPaths book ps ds → IsNamed k ps p
    → new ≡ slice_set ps k.place o → (p.is_kept ≡ true → IsDecided s) → ((q : OpenPath) → o ≡ Some q → IsHere (moved book (book.owner p.newest) s) k.place q)
    → ((id : Speculation) → book.owner id ≡ book.owner p.newest → Became s (book.is_cut id) id es)
    → ((id : Speculation) → book.owner id ≢ book.owner p.newest → Became (book.state (book.owner id)) (book.is_cut id) id es)
    → GoesTo book new es
changes book ps new k p s o ds es keeps named is decided there own others =
    let n : ℕ = book.owner p.newest in
    let some : n ≢ 0 = is_begun book ps ds k.place p keeps named.0 in
    let low : n ≤ book.begun = keeps.owned p.newest in (
      moved book n s,
      goes_on book ps ds k p s keeps named decided,
      record {
        became = became_then book n s es own others;
        here = here_then book ps new k p s o ds keeps named is there;
        owned = keeps.owned;
        nobody = state_there book n 0 s (λ e. some (sym e)) ∙ keeps.nobody;
        next = λ m. state_there book n (book.begun + 1 + m) s (omega (arith, low)) ∙ keeps.next m;
      },
    )
