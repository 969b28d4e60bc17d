-- Each call keeps the page.
use Rattle.std.proofs.Common.{◌≡◌, ◌≢◌, ℕ, Bool, true, false, List, Option, Some, None, refl, sym, ap, subst, ◌∙◌, ◌⊎◌, inl, inr, true≢false}
use Rattle.dspec_paths.specs.Words.{CallsMade, Decided, Did, is_same_id, Speculation, Places, IsNamed, IsUndecided, with_path, without_path, AdoptsPath, Commits, CommitsNewest, CommitsSo}
use Rattle.dspec_paths.specs.Words.{CommitsPart, DiscardsPath, DiscardsSo, GoesOnOrLost, KeepsPart, KeepsRest, KeepsPath, ThrowsAway, IsUnchanged, copied_by, loses_block, PathState, going, keeping}
use Rattle.dspec_paths.specs.Words.{kept, thrown_away, lost, PathBook, Became, NotCopied, NotThrown, IsHere, KeepsPaths, GoesOnTo, GoesTo, IsDecided, open_state}
use Rattle.dspec_paths.specs.declared.{open_path.OpenPath.OpenPath, path_end.PathEnd.PathEnd, path_key.PathKey.PathKey}
use Rattle.dspec_paths.specs.declared.path_end.PathEnd.TheVariants as path
use Rattle.dspec_paths.proofs.Deciding.{other_id, discard_copies_none, discard_throws_none, if_there_copies_none, if_there_throws_none, commit_copies_none, commit_throws_none, lost_copies_none}
use Rattle.dspec_paths.proofs.Moving.{becomes, changes, moved, state_here}

-- a book goes on as it is
pub goes_as_it_is : (book : PathBook) → GoesOnTo book book
goes_as_it_is book = record { owners = λ id some. refl; cut = λ id some is. is; decided = λ n i was. subst IsDecided (sym was) tt; over = λ n is. refl }

-- nothing was done
pub unchanged : (book : PathBook) (ps new : Places) (x y : CallsMade) → KeepsPaths book ps x.done → IsUnchanged x y ps new → GoesTo book new y.done
unchanged book ps new x y keeps (calls, places) =
    (book, goes_as_it_is book, subst (λ (z : CallsMade). KeepsPaths book new z.done) (sym calls) (subst (λ (qs : Places). KeepsPaths book qs x.done) (sym places) keeps))

-- of an undecided path nothing was copied
undecided_copied : (i : ℕ) (cut : Bool) (id : Speculation) (ds : List Did) → Became (going i) cut id ds → NotCopied id ds
undecided_copied i true id ds is = is
undecided_copied i false id ds is = is.0

pub state_undecided : (book : PathBook) (ps : Places) (ds : List Did) (k : PathKey) (p : OpenPath) → KeepsPaths book ps ds → IsUndecided k ps p → book.state (book.owner p.newest) ≡ going k.place
state_undecided book ps ds k p keeps (named, undecided) = (keeps.here k.place p named.0).state ∙ ap (λ (b : Bool). open_state b k.place) undecided

-- an identifier of another path is another
pub not_of : (book : PathBook) (id j : Speculation) → book.owner id ≢ book.owner j → is_same_id id j ≡ false
not_of book id j apart = other_id id j (λ e. apart (ap book.owner e))

throws : (book : PathBook) (ps new : Places) (k : PathKey) (p : OpenPath) (x y : CallsMade) → KeepsPaths book ps x.done → IsUndecided k ps p → ThrowsAway k p x y ps new → GoesTo book new y.done
throws book ps new k p x y keeps is_open (gone, d, z, first, last, places) =
    let n : ℕ = book.owner p.newest in
    let here = keeps.here k.place p is_open.0.0 in
    let state : book.state n ≡ going k.place = state_undecided book ps x.done k p keeps is_open in
    let copied : (id : Speculation) → NotCopied id x.done → NotCopied id y.done =
    λ id none. discard_copies_none id p.newest d z y last (if_there_copies_none id p.older gone x z first none) in
    let thrown : (id : Speculation) → book.owner id ≢ n → NotThrown id x.done → NotThrown id y.done =
    λ id apart none. discard_throws_none id p.newest d z y last (not_of book id p.newest apart)
    (if_there_throws_none id p.older gone x z first (λ j is. not_of book id j (λ e. apart (e ∙ (here.older j is).0))) none) in
    changes book ps new k p thrown_away None x.done y.done keeps is_open.0 places (λ is. absurd (true≢false (sym is ∙ is_open.1))) (λ q is. cc (is))
    (λ id own. copied id (undecided_copied k.place (book.is_cut id) id x.done (subst (λ (t : PathState). Became t (book.is_cut id) id x.done) (ap book.state own ∙ state) (keeps.became id))))
    (λ id apart. becomes (book.state (book.owner id)) (book.is_cut id) id x.done y.done (copied id) (thrown id apart) (keeps.became id))

pub discards : (book : PathBook) (ps new : Places) (k : PathKey) (a : Bool) (x y : CallsMade) → KeepsPaths book ps x.done → DiscardsPath k a x y ps new → GoesTo book new y.done
discards book ps new k true x y keeps (p, is_open, away) = throws book ps new k p x y keeps is_open away
discards book ps new k false x y keeps (none, same) = unchanged book ps new x y keeps same

-- ---- a path that is kept

-- what is so of a kept path's own
abbrev Kept : PathBook → Speculation → List Did → Type 0
Kept book id ds = Became kept (book.is_cut id) id ds

-- it is so of each open path's own
open_kept : (a : Bool) (i : ℕ) (cut : Bool) (id : Speculation) (ds : List Did) → Became (open_state a i) cut id ds → Became kept cut id ds
open_kept true i true id ds is = is
open_kept true i false id ds is = is
open_kept false i true id ds is = is
open_kept false i false id ds is = is.1

own_kept : (book : PathBook) (ps : Places) (ds : List Did) (k : PathKey) (p : OpenPath) → KeepsPaths book ps ds → IsNamed k ps p → (id : Speculation) → book.owner id ≡ book.owner p.newest
    → Kept book id ds
own_kept book ps ds k p keeps named id own =
    open_kept p.is_kept k.place (book.is_cut id) id ds
    (subst (λ (t : PathState). Became t (book.is_cut id) id ds) (ap book.state own ∙ (keeps.here k.place p named.0).state) (keeps.became id))

-- a commit of what isn't cut leaves it so
kept_cut : (cut : Bool) (id j : Speculation) (d : Decided) (x y : CallsMade) → CommitsSo j d x y → (cut ≡ true → is_same_id id j ≡ false) → Became kept cut id x.done → Became kept cut id y.done
kept_cut true id j d x y so other is = commit_copies_none id j d x y so (other refl) is
kept_cut false id j d x y so other is = commit_throws_none id j d x y so is

still_kept : (book : PathBook) (id j : Speculation) (d : Decided) (x y : CallsMade) → CommitsSo j d x y → book.is_cut j ≡ false → Kept book id x.done → Kept book id y.done
still_kept book id j d x y so whole is =
    kept_cut (book.is_cut id) id j d x y so (λ cut. other_id id j (λ e. true≢false (sym cut ∙ (ap book.is_cut e ∙ whole)))) is

-- and the others' are as they were
others_after : (book : PathBook) (id j : Speculation) (d : Decided) (x y : CallsMade) → CommitsSo j d x y → book.owner id ≢ book.owner j
    → Became (book.state (book.owner id)) (book.is_cut id) id x.done → Became (book.state (book.owner id)) (book.is_cut id) id y.done
others_after book id j d x y so apart is =
    becomes (book.state (book.owner id)) (book.is_cut id) id x.done y.done (commit_copies_none id j d x y so (not_of book id j apart)) (commit_throws_none id j d x y so) is

decided_open : (a : Bool) (i : ℕ) → a ≡ true → IsDecided (open_state a i)
decided_open true i is = tt
decided_open false i is = absurd (true≢false (sym is))

pub some_inside : (q r : OpenPath) → Some q ≡ Some r → q ≡ r
some_inside q r e = cc (e)

older_was : (now was : Option Speculation) → ((now ≡ was) ⊎ (now ≡ None)) → (id : Speculation) → now ≡ Some id → was ≡ Some id
older_was now was (inl same) id at = sym same ∙ at
older_was now was (inr none) id at = cc (none, at)

-- what has older records isn't decided
not_kept : (b : Bool) (o : Option Speculation) (j : Speculation) → o ≡ Some j → (b ≡ true → o ≡ None) → b ≡ false
not_kept true o j is last = let none : o ≡ None = last refl in cc (none, is)
not_kept false o j is last = refl

keeping_own : (cut : Bool) (i : ℕ) (id : Speculation) (ds : List Did) → Became kept cut id ds → Became (keeping i) cut id ds
keeping_own true i id ds is = is
keeping_own false i id ds is = is

-- the path that stays is here, where it is as before but for what is older
stays_here : (book : PathBook) (ps : Places) (ds : List Did) (k : PathKey) (p q : OpenPath) → KeepsPaths book ps ds → IsNamed k ps p → q.newest ≡ p.newest → ((q.older ≡ p.older) ⊎ (q.older ≡ None))
    → (q.is_kept ≡ true → q.older ≡ None) → (r : OpenPath) → Some q ≡ Some r → IsHere (moved book (book.owner p.newest) (open_state q.is_kept k.place)) k.place r
stays_here book ps ds k p q keeps named newest older last r is =
    let here = keeps.here k.place p named.0 in
    let n : ℕ = book.owner p.newest in
    let later : PathBook = moved book n (open_state q.is_kept k.place) in
    let of_older : (id : Speculation) → q.older ≡ Some id → p.older ≡ Some id = older_was q.older p.older older in
    let one : IsHere later k.place q = record {
      state = ap later.state (ap book.owner newest) ∙ state_here book n (open_state q.is_kept k.place);
      newest = ap book.is_cut newest ∙ here.newest;
      older = λ id at. ((here.older id (of_older id at)).0 ∙ ap book.owner (sym newest), (here.older id (of_older id at)).1);
      apart = λ e. here.apart (of_older p.newest (e ∙ ap Some newest));
      last = last;
    } in
    subst (λ (v : OpenPath). IsHere later k.place v) (some_inside q r is) one

-- the path stays, and each CPU's calls did what leaves what became of all
stays : (book : PathBook) (ps new : Places) (k : PathKey) (p q : OpenPath) (x y : CallsMade) → KeepsPaths book ps x.done → IsNamed k ps p → new ≡ with_path k q ps → q.newest ≡ p.newest
    → q.older ≡ p.older → q.is_kept ≡ p.is_kept → y.done ≡ x.done → GoesTo book new y.done
stays book ps new k p q x y keeps named places newest older as_kept same =
    let n : ℕ = book.owner p.newest in
    let here = keeps.here k.place p named.0 in
    changes book ps new k p (open_state q.is_kept k.place) (Some q) x.done y.done keeps named places (λ is. decided_open q.is_kept k.place (as_kept ∙ is))
    (stays_here book ps x.done k p q keeps named newest (inl older) (λ is. older ∙ here.last (sym as_kept ∙ is)))
    (λ id own. subst (λ (ds : List Did). Became (open_state q.is_kept k.place) (book.is_cut id) id ds) (sym same)
    (subst (λ (t : PathState). Became t (book.is_cut id) id x.done) (ap book.state own ∙ (here.state ∙ ap (λ (b : Bool). open_state b k.place) (sym as_kept))) (keeps.became id)))
    (λ id apart. subst (λ (ds : List Did). Became (book.state (book.owner id)) (book.is_cut id) id ds) (sym same) (keeps.became id))

pub adopts : (book : PathBook) (ps new : Places) (k : PathKey) (thread : ℕ) (a : Bool) (x : CallsMade) → KeepsPaths book ps x.done → AdoptsPath k thread a ps new → GoesTo book new x.done
adopts book ps new k thread true x keeps (p, named, places) = stays book ps new k p (record p { thread = thread }) x x keeps named places refl refl refl refl
adopts book ps new k thread false x keeps (none, same) = unchanged book ps new x x keeps (refl, same)

-- a path that is over, and kept
ends_kept : (book : PathBook) (ps new : Places) (k : PathKey) (p : OpenPath) (x y : CallsMade) → KeepsPaths book ps x.done → IsNamed k ps p → new ≡ without_path k ps
    → ((id : Speculation) → book.owner id ≡ book.owner p.newest → Kept book id x.done → Kept book id y.done)
    → ((id : Speculation) → book.owner id ≢ book.owner p.newest → Became (book.state (book.owner id)) (book.is_cut id) id x.done → Became (book.state (book.owner id)) (book.is_cut id) id y.done)
    → GoesTo book new y.done
ends_kept book ps new k p x y keeps named places own others =
    changes book ps new k p kept None x.done y.done keeps named places (λ is. tt) (λ q is. cc (is))
    (λ id of_it. own id of_it (own_kept book ps x.done k p keeps named id of_it))
    (λ id apart. others id apart (keeps.became id))

-- its last speculation is committed, or waits
newest_kept : (lacks : Speculation → Type 0) (waits : Bool) (n : ℕ) (book : PathBook) (ps new : Places) (k : PathKey) (p : OpenPath) (a : PathEnd) (x y : CallsMade)
    → KeepsPaths book ps x.done → IsNamed k ps p → CommitsNewest lacks waits n k p a x y ps new → GoesTo book new y.done
newest_kept lacks waits n book ps new k p a x y keeps named (inl (wait, asked, none, calls, places)) =
    stays book ps new k p p x y keeps named places refl refl refl (ap (λ (z : CallsMade). z.done) calls)
newest_kept lacks waits n book ps new k p a x y keeps named (inr (d, ended, none, so, places)) =
    let whole = (keeps.here k.place p named.0).newest in
    ends_kept book ps new k p x y keeps named places (λ id of_it is. still_kept book id p.newest d x y so whole is) (λ id apart is. others_after book id p.newest d x y so apart is)

-- its older one was committed, and lost: it is lost as a whole
older_lost : (book : PathBook) (ps new : Places) (k : PathKey) (p : OpenPath) (j : Speculation) (d e : Decided) (x z y : CallsMade) → KeepsPaths book ps x.done → IsNamed k ps p → p.older ≡ Some j
    → CommitsSo j d x z → loses_block d ≡ true → DiscardsSo p.newest e z y → new ≡ without_path k ps → GoesTo book new y.done
older_lost book ps new k p j d e x z y keeps named older so lost_block last places =
    let n : ℕ = book.owner p.newest in
    let here = keeps.here k.place p named.0 in
    let going_on : p.is_kept ≡ false = not_kept p.is_kept p.older j older here.last in
    let state : book.state n ≡ going k.place = here.state ∙ ap (λ (b : Bool). open_state b k.place) going_on in
    let copied : (id : Speculation) → NotCopied id x.done → NotCopied id y.done = λ id none. discard_copies_none id p.newest e z y last (lost_copies_none id j d x z so lost_block none) in
    let thrown : (id : Speculation) → book.owner id ≢ n → NotThrown id x.done → NotThrown id y.done =
    λ id apart none. discard_throws_none id p.newest e z y last (not_of book id p.newest apart) (commit_throws_none id j d x z so none) in
    changes book ps new k p lost None x.done y.done keeps named places (λ is. tt) (λ q is. cc (is))
    (λ id own. copied id (undecided_copied k.place (book.is_cut id) id x.done (subst (λ (t : PathState). Became t (book.is_cut id) id x.done) (ap book.state own ∙ state) (keeps.became id))))
    (λ id apart. becomes (book.state (book.owner id)) (book.is_cut id) id x.done y.done (copied id) (thrown id apart) (keeps.became id))

-- its older one was committed, and its last waits, or is committed too
older_kept : (lacks : Speculation → Type 0) (waits : Bool) (n : ℕ) (book : PathBook) (ps new : Places) (k : PathKey) (p : OpenPath) (a : PathEnd) (j : Speculation) (d : Decided)
    (x z y : CallsMade) → KeepsPaths book ps x.done → IsNamed k ps p → p.older ≡ Some j → CommitsSo j d x z → CommitsNewest lacks waits n k (record p { older = None; is_kept = true }) a z y ps new
    → GoesTo book new y.done
older_kept lacks waits n book ps new k p a j d x z y keeps named older so (inl (wait, asked, none, calls, places)) =
    let q : OpenPath = record p { older = None; is_kept = true } in
    let here = keeps.here k.place p named.0 in
    let of_older = here.older j older in
    let same : y.done ≡ z.done = ap (λ (w : CallsMade). w.done) calls in
    changes book ps new k p (keeping k.place) (Some q) x.done y.done keeps named places (λ is. tt) (stays_here book ps x.done k p q keeps named refl (inr refl) (λ is. refl))
    (λ id of_it. keeping_own (book.is_cut id) k.place id y.done
    (subst (λ (ds : List Did). Became kept (book.is_cut id) id ds) (sym same) (still_kept book id j d x z so of_older.1 (own_kept book ps x.done k p keeps named id of_it))))
    (λ id apart. subst (λ (ds : List Did). Became (book.state (book.owner id)) (book.is_cut id) id ds) (sym same)
    (others_after book id j d x z so (λ e. apart (e ∙ of_older.0)) (keeps.became id)))
older_kept lacks waits n book ps new k p a j d x z y keeps named older so (inr (e, ended, none, last, places)) =
    let here = keeps.here k.place p named.0 in
    let of_older = here.older j older in
    ends_kept book ps new k p x y keeps named places
    (λ id of_it is. still_kept book id p.newest e z y last here.newest (still_kept book id j d x z so of_older.1 is))
    (λ id apart is. others_after book id p.newest e z y last apart (others_after book id j d x z so (λ same. apart (same ∙ of_older.0)) is))

goes_by : (lacks : Speculation → Type 0) (waits : Bool) (book : PathBook) (ps new : Places) (k : PathKey) (p : OpenPath) (a : PathEnd) (j : Speculation) (d : Decided) (x z y : CallsMade)
    (n : ℕ) (b : Bool) → loses_block d ≡ b → KeepsPaths book ps x.done → IsNamed k ps p → p.older ≡ Some j → CommitsSo j d x z
    → KeepsRest lacks waits b n k (record p { older = None; is_kept = true }) a z y ps new → GoesTo book new y.done
goes_by lacks waits book ps new k p a j d x z y n true is keeps named older so ((e, whole, last), places) = older_lost book ps new k p j d e x z y keeps named older so is last places
goes_by lacks waits book ps new k p a j d x z y n false is keeps named older so newest = older_kept lacks waits n book ps new k p a j d x z y keeps named older so newest

commits : (lacks : Speculation → Type 0) (waits : Bool) (book : PathBook) (ps new : Places) (k : PathKey) (p : OpenPath) (a : PathEnd) (x y : CallsMade) (o : Option Speculation) → p.older ≡ o
    → KeepsPaths book ps x.done → IsNamed k ps p → Commits lacks waits o k p a x y ps new → GoesTo book new y.done
commits lacks waits book ps new k p a x y None older keeps named newest = newest_kept lacks waits 0 book ps new k p a x y keeps named newest
commits lacks waits book ps new k p a x y (Some j) older keeps named (inl (wait, asked, none, calls, places)) = unchanged book ps new x y keeps (calls, places)
commits lacks waits book ps new k p a x y (Some j) older keeps named (inr (d, z, none, so, on)) =
    goes_by lacks waits book ps new k p a j d x z y (copied_by d) (loses_block d) refl keeps named older so on

pub keeps_on : (lacks : Speculation → Type 0) (waits : Bool) (book : PathBook) (ps new : Places) (k : PathKey) (a : PathEnd) (x y : CallsMade) → KeepsPaths book ps x.done
    → KeepsPath lacks waits k a x y ps new → GoesTo book new y.done
keeps_on lacks waits book ps new k a x y keeps (inl (is_over, none, same)) = unchanged book ps new x y keeps same
keeps_on lacks waits book ps new k a x y keeps (inr (p, named, on)) = commits lacks waits book ps new k p a x y p.older refl keeps named on

goes_on_by : (book : PathBook) (ps new : Places) (k : PathKey) (p : OpenPath) (a : PathEnd) (j : Speculation) (d : Decided) (x z y : CallsMade) (n : ℕ) (b : Bool)
    → loses_block d ≡ b → KeepsPaths book ps x.done → IsNamed k ps p → p.older ≡ Some j → CommitsSo j d x z
    → GoesOnOrLost b n k (record p { older = None; is_kept = true }) a z y ps new → GoesTo book new y.done
goes_on_by book ps new k p a j d x z y n true is keeps named older so ((e, whole, last), places) = older_lost book ps new k p j d e x z y keeps named older so is last places
goes_on_by book ps new k p a j d x z y n false is keeps named older so (goes, calls, places) =
    older_kept (λ (id : Speculation). Unit {0}) true n book ps new k p (path.Waits n) j d x z y keeps named older so (inl (refl, refl, tt, calls, places))

commits_part : (lacks : Speculation → Type 0) (waits : Bool) (book : PathBook) (ps new : Places) (k : PathKey) (p : OpenPath) (a : PathEnd) (x y : CallsMade) (o : Option Speculation)
    → p.older ≡ o → KeepsPaths book ps x.done → IsNamed k ps p → CommitsPart lacks waits o k p a x y ps new → GoesTo book new y.done
commits_part lacks waits book ps new k p a x y None older keeps named newest = newest_kept lacks waits 0 book ps new k p a x y keeps named newest
commits_part lacks waits book ps new k p a x y (Some j) older keeps named (inl (wait, asked, none, calls, places)) = unchanged book ps new x y keeps (calls, places)
commits_part lacks waits book ps new k p a x y (Some j) older keeps named (inr (d, z, none, so, on)) =
    goes_on_by book ps new k p a j d x z y (copied_by d) (loses_block d) refl keeps named older so on

pub part_keeps_on : (lacks : Speculation → Type 0) (waits : Bool) (book : PathBook) (ps new : Places) (k : PathKey) (a : PathEnd) (x y : CallsMade) → KeepsPaths book ps x.done
    → KeepsPart lacks waits k a x y ps new → GoesTo book new y.done
part_keeps_on lacks waits book ps new k a x y keeps (inl (is_over, none, same)) = unchanged book ps new x y keeps same
part_keeps_on lacks waits book ps new k a x y keeps (inr (p, named, on)) = commits_part lacks waits book ps new k p a x y p.older refl keeps named on
