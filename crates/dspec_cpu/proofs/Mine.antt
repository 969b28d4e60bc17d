-- What the mark of a slot tells of an identifier: whether the CPU is a caller, where it isn't older than the mark.
use Rattle.std.proofs.Common.{◌≡◌, ℕ, ◌+◌, ◌==◌, ◌≤◌, ◌<◌, Bool, true, false, ◌&&◌, ◌||◌, List, [], ◌∷◌, Some, None, if◌then◌else◌, refl, sym, ap, ◌∙◌, subst, ⊎_elim, arith, true≢false}
use Rattle.std.proofs.lemmas.Bool.Decides.{nat_tests}
use Rattle.std.specs.Prelude.{nat_lt}
use Rattle.dspec_cpu.specs.Words.{Speculation, spoken_granted, spoken_stopped, same_id, is_among, joined, callers, issue, part, IsSound, mark, held, bare, Config, Cpu, Deed, Speculate}
use Rattle.dspec_deeds.proofs.{Emptied.callers_hold, Emptied.past_empty, Marks.mark_tells, Marks.mark_part, OwnReads.reads, OwnReads.apart_bare, PresentIds.open_is_now, SoundLists.granted_goes}
use Rattle.dspec_deeds.proofs.{SoundLists.answered_open, TestLemmas.either_way, TestLemmas.off, TestLemmas.and_tells, TestLemmas.same_number, TestLemmas.number_is_itself, TestLemmas.same_id_tells}
use Rattle.dspec_deeds.proofs.{TestLemmas.id_is_itself, TestLemmas.has_joined}

-- who was granted a speculation last is a caller of it
pub marked_among : (c : ℕ) (id : Speculation) (h : List Deed) → mark c id.slot h ≡ id.issue + 1 → is_among c (callers id h) ≡ true
marked_among c id [] e = absurd (omega arith)
marked_among c id (Speculate a j r f ∷ h) e = grind (arith, nat_tests, marked_among c id h, has_joined, same_number, id_is_itself)
marked_among c id (d ∷ h) e = marked_among c id h e

-- a caller's mark isn't older than the speculation
pub among_marked : (k : Config) (c : ℕ) (id : Speculation) (h : List Deed) → IsSound k h → is_among c (callers id h) ≡ true → id.issue + 1 ≤ mark c id.slot h
among_marked k c id [] s e = absurd (true≢false (sym e))
among_marked k c id (Speculate a j r f ∷ h) s e = go (spoken_granted f) refl (c == a) refl (id.slot == j.slot) refl (among_marked k c id h s.0) e
  where
    only : (b : Bool) → (b ≡ true → (c == a) ≡ false) → is_among c (joined (if b then Some a else None) (callers id h)) ≡ true → is_among c (callers id h) ≡ true
    only false un t = t
    only true un t = ap (λ b. b || is_among c (callers id h)) (sym (un refl)) ∙ (sym (has_joined c a (callers id h)) ∙ t)

    go : (g : Bool) → spoken_granted f ≡ g → (b : Bool) → (c == a) ≡ b → (n : Bool) → (id.slot == j.slot) ≡ n → (is_among c (callers id h) ≡ true → id.issue + 1 ≤ mark c id.slot h)
        → is_among c (joined (if g && same_id id j then Some a else None) (callers id h)) ≡ true → id.issue + 1 ≤ (if g && (b && n) then j.issue + 1 else mark c id.slot h)
    go false gis b bis n nis ih q = ih q
    go true gis false bis n nis ih q = ih (only (same_id id j) (λ t. bis) q)
    go true gis true bis false nis ih q = ih (only (same_id id j) (λ t. absurd (true≢false (sym (and_tells (id.issue == j.issue) (id.slot == j.slot) t).1 ∙ nis))) q)
    go true gis true bis true nis ih q = ⊎_elim
        (λ (t : same_id id j ≡ true). let now = ap (λ (x : Speculation). x.issue) (same_id_tells id j t) in omega arith)
        (λ (other : same_id id j ≡ false).
        let was : is_among c (callers id h) ≡ true = subst (λ b. is_among c (joined (if b then Some a else None) (callers id h)) ≡ true) other q in
        let low = ih was in
        let most = (mark_tells k c id.slot h s.0).bound in
        let opened_now = answered_open h a j (spoken_stopped f) (spoken_granted f) (granted_goes f gis) gis s.1.1.1 in
        let issues = open_is_now k h j s.0 opened_now in
        let at : issue id.slot h ≡ issue j.slot h = ap (λ n. issue n h) (same_number id.slot j.slot nis) in
        omega arith)
        (either_way (same_id id j))
among_marked k c id (d ∷ h) s e = among_marked k c id h s.0 e

-- so the mark tells, where the identifier isn't older than it
pub mine_tells : (k : Config) (c : ℕ) (id : Speculation) (h : List Deed) → IsSound k h → mark c id.slot h ≤ id.issue + 1 → (mark c id.slot h == id.issue + 1) ≡ is_among c (callers id h)
mine_tells k c id h s le = grind (arith, nat_tests, marked_among, same_number, among_marked, off, number_is_itself)

-- the same of the CPU's own list, which is its part of a legal one
pub own_mine_tells : (k : Config) (c : ℕ) (id : Speculation) (h own : List Deed) → IsSound k h → part (Cpu c) h ≡ own → mark c id.slot own ≤ id.issue + 1
    → (mark c id.slot own == id.issue + 1) ≡ is_among c (callers id own)
own_mine_tells k c id h own s its le =
    let marks : mark c id.slot own ≡ mark c id.slot h = ap (mark c id.slot) (sym its) ∙ mark_part c id.slot h in
    let calls : is_among c (callers id own) ≡ is_among c (callers id h) = ap (λ l. is_among c (callers id l)) (sym its) ∙ (reads k c h).apart.called id in
    ap (λ m. m == id.issue + 1) marks ∙ (mine_tells k c id h s (subst (λ m. m ≤ id.issue + 1) marks le) ∙ sym calls)

-- where the CPU isn't marked for the speculation, it holds nothing of it: of an older one, since it was released; else it is no caller
pub unmarked_holds : (k : Config) (c : ℕ) (id : Speculation) (h : List Deed) → c < k.cpus → IsSound k h → (mark c id.slot h == id.issue + 1) ≡ false → held c id h ≡ []
unmarked_holds k c id h few s none = ⊎_elim
    (λ (past : nat_lt id.issue (issue id.slot h) ≡ true). past_empty k c id h few s (grind (arith, nat_tests)))
    (λ (here : nat_lt id.issue (issue id.slot h) ≡ false).
    let most = (mark_tells k c id.slot h s).bound in
    let le : mark c id.slot h ≤ id.issue + 1 = grind (arith, nat_tests) in
    callers_hold c id h (sym (mine_tells k c id h s le) ∙ none))
    (either_way (nat_lt id.issue (issue id.slot h)))

-- so it is by the CPU's own list, which without its Seals is its part of one
pub unmarked_empty : (k : Config) (c : ℕ) (id : Speculation) (h own p : List Deed) → c < k.cpus → IsSound k h → part (Cpu c) h ≡ own → bare p ≡ own
    → (mark c id.slot p == id.issue + 1) ≡ false → held c id p ≡ []
unmarked_empty k c id h own p few s its is none =
    let marks : mark c id.slot p ≡ mark c id.slot h = (apart_bare k c p).marking id.slot ∙ (ap (mark c id.slot) (is ∙ sym its) ∙ mark_part c id.slot h) in
    let un : (mark c id.slot h == id.issue + 1) ≡ false = ap (λ m. m == id.issue + 1) (sym marks) ∙ none in
    (apart_bare k c p).buffers id ∙ (ap (held c id) (is ∙ sym its) ∙ ((reads k c h).apart.buffers id ∙ unmarked_holds k c id h few s un))
