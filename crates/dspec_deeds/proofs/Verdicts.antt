-- A speculation is committed or discarded, and not both.
use Rattle.std.proofs.Common.{arith, ◌≡◌, true, false, ◌||◌, List, [], ◌∷◌, refl, sym, ap, ◌∙◌, ⊎_elim, true≢false}
use Rattle.std.proofs.lemmas.Bool.Decides.{nat_tests}
use Rattle.dspec_deeds.specs.Words.{Speculation, is_commit, is_discard, decided_stopped, same_id, opened, Ruling, undecided, committed, discarded, verdict, is_undecided, is_open, SettlesAs, Follows}
use Rattle.dspec_deeds.specs.Words.{IsSound, commits, discards, has_commit, has_discard}
use Rattle.dspec_deeds.specs.declared.{config.Config.Config, deed.DecideFate.DecideFate, deed.Deed.Deed, deed.Deed.TheVariants.Commit, deed.Deed.TheVariants.Discard}
use Rattle.dspec_deeds.proofs.SoundLists.{answered_open, commit_goes, discard_goes}
use Rattle.dspec_deeds.proofs.TestLemmas.{either_way, off, and_tells, or_tells, or_true, same_id_tells}

-- what a verdict says of the decisions in the list
abbrev pub Told : Ruling → Speculation → List Deed → Type 0
Told undecided id h = (has_commit id h ≡ false) × (has_discard id h ≡ false)
Told (committed c) id h = has_commit id h ≡ true
Told (discarded c) id h = has_discard id h ≡ true

-- a commit is never undone
pub commit_stays : (id : Speculation) (d : Deed) (h : List Deed) → has_commit id h ≡ true → has_commit id (d ∷ h) ≡ true
commit_stays id d h t = ap (λ b. commits id d || b) t ∙ or_true (commits id d)

-- a deed that decides nothing here leaves what is told
told_still : (v : Ruling) (id : Speculation) (d : Deed) (h : List Deed) → commits id d ≡ false → discards id d ≡ false → Told v id h → Told v id (d ∷ h)
told_still undecided id d h a b t = (rw a t.0, rw b t.1)
told_still (committed c) id d h a b t = commit_stays id d h t
told_still (discarded c) id d h a b t = ap (λ x. discards id d || x) t ∙ or_true (discards id d)

-- the verdict tells what was decided
pub verdict_told : (id : Speculation) (h : List Deed) → Told (verdict id h) id h
verdict_told id [] = (refl, refl)
verdict_told id (Commit c j f ∷ h) = grind (arith, nat_tests, verdict_told id h)
verdict_told id (Discard c j f ∷ h) = grind (arith, nat_tests, verdict_told id h)
verdict_told id (d ∷ h) = told_still (verdict id h) id d h refl refl (verdict_told id h)

-- what is open was neither committed nor discarded
open_undecided : (id j : Speculation) (h : List Deed) → same_id id j ≡ true → is_open j h ≡ true → (has_commit id h ≡ false) × (has_discard id h ≡ false)
open_undecided id j h e o = grind (arith, nat_tests, and_tells (opened j h) (is_undecided (verdict j h)) o, same_id_tells id j e, verdict_told id h)

-- a settlement that is of a commit
pub settled_commit : (v : Ruling) (id : Speculation) (h : List Deed) (f : DecideFate) → SettlesAs v f → is_discard f ≡ false → Told v id h → has_commit id h ≡ true
settled_commit undecided id h f s e t = absurd s
settled_commit (committed c) id h f s e t = t
settled_commit (discarded c) id h f s e t = absurd (true≢false (sym s ∙ e))

-- a commit is of what was neither committed nor discarded
committed_first : (k : Config) (id : Speculation) (d : Deed) (h : List Deed) → Follows k h d → commits id d ≡ true → (has_commit id h ≡ false) × (has_discard id h ≡ false) × (discards id d ≡ false)
committed_first k id (Commit c j f) h s t =
    let both = and_tells (is_commit f) (same_id id j) t in
    let none = open_undecided id j h both.1 (answered_open h c j (decided_stopped f) (is_commit f) (commit_goes f both.0) both.0 s.1.2) in
    (none.0, none.1, refl)
committed_first k id d h s t = absurd (true≢false (sym t))

-- a discard is of what was not committed
discarded_first : (k : Config) (id : Speculation) (d : Deed) (h : List Deed) → Follows k h d → discards id d ≡ true → has_commit id h ≡ false
discarded_first k id d h h1 h2 = grind (arith, nat_tests, and_tells, open_undecided, answered_open, discard_goes)

-- no speculation is both committed and discarded
pub one_decision : (k : Config) (id : Speculation) (h : List Deed) → IsSound k h → has_commit id h ≡ true → has_discard id h ≡ false
one_decision k id [] s t = refl
one_decision k id (d ∷ h) s t = ⊎_elim
    (λ (now : commits id d ≡ true). let first = committed_first k id d h s.1 now in rw (first.2, first.1) refl)
    (λ (before : has_commit id h ≡ true). ⊎_elim
    (λ (thrown : discards id d ≡ true). off (has_commit id h) before (discarded_first k id d h s.1 thrown))
    (λ (spared : discards id d ≡ false). rw (spared, one_decision k id h s.0 before) refl)
    (either_way (discards id d)))
    (or_tells (commits id d) (has_commit id h) t)
