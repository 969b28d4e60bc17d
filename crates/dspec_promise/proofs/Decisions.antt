-- A decision in the list of deeds is one that a CPU of the session made, and the other way round.
use Rattle.std.proofs.Common.{arith, ◌≡◌, ℕ, Bool, true, false, ◌||◌, if◌then◌else◌, List, [], ◌∷◌, ◌++◌, refl, sym, ap, ◌∙◌, ⊎_elim, true≢false}
use Rattle.std.proofs.lemmas.Bool.Decides.{nat_tests}
use Rattle.dspec_promise.specs.Words.{Speculation, HasAuthors, done_by, did, all_did, commit, discard, Did, emptied, is_commit_of, is_discard_of, some, Happened, Config, DecideFate, Deed, Commit}
use Rattle.dspec_promise.specs.Words.{Discard}
use Rattle.dspec_deeds.specs.declared.deed.DecideFate.TheVariants as decide
use Rattle.dspec_deeds.specs.Fates as told
use Rattle.dspec_deeds.proofs.TestLemmas.{off, or_tells, or_true, number_is_itself}

-- of two lists, one has it
some_append : (test : Did → Bool) (xs ys : List Did) → some test (xs ++ ys) ≡ (some test xs || some test ys)
some_append test [] ys = refl
some_append test (x ∷ xs) ys = grind (arith, nat_tests, some_append test xs ys)

-- what was done before is still there
some_after : (test : Did → Bool) (c : ℕ) (d : Deed) (h : List Deed) → some test (did c h) ≡ true → some test (did c (d ∷ h)) ≡ true
some_after test c d h t = some_append test (done_by c d) (did c h) ∙ (ap (λ b. some test (done_by c d) || b) t ∙ or_true (some test (done_by c d)))

-- the page's test of a decision is the list's
commit_same : (a : ℕ) (id j : Speculation) (f : DecideFate) → is_commit_of id (emptied commit j f) ≡ told.commits id (Commit a j f)
commit_same a id j f = grind (arith, nat_tests)

discard_same : (a : ℕ) (id j : Speculation) (f : DecideFate) → is_discard_of id (emptied discard j f) ≡ told.discards id (Discard a j f)
discard_same a id j (decide.Thrown n) = refl
discard_same a id j f = refl

-- one of the CPUs made the decision
pub committed_by : (k : Config) (id : Speculation) (h : List Deed) → HasAuthors k h → told.has_commit id h ≡ true → Happened k.cpus (all_did h) (is_commit_of id)
committed_by k id [] a t = absurd (true≢false (sym t))
committed_by k id (d ∷ h) a t = ⊎_elim
    (λ (now : told.commits id d ≡ true). first d a now)
    (λ (before : told.has_commit id h ≡ true). let was = committed_by k id h a.0 before in (was.0, was.1, some_after (is_commit_of id) was.0 d h was.2))
    (or_tells (told.commits id d) (told.has_commit id h) t)
  where
    first : (d : Deed) → HasAuthors k (d ∷ h) → told.commits id d ≡ true → Happened k.cpus (all_did (d ∷ h)) (is_commit_of id)
    first (Commit c j f) a now = (c, a.1 c refl, rw (number_is_itself c, commit_same c id j f ∙ now) refl)
    first d a now = absurd (true≢false (sym now))

pub discarded_by : (k : Config) (id : Speculation) (h : List Deed) → HasAuthors k h → told.has_discard id h ≡ true → Happened k.cpus (all_did h) (is_discard_of id)
discarded_by k id [] a t = absurd (true≢false (sym t))
discarded_by k id (d ∷ h) a t = ⊎_elim
    (λ (now : told.discards id d ≡ true). first d a now)
    (λ (before : told.has_discard id h ≡ true). let was = discarded_by k id h a.0 before in (was.0, was.1, some_after (is_discard_of id) was.0 d h was.2))
    (or_tells (told.discards id d) (told.has_discard id h) t)
  where
    first : (d : Deed) → HasAuthors k (d ∷ h) → told.discards id d ≡ true → Happened k.cpus (all_did (d ∷ h)) (is_discard_of id)
    first (Discard c j f) a now = (c, a.1 c refl, rw (number_is_itself c, discard_same c id j f ∙ now) refl)
    first d a now = absurd (true≢false (sym now))

-- if a CPU did it, and nobody else
only : (test : Did → Bool) (b : Bool) (x : Did) → some test (if b then x ∷ [] else []) ≡ true → test x ≡ true
only test true x t = grind (arith, nat_tests)
only test false x t = absurd (true≢false (sym t))

commit_now : (c : ℕ) (id : Speculation) (d : Deed) → some (is_commit_of id) (done_by c d) ≡ true → told.commits id d ≡ true
commit_now = grind (arith, nat_tests, commit_same, only)

discard_now : (c : ℕ) (id : Speculation) (d : Deed) → some (is_discard_of id) (done_by c d) ≡ true → told.discards id d ≡ true
discard_now = grind (arith, nat_tests, discard_same, only)

-- what a CPU did is in the list
pub has_committed : (c : ℕ) (id : Speculation) (h : List Deed) → some (is_commit_of id) (did c h) ≡ true → told.has_commit id h ≡ true
has_committed c id [] t = absurd (true≢false (sym t))
has_committed c id (d ∷ h) t = ⊎_elim
    (λ (now : some (is_commit_of id) (done_by c d) ≡ true). rw (commit_now c id d now) refl)
    (λ (before : some (is_commit_of id) (did c h) ≡ true). ap (λ b. told.commits id d || b) (has_committed c id h before) ∙ or_true (told.commits id d))
    (or_tells (some (is_commit_of id) (done_by c d)) (some (is_commit_of id) (did c h)) (sym (some_append (is_commit_of id) (done_by c d) (did c h)) ∙ t))

has_discarded : (c : ℕ) (id : Speculation) (h : List Deed) → some (is_discard_of id) (did c h) ≡ true → told.has_discard id h ≡ true
has_discarded c id [] t = absurd (true≢false (sym t))
has_discarded c id (d ∷ h) t = ⊎_elim
    (λ (now : some (is_discard_of id) (done_by c d) ≡ true). rw (discard_now c id d now) refl)
    (λ (before : some (is_discard_of id) (did c h) ≡ true). ap (λ b. told.discards id d || b) (has_discarded c id h before) ∙ or_true (told.discards id d))
    (or_tells (some (is_discard_of id) (done_by c d)) (some (is_discard_of id) (did c h)) (sym (some_append (is_discard_of id) (done_by c d) (did c h)) ∙ t))

-- and what is not in the list no CPU did
pub never_committed : (c : ℕ) (id : Speculation) (h : List Deed) → told.has_commit id h ≡ false → some (is_commit_of id) (did c h) ≡ false
never_committed c id h n = grind (arith, nat_tests, off, has_committed)

pub never_discarded : (c : ℕ) (id : Speculation) (h : List Deed) → told.has_discard id h ≡ false → some (is_discard_of id) (did c h) ≡ false
never_discarded c id h n = grind (arith, nat_tests, off, has_discarded)
