-- The issues that a list shows are within the configuration's limit, and so fit a word.
use Rattle.std.proofs.Common.{◌≡◌, ℕ, suc, ◌<◌, ◌≤◌, ◌%◌, ◌/◌, ◌^◌, true, false, not, true≢false, List, [], ◌∷◌, refl, ap, ◌∙◌, sym, subst, ⊎_elim, arith}
use Rattle.std.proofs.lemmas.Bool.Decides.{nat_tests}
use Rattle.std.specs.Prelude.{nat_lt}
use Rattle.dspec_table.specs.Words.{Speculation, SlotState, word_number, CanBeReleased, opens, opened, issue, present, releases, verdict, is_undecided, word_at, IsSound, Follows, Found}
use Rattle.dspec_table.specs.Words.{IsWordNumber, Config, Deed, Opened, Release}
use Rattle.dspec_table.specs.declared.rule.View.{View}
use Rattle.dspec_deeds.proofs.{PresentIds.decided_given, TestLemmas.either_way, TestLemmas.or_tells, TestLemmas.and_tells, TestLemmas.same_id_tells, TestLemmas.same_number}
use Rattle.dspec_word.proofs.Numbers.{code_below, one_word}

-- what was given out has an issue below the most
pub issue_below : (k : Config) (h : List Deed) (id : Speculation) → IsSound k h → opened id h ≡ true → id.issue < k.max_issues
issue_below k (d ∷ h) id s e = ⊎_elim
    (λ (t : opens id d ≡ true). go d s.1 t)
    (λ (t : opened id h ≡ true). issue_below k h id s.0 t)
    (or_tells (opens id d) (opened id h) e)
  where
    go : (d : Deed) → Follows k h d → opens id d ≡ true → id.issue < k.max_issues
    go (Opened c j) f t =
        let free = f.1.2 in
        let is = same_id_tells id j t in
        let below = (and_tells (not (opened (present j.slot h) h)) (nat_lt (issue j.slot h) k.max_issues) free).1 in
        let now = f.1.3 in
        let less : j.issue < k.max_issues = grind (arith, nat_tests) in
        subst (λ (x : Speculation). x.issue < k.max_issues) (sym is) less
    go d f t = absurd (true≢false (sym t))
issue_below k [] id s e = absurd (true≢false (sym e))

released_decided : (k : Config) (s : ℕ) (d : Deed) (h : List Deed) → Follows k h d → releases s d ≡ true → is_undecided (verdict (present s h) h) ≡ false
released_decided k s (Release n) h f t = subst (λ (x : ℕ). is_undecided (verdict (present x h) h) ≡ false) (sym (same_number s n t)) f.1.0.0
released_decided k s d h f t = absurd (true≢false (sym t))

-- a slot is released that many times at most
pub issue_within : (k : Config) (s : ℕ) (h : List Deed) → IsSound k h → issue s h ≤ k.max_issues
issue_within k s [] sound = omega arith
issue_within k s (d ∷ h) sound = ⊎_elim
    (λ (t : releases s d ≡ true).
    let given = decided_given k h (present s h) sound.0 (released_decided k s d h sound.1 t) in
    let less = issue_below k h (present s h) sound.0 given in
    let up : issue s (d ∷ h) ≡ suc (issue s h) = rw t refl in
    omega arith)
    (λ (f : releases s d ≡ false). let same : issue s (d ∷ h) ≡ issue s h = rw f refl in let before = issue_within k s h sound.0 in omega arith)
    (either_way (releases s d))

-- the word that is shown can be released
pub released_yet : (k : Config) (s : ℕ) (h : List Deed) → k.max_issues ≤ 2 ^ 57 → IsSound k h → CanBeReleased (word_at s h)
released_yet k s h most sound = grind (arith, nat_tests, issue_below)

-- the number of the word that is shown
pub shown_number : (k : Config) (s : ℕ) (h : List Deed) → k.max_issues ≤ 2 ^ 57 → IsSound k h → IsWordNumber (word_number (word_at s h))
shown_number k s h most sound = grind (arith, nat_tests, code_below, issue_within, released_yet)

-- so it is read back as one
pub reads_word : (n : ℕ) → IsWordNumber n → (n % 8 < 7) × (n / 8 ≤ 2 ^ 57)
reads_word n is = let small = is.1 in (is.0, omega arith)

-- the number that a step found is that of a word, which can be released
module _ (v : View) (log : List Deed) (s n : ℕ) (shown : SlotState) (most : v.config.max_issues ≤ 2 ^ 57) (found : Found v log) (is : n ≡ word_number shown) (at : shown ≡ word_at s log) where
  pub finds_word : (n % 8 < 7) × (n / 8 ≤ 2 ^ 57)
  finds_word = reads_word n (subst IsWordNumber (ap word_number (sym at) ∙ sym is) (shown_number v.config s log most found.sound))

  pub finds_limit : (w : SlotState) → word_number w ≡ n → CanBeReleased w
  finds_limit w same = subst CanBeReleased (sym (one_word w (word_at s log) (same ∙ (is ∙ ap word_number at)))) (released_yet v.config s log most found.sound)
