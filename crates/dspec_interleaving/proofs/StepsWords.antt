-- What a word that was shown tells of the exchange that expects it.
use Rattle.std.proofs.Common.{◌≡◌, ◌≢◌, ◌≤◌, ◌<◌, ◌==◌, ℕ, Bool, true, false, ◌&&◌, if◌then◌else◌, refl, sym, ap, ◌∙◌, subst, ⊎_elim, arith, true≢false}
use Rattle.std.proofs.lemmas.Bool.Decides.{nat_tests}
use Rattle.std.specs.Prelude.{nat_lt, nat_le}
use Rattle.dspec_interleaving.specs.Words.{Act, Void, Granted, Attempt, Idle, Code, Inactive, Active, ActiveOne, ActiveMany, Committing, CommittingMany, Discarding, code_number, is_inactive, awaits}
use Rattle.dspec_interleaving.specs.Words.{Speculation, SlotState, word_number, speculate_at, speculate_act, commit_at, commit_act, discard_at, discard_act, open_at, settle_at, same_word, is_alone}
use Rattle.dspec_interleaving.specs.Words.{is_release, released}
use Rattle.dspec_word.proofs.Numbers.{one_code, one_word}
use Rattle.dspec_deeds.proofs.TestLemmas.{either_way, off, and_tells, same_number, number_is_itself}

pub word_is_itself : (w : SlotState) → same_word w w ≡ true
word_is_itself w = let a = number_is_itself w.issue in let b = number_is_itself (code_number w.code) in rw (a, b) refl

-- equal words
pub same_word_tells : (v w : SlotState) → same_word v w ≡ true → v ≡ w
same_word_tells v w e =
    let both = and_tells (v.issue == w.issue) (code_number v.code == code_number w.code) e in
    let codes = one_code v.code w.code (same_number (code_number v.code) (code_number w.code) both.1) in
    λ i. record { issue = same_number v.issue w.issue both.0 i; code = codes i }

-- words are tested by their numbers, plays test them by their parts
pub words_test : (v w : SlotState) → (word_number v == word_number w) ≡ same_word v w
words_test v w = ⊎_elim
    (λ (e : same_word v w ≡ true). ap (λ x. word_number v == word_number x) (sym (same_word_tells v w e)) ∙ number_is_itself (word_number v) ∙ sym e)
    (λ e. ⊎_elim (λ t. t ∙ sym (ap (same_word v) (sym (one_word v w (same_number (word_number v) (word_number w) t))) ∙ word_is_itself v)) (λ f. f ∙ sym e)
    (either_way (word_number v == word_number w)))
    (either_way (same_word v w))

-- another word of the same issue that is no less has a greater code
pub code_rises : (from w : SlotState) (n : ℕ) → from.issue ≡ n → w.issue ≡ n → word_number from ≤ word_number w → same_word w from ≡ false → code_number from.code < code_number w.code
code_rises from w n a b le other = ⊎_elim
    (λ (t : (code_number w.code == code_number from.code) ≡ true).
    let now : (w.issue == from.issue) ≡ true = rw (a, b) (number_is_itself n) in
    let all : same_word w from ≡ true = rw (now, t) refl in
    off (same_word w from) all other)
    (λ (f : (code_number w.code == code_number from.code) ≡ false).
    let apart : code_number w.code ≢ code_number from.code = grind (arith, nat_tests) in
    let issues : w.issue ≡ from.issue = b ∙ sym a in
    omega arith)
    (either_way (code_number w.code == code_number from.code))

-- what a table attempts at a word of the identifier's issue, and at some codes
attempts_tell : (w to : SlotState) (id : Speculation) (most : ℕ) (table : Code → Act) → ((code : Code) → table code ≡ Attempt to → (1 ≤ code_number code) × (code_number code ≤ most))
    → (if w.issue == id.issue then table w.code else Void) ≡ Attempt to → (w.issue ≡ id.issue) × (1 ≤ code_number w.code) × (code_number w.code ≤ most)
attempts_tell w to id most table codes e = ⊎_elim
    (λ (t : (w.issue == id.issue) ≡ true).
    let code = codes w.code (subst (λ b. (if b then table w.code else Void) ≡ Attempt to) t e) in
    (same_number w.issue id.issue t, code.0, code.1))
    (λ (f : (w.issue == id.issue) ≡ false). absurd (cc (subst (λ b. (if b then table w.code else Void) ≡ Attempt to) f e)))
    (either_way (w.issue == id.issue))

pub speculate_tells : (w to : SlotState) (id : Speculation) (mine : Bool) → speculate_at w id mine ≡ Attempt to → (w.issue ≡ id.issue) × (1 ≤ code_number w.code) × (code_number w.code ≤ 2)
speculate_tells w to id mine e = attempts_tell w to id 2 (speculate_act w.issue mine) codes e
  where
    codes : (code : Code) → speculate_act w.issue mine code ≡ Attempt to → (1 ≤ code_number code) × (code_number code ≤ 2)
    codes Active e = (omega arith, omega arith)
    codes ActiveOne e = (omega arith, omega arith)
    codes code e = absurd (cc (e))

pub commit_tells : (w to : SlotState) (id : Speculation) (mine : Bool) → commit_at w id mine ≡ Attempt to → (w.issue ≡ id.issue) × (1 ≤ code_number w.code) × (code_number w.code ≤ 3)
commit_tells w to id mine e = attempts_tell w to id 3 (commit_act w.issue mine) codes e
  where
    codes : (code : Code) → commit_act w.issue mine code ≡ Attempt to → (1 ≤ code_number code) × (code_number code ≤ 3)
    codes Active e = (omega arith, omega arith)
    codes ActiveOne e = (omega arith, omega arith)
    codes ActiveMany e = (omega arith, omega arith)
    codes code e = absurd (cc (e))

pub discard_tells : (w to : SlotState) (id : Speculation) (mine : Bool) → discard_at w id mine ≡ Attempt to → (w.issue ≡ id.issue) × (1 ≤ code_number w.code) × (code_number w.code ≤ 3)
discard_tells w to id mine e = attempts_tell w to id 3 (discard_act w.issue mine) codes e
  where
    codes : (code : Code) → discard_act w.issue mine code ≡ Attempt to → (1 ≤ code_number code) × (code_number code ≤ 3)
    codes Active e = (omega arith, omega arith)
    codes ActiveOne e = (omega arith, omega arith)
    codes ActiveMany e = (omega arith, omega arith)
    codes code e = absurd (cc (e))

-- a call of speculate is never idle
pub speculate_not_idle : (w : SlotState) (id : Speculation) (mine : Bool) → speculate_at w id mine ≢ Idle
speculate_not_idle w id mine = go (w.issue == id.issue) mine w.code
  where
    go : (b m : Bool) (code : Code) → (if b then speculate_act w.issue m code else Void) ≢ Idle
    go false m code e = cc (e)
    go true true ActiveOne e = cc (e)
    go true false ActiveOne e = cc (e)
    go true m code e = cc (e)

-- the other tables attempt an exchange or do nothing
abbrev pub is_plain : Act → Bool
is_plain Void = true
is_plain (Attempt to) = true
is_plain act = false

pub commit_plain : (w : SlotState) (id : Speculation) (mine : Bool) → is_plain (commit_at w id mine) ≡ true
commit_plain w id mine = go (w.issue == id.issue) mine w.code
  where
    go : (b m : Bool) (code : Code) → is_plain (if b then commit_act w.issue m code else Void) ≡ true
    go false m code = refl
    go true true ActiveOne = refl
    go true false ActiveOne = refl
    go true m code = refl

pub discard_plain : (w : SlotState) (id : Speculation) (mine : Bool) → is_plain (discard_at w id mine) ≡ true
discard_plain w id mine = go (w.issue == id.issue) mine w.code
  where
    go : (b m : Bool) (code : Code) → is_plain (if b then discard_act w.issue m code else Void) ≡ true
    go false m code = refl
    go true true ActiveOne = refl
    go true false ActiveOne = refl
    go true m code = refl

pub open_plain : (w : SlotState) (most : ℕ) → is_plain (open_at w most) ≡ true
open_plain w most = go (is_inactive w.code && nat_lt w.issue most)
  where
    go : (b : Bool) → is_plain (if b then Attempt record { issue = w.issue; code = Active } else Void) ≡ true
    go true = refl
    go false = refl

-- such a table answers no other act
pub not_plain : {P : Type 0} (act is : Act) → is_plain act ≡ true → act ≡ is → is_plain is ≡ false → P
not_plain act is plain e none = off (is_plain act) plain (ap is_plain e ∙ none)

-- a commit that waits for no other CPU is attempted at an active word, or at its one caller's
pub alone_early : (w : SlotState) (id : Speculation) (mine : Bool) → is_alone (commit_at w id mine) ≡ true → code_number w.code ≤ 2
alone_early w id mine e = go (w.issue == id.issue) mine w.code e
  where
    go : (b m : Bool) (code : Code) → is_alone (if b then commit_act w.issue m code else Void) ≡ true → code_number code ≤ 2
    go true m Inactive e = omega arith
    go true m Active e = omega arith
    go true m ActiveOne e = omega arith
    go b m code e = absurd (true≢false (sym e))

-- the tests of the words that a commit and a discard attempt
pub code_alone : (i : ℕ) (b : Bool) → is_alone (Attempt record { issue = i; code = if b then Committing else CommittingMany }) ≡ b
code_alone i true = refl
code_alone i false = refl

pub word_releases : (i : ℕ) (b : Bool) → is_release (Attempt (if b then released i else record { issue = i; code = Discarding })) ≡ b
word_releases i true = refl
word_releases i false = refl

-- what a settlement is granted at
pub settle_tells : (w : SlotState) (acked : ℕ) → settle_at w acked ≡ Granted → (awaits w.code ≡ true) × (acked ≤ w.issue)
settle_tells w acked e =
    let both = and_tells (awaits w.code) (nat_le acked w.issue) (go (awaits w.code && nat_le acked w.issue) e) in
    let least = both.1 in
    (both.0, grind (arith, nat_tests))
  where
    go : (b : Bool) → (if b then Granted else Idle) ≡ Granted → b ≡ true
    go true e = refl
    go false e = absurd (cc (e))
