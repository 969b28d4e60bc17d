-- What the tables do at the word that the list shows: the exchanges of speculate, commit and discard.
use Rattle.std.proofs.Common.{◌≡◌, ◌≢◌, ◌⊎◌, ℕ, Bool, true, false, ◌==◌, List, Some, if◌then◌else◌, arith}
use Rattle.std.proofs.lemmas.Bool.Decides.{nat_tests}
use Rattle.dspec_deeds.specs.Words.{Speculation, SlotState, released, speculate_at, commit_at, discard_at, is_among, issue, present, undecided, committed, verdict, is_open, callers, joined}
use Rattle.dspec_deeds.specs.Words.{standing, is_sole, code_at, word_at, IsSound, Void, Granted, Attempt, Code, Discarding}
use Rattle.dspec_deeds.specs.declared.{config.Config.Config, deed.Deed.Deed}
use Rattle.dspec_deeds.proofs.{PresentIds.open_is_present, PresentIds.present_is, TestLemmas.off, TestLemmas.same_number}

-- what a table does at the word of the slot, in the two cases of the issue
at_word : {A : Type 0} (id : Speculation) (h : List Deed) (table : Code → A) (void : A) (is : A)
    → (if issue id.slot h == id.issue then table (code_at (present id.slot h) h) else void) ≡ is
    → ((issue id.slot h ≡ id.issue) × (table (code_at id h) ≡ is)) ⊎ ((issue id.slot h ≢ id.issue) × (void ≡ is))
at_word id h table void is e = grind (arith, nat_tests, same_number, present_is, off)

-- a speculate that the table ends names no open speculation
pub speculate_void : (k : Config) (h : List Deed) (id : Speculation) (mine : Bool) → IsSound k h → speculate_at (word_at id.slot h) id mine ≡ Void → is_open id h ≡ false
speculate_void k h id mine s e = grind (arith, nat_tests, open_is_present, at_word)

-- granted at a load: it is open, and one more caller moves no word
pub speculate_granted : (k : Config) (h : List Deed) (id : Speculation) (c : ℕ) → IsSound k h → speculate_at (word_at id.slot h) id (is_among c (callers id h)) ≡ Granted
    → (is_open id h ≡ true) × (standing (verdict id h) (joined (Some c) (callers id h)) ≡ standing (verdict id h) (callers id h))
speculate_granted k h id c s e = grind arith

-- an exchange that the table attempts: it is open, and the new word has one more caller
pub speculate_attempt : (k : Config) (h : List Deed) (id : Speculation) (c : ℕ) (new : SlotState) → IsSound k h → speculate_at (word_at id.slot h) id (is_among c (callers id h)) ≡ Attempt new
    → (issue id.slot h ≡ id.issue) × (is_open id h ≡ true) × (new ≡ record { issue = issue id.slot h; code = standing undecided (joined (Some c) (callers id h)) })
speculate_attempt k h id c new s e = grind arith

-- a commit that the table ends names no open speculation
pub commit_void : (k : Config) (h : List Deed) (id : Speculation) (mine : Bool) → IsSound k h → commit_at (word_at id.slot h) id mine ≡ Void → is_open id h ≡ false
commit_void k h id mine s e = grind (arith, nat_tests, open_is_present, at_word)

-- a discard that the table ends names no open speculation
pub discard_void : (k : Config) (h : List Deed) (id : Speculation) (mine : Bool) → IsSound k h → discard_at (word_at id.slot h) id mine ≡ Void → is_open id h ≡ false
discard_void k h id mine s e = grind (arith, nat_tests, open_is_present, at_word)

-- a commit that the table attempts: the speculation is open, and the new word has the decision
pub commit_attempt : (k : Config) (h : List Deed) (id : Speculation) (c : ℕ) (new : SlotState) → IsSound k h → commit_at (word_at id.slot h) id (is_among c (callers id h)) ≡ Attempt new
    → (issue id.slot h ≡ id.issue) × (is_open id h ≡ true) × (new ≡ record { issue = issue id.slot h; code = standing (committed c) (callers id h) })
commit_attempt k h id c new s e = grind arith

-- a discard by the one caller releases the slot; another marks it
pub discard_attempt : (k : Config) (h : List Deed) (id : Speculation) (c : ℕ) (new : SlotState) → IsSound k h → discard_at (word_at id.slot h) id (is_among c (callers id h)) ≡ Attempt new
    → (issue id.slot h ≡ id.issue) × (is_open id h ≡ true)
    × (new ≡ (if is_sole c (callers id h) then released (issue id.slot h) else record { issue = issue id.slot h; code = Discarding }))
discard_attempt k h id c new s e = grind arith
