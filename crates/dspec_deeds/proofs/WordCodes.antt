-- What the code of the word that the list shows tells.
use Rattle.std.proofs.Common.{arith, ◌≡◌, ℕ, Bool, true, false, not, ◌&&◌, List, [], ◌∷◌, Some, None, if◌then◌else◌, refl, ap}
use Rattle.std.proofs.lemmas.Bool.Decides.{nat_tests}
use Rattle.std.specs.Prelude.{nat_lt}
use Rattle.dspec_deeds.specs.Words.{SlotState, is_inactive, is_decided, awaits, open_at, issue, present, opened, Ruling, undecided, committed, discarded, verdict, is_undecided, callers, standing}
use Rattle.dspec_deeds.specs.Words.{word_at, solo, is_free, is_busy, IsSound, Void, Attempt, Inactive, Active, Committing}
use Rattle.dspec_deeds.specs.declared.{config.Config.Config, deed.Deed.Deed}
use Rattle.dspec_deeds.proofs.{PresentIds.decided_given, SoundLists.unseen}

-- a code of the list's is inactive where the speculation was not given out
inactive_is : (o : Bool) (v : Ruling) (cs : List ℕ) → is_inactive (if o then standing v cs else Inactive) ≡ not o
inactive_is false v cs = refl
inactive_is true undecided [] = refl
inactive_is true undecided (x ∷ []) = refl
inactive_is true undecided (x ∷ y ∷ zs) = refl
inactive_is true (committed a) cs = grind (arith, nat_tests)
inactive_is true (discarded a) cs = refl

-- a code of the list's is decided where the speculation is
decided_is : (v : Ruling) (cs : List ℕ) → is_decided (standing v cs) ≡ not (is_undecided v)
decided_is v cs = grind arith

-- the word is inactive exactly where the present speculation was not given out
pub word_inactive : (s : ℕ) (h : List Deed) → is_inactive (word_at s h).code ≡ not (opened (present s h) h)
word_inactive s h = inactive_is (opened (present s h) h) (verdict (present s h) h) (callers (present s h) h)

-- an inactive word says that the present speculation was not given out
pub code_inactive : (h : List Deed) (s : ℕ) → is_inactive (word_at s h).code ≡ true → opened (present s h) h ≡ false
code_inactive h s e = grind arith

-- the word is decided exactly where the slot is busy
pub busy_is : (k : Config) (h : List Deed) (s : ℕ) → IsSound k h → is_decided (word_at s h).code ≡ is_busy s h
busy_is k h s sound = grind (arith, nat_tests, decided_is, unseen)

-- the word can be opened exactly where the slot is free
pub free_is : (k : Config) (h : List Deed) (s : ℕ) → (is_inactive (word_at s h).code && nat_lt (issue s h) k.max_issues) ≡ is_free k s h
free_is k h s = ap (λ b. b && nat_lt (issue s h) k.max_issues) (word_inactive s h)

-- a word that the table does not open is of a slot that is not free
pub open_void : (k : Config) (h : List Deed) (s : ℕ) → open_at (word_at s h) k.max_issues ≡ Void → is_free k s h ≡ false
open_void k h s e = grind arith

-- an exchange that opens goes for a free slot
pub open_attempt : (k : Config) (h : List Deed) (s : ℕ) (new : SlotState) → open_at (word_at s h) k.max_issues ≡ Attempt new
    → (is_free k s h ≡ true) × (new ≡ record { issue = issue s h; code = Active })
open_attempt k h s new e = grind arith

-- an exchange that opens goes for an inactive word
pub open_inactive : (w new : SlotState) (most : ℕ) → open_at w most ≡ Attempt new → is_inactive w.code ≡ true
open_inactive w new most e = grind arith

-- a commit by a CPU that no other CPU's buffer waits for
pub record IsCommitting (s c : ℕ) (h : List Deed) : Type 0 where
  pub given : opened (present s h) h ≡ true
  pub ruled : verdict (present s h) h ≡ committed c
  pub alone : solo (present s h) h ≡ Some c

-- what the code of such a commit tells
pub committing_tells : (s : ℕ) (h : List Deed) → (word_at s h).code ≡ Committing → (c : ℕ) × IsCommitting s c h
committing_tells s h e = grind arith

-- a decided speculation that no CPU decided alone waits for every CPU
pub decided_awaits : (k : Config) (s : ℕ) (h : List Deed) → IsSound k h → is_undecided (verdict (present s h) h) ≡ false → solo (present s h) h ≡ None → awaits (word_at s h).code ≡ true
decided_awaits k s h sound ruled none = grind (arith, nat_tests, decided_given)
