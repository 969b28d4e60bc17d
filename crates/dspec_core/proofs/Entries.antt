-- What deeds that may come next ask of the entering of one, and the words that deeds leave.
use Rattle.std.proofs.Common.{◌≡◌, ℕ, ◌≤◌, Bool, true, List, [], ◌∷◌, Option, None, refl, sym, ap, ◌∙◌, subst, arith}
use Rattle.std.proofs.lemmas.Bool.Decides.{nat_tests}
use Rattle.dspec_core.specs.Words.{Shape, Act, Void, Granted, Attempt, Idle, Record, Piece, Speculation, SlotState, author, callers, calls, commit_at, in_range, is_among, is_commit, is_open}
use Rattle.dspec_core.specs.Words.{IsSound, IsSlot, present, progress_of, seals, speculate_at, spoken_granted, start_fault, word_at, OnItsWay, history, MayEnterOn, state_of, MayCome, MayEnter}
use Rattle.dspec_core.specs.Words.{deed_passes, decided_left, decides, deed_of, word_left, entry_deeds, Cpu, Config, DecideFate, Deed, Commit, Opened, Release, Speculate, SpeculateFate}
use Rattle.dspec_core.specs.declared.machine.{Machine.Machine, decision.Decision.Decision, seen.Entry.Entry, seen.Entry.TheVariants.One}
use Rattle.dspec_deeds.specs.declared.deed.SpeculateFate.TheVariants as spoken
use Rattle.dspec_deeds.proofs.{PresentIds.decided_given, SetUp.set_up, SoundLists.opened_in_range, SoundLists.scan_bound, TestLemmas.off, WordActs.commit_attempt, WordActs.commit_void}
use Rattle.dspec_deeds.proofs.{WordActs.speculate_void, WordChanges.commit_open, WordChanges.committed_word, WordChanges.discarded_word, WordChanges.granted_open}
use Rattle.dspec_interleaving.proofs.{Counts.takes_sealed, SpeculateMoves.word_granted, SpeculateMoves.word_joined, StepsWords.commit_plain, StepsWords.not_plain, StepsWords.speculate_not_idle}
use Rattle.dspec_interleaving.proofs.{WholeLeads.open_in_range}

-- what is entered is one deed
pub one_comes : {S B : Type 0} {has : B → S → List Piece → Type 0} {capacity : B → ℕ} {shape_of : S → ℕ → Option Shape} {accepted : S → Record → Bool} {m : Machine S B} (c : ℕ) (x : Entry) (d : Deed)
    → x ≡ One d → MayCome has capacity shape_of accepted m (entry_deeds c x) → MayCome has capacity shape_of accepted m (d ∷ [])
one_comes {has = has} {capacity = capacity} {shape_of = shape_of} {accepted = accepted} {m = m} c x d is next =
    subst (λ (y : Entry). MayCome has capacity shape_of accepted m (entry_deeds c y)) is next

module _ {S B : Type 0} {has : B → S → List Piece → Type 0} {capacity : B → ℕ} {shape_of : S → ℕ → Option Shape} {accepted : S → Record → Bool} {m : Machine S B} {d e : Deed}
    (next : MayCome has capacity shape_of accepted m (d ∷ [])) (is : d ≡ e) where
  -- the deed, as it is told
  told : MayCome has capacity shape_of accepted m (e ∷ [])
  told = subst (λ (x : Deed). MayCome has capacity shape_of accepted m (x ∷ [])) is next

  -- what is asked of it
  pub may_next : MayEnter has capacity shape_of m (e ∷ [])
  may_next = record { shown = next.kept.shown; ranges = next.kept.coherent.ranges; legal = told.legal }

  pub may_next_on : (c : ℕ) → author e (history m) ≡ Cpu c → MayEnterOn has capacity shape_of m c (e ∷ [])
  may_next_on c by = record { shown = next.kept.shown; ranges = next.kept.coherent.ranges; legal = told.legal; cpu = told.authors.1 c by }

  pub few_calls : (c : ℕ) → author e (history m) ≡ Cpu c → calls c (history m) ≤ m.config.max_calls
  few_calls c by = let within = next.kept.within c (told.authors.1 c by) in omega (arith, within)

  pub few_takes : (c : ℕ) → author e (history m) ≡ Cpu c → (progress_of (state_of m).progresses c).takes ≤ seals c (history m)
  few_takes c by = takes_sealed _ _ _ (next.kept.coherent.stands c (told.authors.1 c by)).counts

  pub passes : deed_passes (accepted m.schema) e ≡ true
  passes = grind (arith, nat_tests, told)

-- the slots of deeds that come next
module _ (k : Config) (h : List Deed) (fine : start_fault k ≡ None) where
  pub opened_slot : (c : ℕ) (id : Speculation) → IsSound k (Opened c id ∷ h) → id.slot ≤ k.nspec
  opened_slot c id sound = subst (λ n. n ≤ k.nspec) sound.1.1.0 (scan_bound k h c (set_up k fine).1)

  pub released_slot : (s : ℕ) → IsSound k (Release s ∷ h) → IsSlot k s
  released_slot s sound = opened_in_range k h (present s h) (set_up k fine).1 sound.0 (decided_given k h (present s h) sound.0 sound.1.1.0.0)

  -- and that what is open is of one of the session
  pub granted_in_range : (c : ℕ) (id : Speculation) (r : Record) (f : SpeculateFate) → spoken_granted f ≡ true → IsSound k (Speculate c id r f ∷ h) → in_range k id ≡ true
  granted_in_range c id r f granted sound = open_in_range k h id (set_up k fine).1 sound.0 (granted_open k c id r f h sound granted)

-- a granted record, whether it is kept or not
as_kept : (k : Config) (c : ℕ) (id : Speculation) (r : Record) (f : SpeculateFate) (h : List Deed) → spoken_granted f ≡ true → IsSound k (Speculate c id r f ∷ h)
    → IsSound k (Speculate c id r spoken.Kept ∷ h) × (word_at id.slot (Speculate c id r spoken.Kept ∷ h) ≡ word_at id.slot (Speculate c id r f ∷ h))
as_kept k c id r f h h1 h2 = grind (arith, nat_tests)

module _ (k : Config) (c : ℕ) (h : List Deed) (id : Speculation) (r : Record) (f : SpeculateFate) (fine : start_fault k ≡ None) (granted : spoken_granted f ≡ true)
    (comes : IsSound k (Speculate c id r f ∷ h)) where
  way : OnItsWay k c h id
  way = let kept = (as_kept k c id r f h granted comes).0 in
      record { in_range = granted_in_range k h fine c id r f granted comes; scans_not = kept.1.1.0; early = kept.1.1.1.0 }

  -- the word after it
  pub spoken_left : (w : SlotState) (mine : Bool) → w ≡ word_at id.slot h → mine ≡ is_among c (callers id h) → word_left w (speculate_at w id mine) ≡ word_at id.slot (Speculate c id r f ∷ h)
  spoken_left w mine is tells =
      ap (λ (v : SlotState). word_left v (speculate_at v id mine)) is ∙ (ap (λ b. word_left (word_at id.slot h) (speculate_at (word_at id.slot h) id b)) tells
      ∙ go (speculate_at (word_at id.slot h) id (is_among c (callers id h))) refl)
    where
      go : (act : Act) → speculate_at (word_at id.slot h) id (is_among c (callers id h)) ≡ act → word_left (word_at id.slot h) act ≡ word_at id.slot (Speculate c id r f ∷ h)
      go Void e = off (is_open id h) (granted_open k c id r f h comes granted) (speculate_void k h id (is_among c (callers id h)) comes.0 e)
      go Granted e = word_granted k c h id r comes.0 (as_kept k c id r f h granted comes).0.1.0 way e ∙ (as_kept k c id r f h granted comes).1
      go (Attempt to) e = word_joined k c h id r comes.0 (as_kept k c id r f h granted comes).0.1.0 way to e ∙ (as_kept k c id r f h granted comes).1
      go Idle e = absurd (speculate_not_idle (word_at id.slot h) id (is_among c (callers id h)) e)

module _ (k : Config) (c : ℕ) (h : List Deed) (id : Speculation) (f : DecideFate) where
  -- the word after a commit
  committed_left : is_commit f ≡ true → IsSound k (Commit c id f ∷ h)
      → word_left (word_at id.slot h) (commit_at (word_at id.slot h) id (is_among c (callers id h))) ≡ word_at id.slot (Commit c id f ∷ h)
  committed_left decides comes = go (commit_at (word_at id.slot h) id (is_among c (callers id h))) refl
    where
      go : (act : Act) → commit_at (word_at id.slot h) id (is_among c (callers id h)) ≡ act → word_left (word_at id.slot h) act ≡ word_at id.slot (Commit c id f ∷ h)
      go Void e = off (is_open id h) (commit_open k c id f h comes decides) (commit_void k h id (is_among c (callers id h)) comes.0 e)
      go Granted e = not_plain _ Granted (commit_plain (word_at id.slot h) id (is_among c (callers id h))) e refl
      go (Attempt to) e = (commit_attempt k h id c to comes.0 e).2 ∙ sym (committed_word k c id f h comes decides)
      go Idle e = not_plain _ Idle (commit_plain (word_at id.slot h) id (is_among c (callers id h))) e refl

  -- and after a call that decides
  pub decision_left : (x : Decision) (w : SlotState) (mine : Bool) → decides x f ≡ true → IsSound k (deed_of x c id f ∷ h) → w ≡ word_at id.slot h → mine ≡ is_among c (callers id h)
      → decided_left x w id mine ≡ word_at id.slot (deed_of x c id f ∷ h)
  decision_left x w mine h1 h2 h3 h4 = grind (arith, nat_tests, committed_left, discarded_word)
