-- What a step of a call of commit or discard makes, by the table's act, and the word that it leaves.
use Rattle.std.proofs.Common.{◌≡◌, ℕ, ◌+◌, Bool, true, false, List, ◌∷◌, ◌++◌, length, Option, if◌then◌else◌, refl, sym, ◌∙◌, subst, ⊎_elim}
use Rattle.dspec_interleaving.specs.Words.{Shape, block, Speculation, SlotState, released, commit_at, discard_at, is_commit, is_among, callers, issue, is_sole, word_at, contents, held, IsSound}
use Rattle.dspec_interleaving.specs.Words.{fits_principal, discarded_by, commit_fate, discard_fate, measured, Attempt, Discarding, Config, Deed, Commit, Discard}
use Rattle.dspec_interleaving.specs.declared.flight.CpuProgress.{CpuProgress}
use Rattle.dspec_deeds.specs.declared.deed.DecideFate.TheVariants as decided
use Rattle.dspec_deeds.proofs.{TestLemmas.either_way, WordActs.commit_attempt, WordActs.discard_attempt, WordChanges.committed_word, WordChanges.discarded_word, WordChanges.released_word}

module _ (shape : ℕ → Option Shape) (k : Config) (c : ℕ) (h : List Deed) (me : CpuProgress) (id : Speculation) where
  -- the fate of a commit that decides
  pub commit_decides : is_commit (commit_fate shape k c h id) ≡ true
  commit_decides = go (fits_principal shape k c (block (contents (held c id h))) h)
    where
      go : (fits : Bool) → is_commit (if fits then decided.Copied (length (held c id h)) else decided.Lost (length (held c id h))) ≡ true
      go true = refl
      go false = refl

  -- the word that a commit leaves
  pub commit_leaves : (to : SlotState) → IsSound k h → commit_at (word_at id.slot h) id (is_among c (callers id h)) ≡ Attempt to → IsSound k (Commit c id (commit_fate shape k c h id) ∷ h)
      → to ≡ word_at id.slot (Commit c id (commit_fate shape k c h id) ∷ h)
  commit_leaves to sound e new = (commit_attempt k h id c to sound e).2 ∙ sym (committed_word k c id (commit_fate shape k c h id) h new commit_decides)

  -- the word that a discard leaves
  pub discard_leaves : (to : SlotState) → IsSound k h → discard_at (word_at id.slot h) id (is_among c (callers id h)) ≡ Attempt to
      → IsSound k ((discarded_by k c (measured shape k c h) me id (Attempt to)).deeds ++ h)
      → to ≡ word_at id.slot ((discarded_by k c (measured shape k c h) me id (Attempt to)).deeds ++ h)
  discard_leaves to sound e =
      let did = discard_attempt k h id c to sound e in
      let Leaves : SlotState → Type 0 = λ w. IsSound k ((discarded_by k c (measured shape k c h) me id (Attempt w)).deeds ++ h) → w
      ≡ word_at id.slot ((discarded_by k c (measured shape k c h) me id (Attempt w)).deeds ++ h) in
      ⊎_elim
      (λ (sole : is_sole c (callers id h) ≡ true).
      let is : to ≡ released (issue id.slot h) = did.2 ∙ rw sole refl in
      subst Leaves (sym is) (λ new. sym (released_word k id.slot (Discard c id (discard_fate shape k c h id) ∷ h) new.0)))
      (λ (others : is_sole c (callers id h) ≡ false).
      let is : to ≡ record { issue = issue id.slot h; code = Discarding } = did.2 ∙ rw others refl in
      subst Leaves (sym is) (λ new. sym (discarded_word k c id (discard_fate shape k c h id) h new refl)))
      (either_way (is_sole c (callers id h)))
