-- What a step of a call of speculate makes, by the table's act, and the word that it leaves.
use Rattle.std.proofs.Common.{◌≡◌, ℕ, true, List, ◌∷◌, Some, if◌then◌else◌, refl, sym, ap, ◌∙◌}
use Rattle.dspec_interleaving.specs.Words.{Record, Speculation, SlotState, speculate_at, undecided, standing, joined, is_among, callers, verdict, present, issue, is_open, owed, code_at, Speculate}
use Rattle.dspec_interleaving.specs.Words.{word_at, IsSound, OnItsWay, Granted, Attempt, Code, Inactive, Config, Deed}
use Rattle.dspec_deeds.specs.declared.deed.SpeculateFate.TheVariants as spoken
use Rattle.dspec_deeds.proofs.{PresentIds.open_present, WordActs.speculate_granted, WordActs.speculate_attempt, WordChanges.granted_word}

module _ (k : Config) (c : ℕ) (h : List Deed) (id : Speculation) (r : Record) (sound : IsSound k h) (rests : owed h ≡ 0) (way : OnItsWay k c h id) where
  -- a record of an open speculation may come
  comes : is_open id h ≡ true → IsSound k (Speculate c id r spoken.Kept ∷ h)
  comes now = (sound, (rests, (way.scans_not, (way.early, sym now))))

  -- granted at once: the word stays
  pub word_granted : speculate_at (word_at id.slot h) id (is_among c (callers id h)) ≡ Granted → word_at id.slot h ≡ word_at id.slot (Speculate c id r spoken.Kept ∷ h)
  word_granted e =
      let granted = speculate_granted k h id c sound e in
      let at = open_present k h id sound granted.0 in
      let With : Code → SlotState = λ x. record { issue = issue id.slot h; code = x } in
      let now : code_at id h ≡ standing (verdict id h) (callers id h) = ap (λ b. if b then standing (verdict id h) (callers id h) else Inactive) at.given in
      let code : code_at (present id.slot h) h ≡ standing undecided (joined (Some c) (callers id h)) =
      ap (λ j. code_at j h) at.is ∙ (now ∙ (sym granted.1 ∙ ap (λ v. standing v (joined (Some c) (callers id h))) at.free)) in
      ap With code ∙ sym (granted_word k c id r spoken.Kept h (comes granted.0) refl)

  -- granted by an exchange: its word is left
  pub word_joined : (to : SlotState) → speculate_at (word_at id.slot h) id (is_among c (callers id h)) ≡ Attempt to → to ≡ word_at id.slot (Speculate c id r spoken.Kept ∷ h)
  word_joined to e =
      let attempt = speculate_attempt k h id c to sound e in
      attempt.2 ∙ sym (granted_word k c id r spoken.Kept h (comes attempt.1) refl)
