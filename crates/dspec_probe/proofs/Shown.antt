-- The text of a record that is told, while it is written.
use Rattle.std.proofs.Common.{◌≡◌, ◌∙◌, ◌+◌, ℕ, suc, true, List, Option, Some, None, IfSome, refl, ap, subst, arith}
use Rattle.std.proofs.Output.{has_written_append}
use Rattle.std.specs.{Fmt.HasWritten, Fmt.IsPlainFormatter, Fmt.option_append, declared.fmt.Formatter.Formatter}
use Rattle.dspec_probe.specs.{Words.named_text, Words.told_fields, Words.told_meaning, Words.told_name, declared.telling.Meaning.Meaning, declared.telling.Told.Told}

module _ {W : Type 0} (took : W → List ℕ → W → Type 0) where
  joined : (f g h : Formatter W) (a b : Option (List ℕ)) → IfSome a (λ bs. HasWritten took f bs g)
      → IfSome b (λ bs. IsPlainFormatter g → true ≡ true → HasWritten took g bs h) → IfSome (option_append a b) (λ bs. HasWritten took f bs h)
  joined f g h None b p q = tt
  joined f g h (Some a) None p q = tt
  joined f g h (Some a) (Some b) p q = has_written_append took f a g b h p (q p.plain refl)

  -- one field more
  pub fields-more : (t : Told) (place : ℕ) (name : List ℕ) (meaning : Meaning) (f g h : Formatter W)
      → name ≡ told_name t place → meaning ≡ told_meaning t place → IfSome (told_fields t place) (λ bs. HasWritten took f bs g)
      → IfSome (named_text name meaning) (λ bs. IsPlainFormatter g → true ≡ true → HasWritten took g bs h)
      → IfSome (told_fields t (place + 1)) (λ bs. HasWritten took f bs h)
  fields-more t place name meaning f g h named means so_far more =
      let same : named_text name meaning ≡ named_text (told_name t place) (told_meaning t place) =
      ap (λ n. named_text n meaning) named ∙ ap (named_text (told_name t place)) means in
      let next : suc place ≡ place + 1 = omega arith in
      subst (λ n. IfSome (told_fields t n) (λ bs. HasWritten took f bs h)) next
      (subst (λ o. IfSome (option_append (told_fields t place) o) (λ bs. HasWritten took f bs h)) same
      (joined f g h (told_fields t place) (named_text name meaning) so_far more))
