-- A page's data has no character of markup, since no byte's escape has one.
use Rattle.std.proofs.Common.{◌≡◌, ◌∷◌, [], ◌∙◌, ◌||◌, ℕ, Bool, List, false, ap, refl, arith}
use Rattle.std.proofs.lemmas.List.Folds.{list_any-append}
use Rattle.std.specs.List.{list_any}
use Rattle.dspec_trace_view.specs.Words.{escape_of, escapes_of, is_markup}

plain_byte : (byte : ℕ) → list_any is_markup (escape_of byte) ≡ false
plain_byte byte = grind arith

pub plain : (json : List ℕ) → list_any is_markup (escapes_of json) ≡ false
plain [] = refl
plain (byte ∷ more) =
    list_any-append is_markup (escape_of byte) (escapes_of more)
    ∙ ap (λ (b : Bool). b || list_any is_markup (escapes_of more)) (plain_byte byte) ∙ plain more
