-- Cited by calls. Enabling records by the widths of their fields.
use Rattle.std.specs.Option.{option_map, option_map_or}
use Rattle.std.specs.Prelude.{ℕ, ◌≡◌, ◌==◌, ◌+◌, ◌++◌, nat_le, nat_lt, List, [], ◌∷◌, length, Option, Some, None, option_and_then, if◌then◌else◌}
use Rattle.dspec_c.specs.{Statuses.bad_handle, Words.Outside.EnabledRows, Words.Outside.Field, Words.Outside.Four, Words.Outside.Eight, declared.held.HandleValue.HandleValue}
use Rattle.dspec_record.specs.declared.field.Field.TheVariants.{One, Two}
use Rattle.dspec_c.specs.declared.held.HandleValue.TheVariants as held

abbrev pub field_of_width : ℕ → Option Field
field_of_width n =
    if n == 1 then Some One else (if n == 2 then Some Two else (if n == 4 then Some Four else (if n == 8 then Some Eight else None)))

-- the field in front of the others, where there are all
abbrev pub field_and_rest : Option Field → Option (List Field) → Option (List Field)
field_and_rest a b = option_and_then (λ f. option_map (λ fs. f ∷ fs) b) a

-- in their order; none, where one of the widths isn't a field's
abbrev pub fields_of_widths : List ℕ → Option (List Field)
fields_of_widths [] = Some []
fields_of_widths (w ∷ ws) = field_and_rest (field_of_width w) (fields_of_widths ws)

-- why they aren't enabled: too many of them, one of another width, or too many enablings
abbrev pub enable_fault : List ℕ → EnabledRows → Option ℕ
enable_fault ws e =
    if nat_lt 8 (length ws) then Some 10
    else option_map_or (λ (_ : List Field). if nat_le 64 (length e.rows) then Some 11 else None) (fields_of_widths ws) (Some 9)

-- they are enabled after those that were, and have the number of all enablings
pub record Enables (widths : List ℕ) (epid : ℕ) (old new : EnabledRows) : Type 0 where
  pub fine : enable_fault widths old ≡ None
  pub fields : List Field
  pub are : fields_of_widths widths ≡ Some fields
  pub rows : new ≡ record { header = old.header; rows = old.rows ++ fields ∷ [] }
  pub last : epid ≡ length old.rows + 1

-- they are enabled, and the EPID told; or not, and nothing changes
abbrev pub EnablesSo : List ℕ → Option ℕ → EnabledRows → ℕ → ℕ → ℕ → EnabledRows → Type 0
EnablesSo ws None old status before epid new = (status ≡ 0) × Enables ws epid old new
EnablesSo ws (Some why) old status before epid new = (status ≡ why) × (new ≡ old) × (epid ≡ before)

abbrev pub EnableAnswers : List ℕ → HandleValue → ℕ → ℕ → ℕ → HandleValue → Type 0
EnableAnswers ws (held.Schema old) status before epid now = (new : EnabledRows) × (now ≡ held.Schema new) × EnablesSo ws (enable_fault ws old) old status before epid new
EnableAnswers ws was status before epid now = (status ≡ bad_handle) × (now ≡ was) × (epid ≡ before)
