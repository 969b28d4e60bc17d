-- Cited by calls. What the numbers of fields stand for.
use Rattle.std.specs.{Float.Ieee.binary32, Float.Ieee.binary64, Int.w8, Int.w16, Int.w32, Int.w64, Option.option_map, Prelude.ℕ, Prelude.◌^◌, Prelude.ℤ, Prelude.Option, Prelude.Some, Prelude.None}
use Rattle.dspec_ctf_reading.specs.Words.Outside.{Field, One, Two, Four, Eight, Kind, signed, float}
use Rattle.dspec_ctf_reading.specs.declared.folder.value.ShownValue.{ShownValue}
use Rattle.dspec_probe.specs.declared.kind.Kind.TheVariants as kind
use Rattle.dspec_ctf_reading.specs.declared.folder.value.ShownValue.TheVariants as shown

-- a number in two's complement, by the bytes of its field
abbrev pub signed_by : Field → ℕ → Option ℤ
signed_by One n = signed w8 n
signed_by Two n = signed w16 n
signed_by Four n = signed w32 n
signed_by Eight n = signed w64 n

-- what a number of a field of this width and kind stands for, if for anything; a word of a text for itself
abbrev pub stands_for : Field → Kind → ℕ → Option ShownValue
stands_for width kind.Unsigned n = Some (shown.Unsigned n)
stands_for width kind.Text n = Some (shown.Unsigned n)
stands_for width kind.TextNext n = Some (shown.Unsigned n)
stands_for width kind.Signed n = option_map shown.Signed (signed_by width n)
stands_for One kind.Float n = None
stands_for Two kind.Float n = None
stands_for Four kind.Float n = option_map shown.Single (float binary32 (2 ^ 32) n)
stands_for Eight kind.Float n = option_map shown.Double (float binary64 (2 ^ 64) n)
