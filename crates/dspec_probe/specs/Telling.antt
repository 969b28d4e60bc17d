-- Cited by calls. A record as text: the name of its probe, and after it what each field says, by its name.
use Rattle.std.specs.{Float.Ieee.binary32, Float.Ieee.binary64, Fmt.option_append, Fmt.signed_decimal, Int.w8, Int.w16, Int.w32, Int.w64, Option.option_map_or, Prelude.ℕ, Prelude.zero, Prelude.suc}
use Rattle.std.specs.{Prelude.◌^◌, Prelude.◌-◌, Prelude.◌++◌, Prelude.Bool, Prelude.true, Prelude.false, Prelude.ℤ, Prelude.List, Prelude.[], Prelude.length, Prelude.nat_eq, Prelude.nat_lt}
use Rattle.std.specs.{Prelude.slice_get, Prelude.slice_index_or, Prelude.if◌then◌else◌, Prelude.Option, Prelude.Some, Prelude.None, Prelude.option_map, Prelude.option_and_then, Prelude.codes}
use Rattle.std.specs.{Prelude.decimal}
use Rattle.dspec_probe.specs.{Declarations.Declared, Kinds.name_place, Values.signed, Values.float, Words.Outside.Record, Words.Outside.enabling_of, Words.Outside.Field, Words.Outside.One}
use Rattle.dspec_probe.specs.{Words.Outside.Two, Words.Outside.Four, Words.Outside.Eight, declared.kind.Kind.Kind, declared.probes.ProbeNames.ProbeNames, declared.telling.Meaning.Meaning}
use Rattle.dspec_probe.specs.{declared.telling.Meaning.TheVariants.Unsigned, declared.telling.Meaning.TheVariants.Signed, declared.telling.Meaning.TheVariants.Truth}
use Rattle.dspec_probe.specs.{declared.telling.Meaning.TheVariants.Label, declared.telling.Meaning.TheVariants.Single, declared.telling.Meaning.TheVariants.Double}
use Rattle.dspec_probe.specs.{declared.telling.Meaning.TheVariants.Text, declared.telling.Meaning.TheVariants.TextNext, declared.telling.Told.Told}
use Rattle.dspec_probe.specs.declared.kind.Kind.TheVariants as kind

-- a number of this width in two's complement
abbrev pub signed_number : Field → ℕ → Option ℤ
signed_number One n = signed w8 n
signed_number Two n = signed w16 n
signed_number Four n = signed w32 n
signed_number Eight n = signed w64 n

-- what a number says by its kind alone; the number itself where it is none of that kind
abbrev pub kind_meaning : Kind → Field → ℕ → Meaning
kind_meaning kind.Signed width n = option_map_or Signed (signed_number width n) (Unsigned n)
kind_meaning kind.Float Four n = option_map_or Single (float binary32 (2 ^ 32) n) (Unsigned n)
kind_meaning kind.Float Eight n = option_map_or Double (float binary64 (2 ^ 64) n) (Unsigned n)
kind_meaning _ _ n = Unsigned n

-- of a field that may be a truth value
abbrev pub truth_meaning : Bool → Kind → Field → ℕ → Meaning
truth_meaning true _ _ zero = Truth false
truth_meaning true _ _ (suc zero) = Truth true
truth_meaning _ k width n = kind_meaning k width n

-- what the number of the field at this place says: what the declaration calls it, if anything, but of a float
abbrev pub field_meaning : ProbeNames → Bool → Kind → Field → ℕ → ℕ → Meaning
field_meaning n truth kind.Float width place number = kind_meaning kind.Float width number
field_meaning n truth k width place number =
    option_map_or Label (option_and_then (λ all. option_and_then (λ ls. slice_get ls.now number) (slice_get all.now place)) n.labels)
    (truth_meaning truth k width number)

-- the place of a field's name: each word of a text has the text's
abbrev pub told_name_place : Told → ℕ → ℕ
told_name_place t place = if nat_lt place 8 then name_place t.names.kinds place else place

-- the field at this place of a record that is told: its name, and what its number says
abbrev pub told_name : Told → ℕ → List ℕ
told_name t place = option_map_or (λ name. name.now) (slice_get t.names.fields.now (told_name_place t place)) []

abbrev pub told_number : Told → Kind → ℕ → Meaning
told_number t k place =
    field_meaning t.names (slice_index_or t.truths place false) k
    (slice_index_or t.fields place Eight) (told_name_place t place) (slice_index_or t.rec.values place 0)

-- by its kind: a text's first word, one of its next words, any other number
abbrev pub told_by_kind : Told → Kind → ℕ → Meaning
told_by_kind t kind.Text place = Text (record { rec = t.rec; kinds = t.names.kinds; place = place })
told_by_kind t kind.TextNext place = TextNext
told_by_kind t k place = told_number t k place

abbrev pub told_meaning : Told → ℕ → Meaning
told_meaning t place = told_by_kind t (slice_index_or t.names.kinds place kind.Unsigned) place

-- how a float and a text are written isn't said
abbrev pub meaning_text : Meaning → Option (List ℕ)
meaning_text (Unsigned n) = Some (decimal n)
meaning_text (Signed z) = Some (signed_decimal z)
meaning_text (Truth b) = Some (if b then codes "true" else codes "false")
meaning_text (Label l) = Some l.now
meaning_text (Single _) = None
meaning_text (Double _) = None
meaning_text (Text _) = None
meaning_text TextNext = None

abbrev pub named_text : List ℕ → Meaning → Option (List ℕ)
named_text name meaning = option_map (λ text. codes " " ++ name ++ codes "=" ++ text) (meaning_text meaning)

-- the first so many fields
abbrev pub told_fields : Told → ℕ → Option (List ℕ)
told_fields t zero = Some []
told_fields t (suc place) = option_append (told_fields t place) (named_text (told_name t place) (told_meaning t place))

abbrev pub told_text : Told → Option (List ℕ)
told_text t = option_append (Some t.names.event.now) (told_fields t (length t.rec.values))

-- a record of one of these probes, told
abbrev pub told_record : Declared → Record → Option Told
told_record probes r =
    option_and_then (λ fields. option_and_then (λ names. option_and_then (λ truths.
    if nat_eq (length r.values) (length fields) then Some (record { names = names; truths = truths; fields = fields; rec = r }) else None)
    (slice_get probes.truths (r.epid - 1))) (slice_get probes.names (r.epid - 1))) (enabling_of probes.schema.rows r.epid)
