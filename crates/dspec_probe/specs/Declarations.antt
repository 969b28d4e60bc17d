-- Cited by calls. The probes of a program: their schema and their names, and what one more adds.
use Rattle.std.specs.Prelude.{◌≡◌, ◌+◌, ◌++◌, ◌∷◌, [], ℕ, Bool, List, length, map}
use Rattle.dspec_probe.specs.{Kinds.next_words, Probes.HasProbe, Words.Outside.EnabledRows, Words.Outside.Field, Words.Outside.Header, declared.probe.Probe.Probe}
use Rattle.dspec_probe.specs.{declared.probes.ProbeNames.ProbeNames}

pub record Declared : Type 0 where
  pub schema : EnabledRows
  pub names : List ProbeNames
  pub truths : List (List Bool)

-- each has a name, and as many as fields beside it, where a text is one field
abbrev pub AreNamed : List (List Field) → List ProbeNames → Type 0
AreNamed rows names = map length rows ≡ map (λ (n : ProbeNames). length n.fields.now + next_words n.kinds) names

-- One probe more, with these fields and names: it is the last of the schema's, and whatever probe the schema had it has still.
pub record Declares {F : Type 0} (fields : List Field) (p : Probe F) (names : ProbeNames) (old new : Declared) : Type 0 where
  pub schema : new.schema ≡ record { header = old.schema.header; rows = old.schema.rows ++ fields ∷ [] }
  pub names_are : new.names ≡ old.names ++ names ∷ []
  pub epid : p.epid ≡ length new.schema.rows
  pub has : HasProbe p.header p.epid fields new.schema
  pub earlier : (h : Header) (e : ℕ) (fs : List Field) → HasProbe h e fs old.schema → HasProbe h e fs new.schema
