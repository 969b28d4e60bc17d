-- Cited by calls. The metadata of a trace by what a caller says of it in plain bytes and numbers.
use Rattle.std.specs.{List.flat_map, Prelude.◌≡◌, Prelude.◌+◌, Prelude.◌<◌, Prelude.◌⊎◌, Prelude.ℕ, Prelude.All, Prelude.Bool, Prelude.true, Prelude.false, Prelude.List, Prelude.[], Prelude.◌∷◌}
use Rattle.std.specs.{Prelude.length, Prelude.map, Prelude.take, Prelude.Option, Prelude.Some, Prelude.None, Str.IsUtf8}
use Rattle.dspec_ctf.specs.{InMemory.Calls.Fills, Metadata.origin_text, Names.origin_fault, Words.Outside.EnabledRows, Words.Outside.next_words, Words.Outside.Kind, Words.Outside.Unsigned}
use Rattle.dspec_ctf.specs.{Words.Outside.Signed, Words.Outside.Float, Words.Outside.Text, Words.Outside.TextNext, Words.Outside.ProbeNames, declared.fault.MetadataFault.MetadataFault}
use Rattle.dspec_ctf.specs.{declared.form.Form.TheVariants.ByTime, declared.in_memory.fault.TextFault.TextFault, declared.in_memory.fault.TextFault.TheVariants.TooSmall}
use Rattle.dspec_ctf.specs.{declared.in_memory.fault.TextFault.TheVariants.NotText, declared.in_memory.fault.TextFault.TheVariants.BadKind, declared.in_memory.fault.TextFault.TheVariants.Count}
use Rattle.dspec_ctf.specs.{declared.in_memory.fault.TextFault.TheVariants.Metadata, declared.in_memory.identity.TraceIdentity.TraceIdentity, declared.names.Names.Names}
use Rattle.dspec_ctf.specs.{declared.names.Names.TheVariants.Numbered, declared.names.Names.TheVariants.Given, declared.origin.Origin.Origin, declared.origin.Process.Process}
use Rattle.dspec_ctf.specs.declared.fault.MetadataFault.TheVariants as metadata

-- what numbers of a kind are called at the door
abbrev pub kind_number : Kind → ℕ
kind_number Unsigned = 0
kind_number Signed = 1
kind_number Float = 2
kind_number Text = 3
kind_number TextNext = 4

-- the name of an event and those of its fields; a text has one
abbrev pub texts_in : ProbeNames → List (List ℕ)
texts_in n = n.event.now ∷ map (λ name. name.now) n.fields.now

-- what the numbers of its fields mean, of a text each word
abbrev pub kinds_in : ProbeNames → List ℕ
kinds_in n = map kind_number (take (length n.fields.now + next_words n.kinds) n.kinds)

-- The names are those of these events and their fields, one event's after another's, and what the fields' numbers mean are these kinds; no field
-- has labels.
pub record AreEvents (names : List (List ℕ)) (kinds : List ℕ) (events : List ProbeNames) : Type 0 where
  pub texts : names ≡ flat_map texts_in events
  pub meaning : kinds ≡ flat_map kinds_in events
  pub bare : All (λ n. n.labels ≡ None) events

-- what events and fields are called by these names; where there is none they are numbered
abbrev pub AreNames : List (List ℕ) → List ℕ → Names → Type 0
AreNames names kinds Numbered = names ≡ []
AreNames names kinds (Given events) = AreEvents names kinds events.now

-- the process is that of this identity
abbrev pub IsProcess : TraceIdentity → Option Process → Type 0
IsProcess identity (Some p) = (p.host.now ≡ identity.host.now) × ((p.name.now ≡ identity.name.now) × (p.pid ≡ identity.pid))
IsProcess identity None = ⊥

abbrev pub clock_of : List ℕ → Bool → Option (List ℕ)
clock_of clock true = Some clock
clock_of clock false = None

-- the origin is that of this identity
pub record IsOrigin (identity : TraceIdentity) (origin : Origin) : Type 0 where
  pub uuid : origin.uuid ≡ identity.uuid
  pub process : IsProcess identity origin.process
  pub start : origin.start ≡ Some (record { seconds = identity.seconds; ticks = identity.ticks; clock = clock_of identity.clock identity.has_clock })

-- the text is the metadata of a trace by time of this identity and schema, whose events and fields are called so
pub record IsMetadata (identity : TraceIdentity) (e : EnabledRows) (names : List (List ℕ)) (kinds : List ℕ) (text : List ℕ) : Type 0 where
  pub origin : Origin
  pub is_origin : IsOrigin identity origin
  pub called : Names
  pub are_names : AreNames names kinds called
  pub allowed : origin_fault origin (ByTime identity.hertz) e called ≡ None
  pub text_is : text ≡ origin_text origin (ByTime identity.hertz) e called

-- the metadata stands at the front of the room, and after it is what was there
pub record PutsMetadata (identity : TraceIdentity) (e : EnabledRows) (names : List (List ℕ)) (kinds room : List ℕ) (size : ℕ) (filled : List ℕ) : Type 0 where
  pub text : List ℕ
  pub is_metadata : IsMetadata identity e names kinds text
  pub size_is : size ≡ length text
  pub fills : Fills room text filled

-- these names aren't all texts, or memory was wanting
abbrev pub HasNoTexts : List (List ℕ) → TextFault → Type 0
HasNoTexts names NotText = All IsUtf8 names → ⊥
HasNoTexts names (Metadata fault) = fault ≡ metadata.Memory
HasNoTexts names (TooSmall needed) = ⊥
HasNoTexts names BadKind = ⊥
HasNoTexts names Count = ⊥

-- these numbers aren't all of kinds, or there aren't as many as are wanted, or memory was wanting
abbrev pub HasNoEvents : List ℕ → TextFault → Type 0
HasNoEvents kinds BadKind = All (λ kind. kind < 5) kinds → ⊥
HasNoEvents kinds Count = Unit {0}
HasNoEvents kinds (Metadata fault) = fault ≡ metadata.Memory
HasNoEvents kinds (TooSmall needed) = ⊥
HasNoEvents kinds NotText = ⊥

-- a text of the identity isn't UTF-8
abbrev pub HasNoOrigin : TraceIdentity → Type 0
HasNoOrigin identity = (IsUtf8 identity.host.now → ⊥) ⊎ (IsUtf8 identity.name.now → ⊥)

-- so these, or so called, have no metadata
abbrev pub IsRefused : TraceIdentity → EnabledRows → List (List ℕ) → List ℕ → MetadataFault → Type 0
IsRefused identity e names kinds fault =
    (origin : Origin) × (IsOrigin identity origin × ((called : Names) × (AreNames names kinds called × (origin_fault origin (ByTime identity.hertz) e called ≡ Some fault))))

-- why there is no metadata
abbrev pub HasNoMetadata : TraceIdentity → EnabledRows → List (List ℕ) → List ℕ → TextFault → Type 0
HasNoMetadata identity e names kinds (Metadata fault) = (fault ≡ metadata.Memory) ⊎ IsRefused identity e names kinds fault
HasNoMetadata identity e names kinds NotText = HasNoOrigin identity
HasNoMetadata identity e names kinds BadKind = All (λ kind. kind < 5) kinds → ⊥
HasNoMetadata identity e names kinds Count = Unit {0}
HasNoMetadata identity e names kinds (TooSmall needed) = ⊥

-- why it isn't put into a room of so many bytes
abbrev pub PutsNone : TraceIdentity → EnabledRows → List (List ℕ) → List ℕ → ℕ → TextFault → Type 0
PutsNone identity e names kinds room (TooSmall needed) =
    ((text : List ℕ) × (IsMetadata identity e names kinds text × (needed ≡ length text))) × (room < needed)
PutsNone identity e names kinds room NotText = HasNoOrigin identity ⊎ (All IsUtf8 names → ⊥)
PutsNone identity e names kinds room BadKind = HasNoMetadata identity e names kinds BadKind
PutsNone identity e names kinds room Count = HasNoMetadata identity e names kinds Count
PutsNone identity e names kinds room (Metadata fault) = HasNoMetadata identity e names kinds (Metadata fault)
