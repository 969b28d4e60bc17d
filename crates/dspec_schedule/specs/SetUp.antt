-- Cited by calls. What the lines before the first turn say: the configuration, the header, the policy, and the enablings.
use Rattle.std.specs.Prelude.{ℕ, ◌==◌, nat_le, nat_lt, ◌&&◌, Bool, List, [], ◌∷◌, ◌++◌, length, if◌then◌else◌, Option, Some, None, Result, Ok, Err, is_ok, not, bytes_eq, codes}
use Rattle.dspec_schedule.specs.LineWords.{small_number_of, wide_number_of, numbers_of, only_word}
use Rattle.dspec_schedule.specs.Steps.{◌>>=◌, each}
use Rattle.dspec_schedule.specs.Words.Outside.{EnabledRows, start_fault, Field, One, Two, Four, Eight, Header, Config, Policy, StartFault}
use Rattle.dspec_schedule.specs.declared.fault.LineKind.{LineKind}
use Rattle.dspec_schedule.specs.declared.fault.LineKind.TheVariants.{BadNumber, WordCount, ConfigRefused, BadEnabling, BadHeader, BadPolicy}
use Rattle.dspec_record.specs.declared.header.Header.TheVariants as header
use Rattle.dspec_deeds.specs.declared.config.Policy.TheVariants as policy

-- the configuration of six words, in the order of its fields, with the policy where none is named
unfoldable pub numbered : List ℕ → List ℕ → List ℕ → List ℕ → List ℕ → List ℕ → Result Config LineKind
numbered cpus nspec bufsize specsize issues calls = do
  a ← small_number_of cpus
  b ← small_number_of nspec
  c ← small_number_of bufsize
  d ← small_number_of specsize
  e ← wide_number_of issues
  f ← wide_number_of calls
  Ok (record { cpus = a; nspec = b; bufsize = c; specsize = d; max_issues = e; max_calls = f; policy = policy.Switch })

-- the same of a list of words
unfoldable pub configuration_of : List (List ℕ) → Result Config LineKind
configuration_of (cpus ∷ nspec ∷ bufsize ∷ specsize ∷ issues ∷ calls ∷ []) = numbered cpus nspec bufsize specsize issues calls
configuration_of _ = Err WordCount

-- a configuration whose numbers are all in their ranges
abbrev pub config_checked : Option StartFault → Config → Result Config LineKind
config_checked None k = Ok k
config_checked (Some fault) k = Err (ConfigRefused fault)

-- the configuration of the words after `config`
unfoldable pub config_read : List (List ℕ) → Result Config LineKind
config_read words = do
  k ← configuration_of words
  config_checked (start_fault k) k

-- the header of a version
unfoldable pub version_of : ℕ → Result Header LineKind
version_of version =
    if version == 1 then Ok header.One else
    (if version == 2 then Ok header.Two else Err BadHeader)

-- the header of the words after `header`, where one may be named
unfoldable pub header_of_words : Bool → List (List ℕ) → Result Header LineKind
header_of_words may_be_named words = do
  word ← only_word words
  version ← wide_number_of word
  if may_be_named then version_of version else Err BadHeader

-- the policy of a name
unfoldable pub policy_of_word : List ℕ → Result Policy LineKind
policy_of_word word =
    if bytes_eq word (codes "switch") then Ok policy.Switch else
    (if bytes_eq word (codes "fill") then Ok policy.Fill else Err BadPolicy)

-- the policy of the words after `policy`, where one may be named
unfoldable pub policy_of_words : Bool → List (List ℕ) → Result Policy LineKind
policy_of_words may_be_named words = do
  word ← only_word words
  if may_be_named then policy_of_word word else Err BadPolicy

-- the field of a width in bytes
unfoldable pub field_of : ℕ → Result Field LineKind
field_of width =
    if width == 1 then Ok One else
    (if width == 2 then Ok Two else
    (if width == 4 then Ok Four else
    (if width == 8 then Ok Eight else Err BadEnabling)))

-- the field of a word
unfoldable pub field_of_word : List ℕ → Result Field LineKind
field_of_word word = do
  width ← wide_number_of word
  field_of width

-- the enablings with one more, of which there are 64 at the most
abbrev pub added_to : EnabledRows → List Field → Result EnabledRows LineKind
added_to enablings fields = if nat_lt (length enablings.rows) 64 then Ok (record enablings { rows = enablings.rows ++ fields ∷ [] }) else Err BadEnabling

-- the enablings with one more, whose widths the words after `enable` are, if there are any: all words are looked at as
-- numbers first
unfoldable pub enabling_read : Bool → EnabledRows → List (List ℕ) → Result EnabledRows LineKind
enabling_read before_turns enablings words =
    if not (is_ok (numbers_of words)) then Err BadNumber else
    (if before_turns && nat_le (length words) 8 then (do
      fields ← each field_of_word words
      added_to enablings fields) else Err BadEnabling)
