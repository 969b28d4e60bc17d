-- Cited by calls. What the text of a schedule says, or which of its lines has the first fault.
use Rattle.std.specs.List.{slice_split, list_all}
use Rattle.std.specs.Prelude.{◌≡◌, ℕ, ◌+◌, ◌==◌, ◌&&◌, Bool, true, false, not, List, [], ◌∷◌, ◌++◌, length, if◌then◌else◌, bytes_eq, codes, Option, Some, None, unwrap_or, is_none, IfSome, Result}
use Rattle.std.specs.Prelude.{Ok, Err}
use Rattle.dspec_schedule.specs.{Calls.turn_read, LineWords.is_printable, LineWords.words_of_line, SetUp.config_read, SetUp.enabling_read, SetUp.header_of_words, SetUp.policy_of_words}
use Rattle.dspec_schedule.specs.{Steps.at_line, Words.Outside.EnabledRows, Words.Outside.Header, Words.Outside.Config, Words.Outside.Policy, Words.Outside.Turn, declared.fault.LineKind.LineKind}
use Rattle.dspec_schedule.specs.{declared.fault.LineKind.TheVariants.NotPrintable, declared.fault.LineKind.TheVariants.NoConfig}
use Rattle.dspec_schedule.specs.Steps.{◌>>=◌}
use Rattle.dspec_record.specs.declared.header.Header.TheVariants.{One}

-- a schedule: its configuration with its line, the header that a line names, whether a line names the policy, its
-- enablings where there are any, and its turns with their lines
pub record Plan : Type 0 where
  pub config : Config
  pub config_line : ℕ
  pub named_header : Option Header
  pub is_policy_named : Bool
  pub enablings : Option EnabledRows
  pub turns : List Turn
  pub lines : List ℕ

-- a schedule of a first line alone
abbrev pub plan_of_config : ℕ → Config → Plan
plan_of_config line k = record { config = k; config_line = line; named_header = None; is_policy_named = false; enablings = None; turns = []; lines = [] }

abbrev pub with_enablings : Plan → EnabledRows → Plan
with_enablings p rows = record p { enablings = Some rows }

abbrev pub with_header : Plan → Header → Plan
with_header p header = record p { named_header = Some header }

abbrev pub with_policy : Plan → Policy → Plan
with_policy p policy = record p { config = record p.config { policy = policy }; is_policy_named = true }

abbrev pub with_turn : Plan → ℕ → Turn → Plan
with_turn p line turn = record p { turns = p.turns ++ turn ∷ []; lines = p.lines ++ line ∷ [] }

abbrev pub has_no_turn : Plan → Bool
has_no_turn p = length p.turns == 0

-- the header of all records: the first where no line names one
abbrev pub header_of : Plan → Header
header_of p = unwrap_or p.named_header One

abbrev pub no_rows : Header → EnabledRows
no_rows header = record { header = header; rows = [] }

-- the enablings have the header of all records
abbrev pub HasOneHeader : Plan → Type 0
HasOneHeader p = IfSome p.enablings (λ enablings. enablings.header ≡ header_of p)

-- a header is named once, before enablings and turns
abbrev pub may_name_header : Plan → Bool
may_name_header p = is_none p.named_header && (is_none p.enablings && has_no_turn p)

-- a policy is named once, before turns
abbrev pub may_name_policy : Plan → Bool
may_name_policy p = not p.is_policy_named && has_no_turn p

-- the schedule of the first line that isn't skipped, by its first word and those after it
unfoldable pub first_line_of : ℕ → List ℕ → List (List ℕ) → Result Plan LineKind
first_line_of line first words = if bytes_eq first (codes "config") then (do
  k ← config_read words
  Ok (plan_of_config line k)) else Err NoConfig

-- the schedule with the enabling whose widths the words are
unfoldable pub enabled_by : Plan → List (List ℕ) → Result Plan LineKind
enabled_by p words = do
  rows ← enabling_read (has_no_turn p) (unwrap_or p.enablings (no_rows (header_of p))) words
  Ok (with_enablings p rows)

-- the schedule with the header that the words name
unfoldable pub headed_by : Plan → List (List ℕ) → Result Plan LineKind
headed_by p words = do
  header ← header_of_words (may_name_header p) words
  Ok (with_header p header)

-- the schedule with the policy that the words name
unfoldable pub policed_by : Plan → List (List ℕ) → Result Plan LineKind
policed_by p words = do
  policy ← policy_of_words (may_name_policy p) words
  Ok (with_policy p policy)

-- the schedule with the turn of a line
unfoldable pub turned_by : Plan → ℕ → List ℕ → List (List ℕ) → Result Plan LineKind
turned_by p line first words = do
  turn ← turn_read (header_of p) first words
  Ok (with_turn p line turn)

-- the schedule with what a later line says, by its first word and those after it
unfoldable pub later_line_of : Plan → ℕ → List ℕ → List (List ℕ) → Result Plan LineKind
later_line_of p line first words =
    if bytes_eq first (codes "enable") then enabled_by p words else
    (if bytes_eq first (codes "header") then headed_by p words else
    (if bytes_eq first (codes "policy") then policed_by p words else turned_by p line first words))

-- what was read so far, none before the configuration, with the words of one more line
unfoldable pub words_read : Option Plan → ℕ → List (List ℕ) → Result (Option Plan) LineKind
words_read so_far line [] = Ok so_far
words_read None line (first ∷ words) = do
  p ← first_line_of line first words
  Ok (Some p)
words_read (Some before) line (first ∷ words) = do
  p ← later_line_of before line first words
  Ok (Some p)

-- the same with the bytes of one more line
unfoldable pub line_read : Option Plan → ℕ → List ℕ → Result (Option Plan) LineKind
line_read so_far line bytes = if list_all is_printable bytes then words_read so_far line (words_of_line bytes) else Err NotPrintable

-- the same with more lines, of which the first has this number
abbrev pub lines_read : Option Plan → ℕ → List (List ℕ) → Result (Option Plan) (ℕ × LineKind)
lines_read so_far line [] = Ok so_far
lines_read so_far line (bytes ∷ more) = do
  after ← at_line line (line_read so_far line bytes)
  lines_read after (line + 1) more

-- without the last piece where that is empty
abbrev pub without_empty_end : List (List ℕ) → List (List ℕ)
without_empty_end [] = []
without_empty_end ([] ∷ []) = []
without_empty_end ((byte ∷ bytes) ∷ []) = (byte ∷ bytes) ∷ []
without_empty_end (piece ∷ next ∷ more) = piece ∷ without_empty_end (next ∷ more)

-- the lines of a text: a line feed (10) ends each, and the last may lack it
abbrev pub lines_of : List ℕ → List (List ℕ)
lines_of text = without_empty_end (slice_split (λ byte. byte == 10) text)

-- a schedule has a configuration; where there is none, that is a fault after the last line
abbrev pub configured : ℕ → Option Plan → Result Plan (ℕ × LineKind)
configured next_line None = Err (next_line, NoConfig)
configured next_line (Some p) = Ok p

-- the schedule of a text, or the line and the kind of its first fault; lines are numbered from 1
unfoldable pub schedule_of : List ℕ → Result Plan (ℕ × LineKind)
schedule_of text = do
  read ← lines_read None 1 (lines_of text)
  configured (length (lines_of text) + 1) read
