-- Cited by calls. A record as the words of its text, of eight bytes each: what record they stand for, and which of their bits count.
use Rattle.std.specs.Int.RustNames.{bit_and}
use Rattle.std.specs.Prelude.{◌≡◌, ℕ, zero, suc, ◌+◌, ◌-◌, ◌*◌, ◌/◌, ◌%◌, ◌^◌, ◌==◌, ◌&&◌, nat_lt, List, [], ◌∷◌, ◌++◌, length, take, replicate, Option, Some, None, option_and_then, if◌then◌else◌}
use Rattle.std.specs.Prelude.{◌≤◌, ◌<◌, map}
use Rattle.dspec_record.specs.{Layout.width, Layout.limit, Layout.rounded_up, Layout.after, Layout.fields_end, Layout.layout, Record.Record, RecordText.little_endian, RecordText.record_text}
use Rattle.dspec_record.specs.{Schemas.enabling_of, declared.field.Field.Field, declared.header.Header.Header}
use Rattle.dspec_record.specs.declared.header.Header.TheVariants as header

-- a list of words of eight bytes as one number, the first lowest
abbrev pub number_of_words : List ℕ → ℕ
number_of_words [] = 0
number_of_words (w ∷ ws) = w + 2 ^ 64 * number_of_words ws

-- the value of each field: the number from the field's place on, cut at the field's width; both in bytes
abbrev pub cuts : ℕ → List Field → ℕ → List ℕ
cuts start [] n = []
cuts start (f ∷ fs) n =
    n / 256 ^ rounded_up start (width f) % 256 ^ width f ∷ cuts (after start (width f) (width f)) fs n

-- the record that these words stand for: its fields are cut out of them, each at its place without a stamp
abbrev pub packed_record : ℕ → ℕ → List Field → List ℕ → Record
packed_record epid stamp fs ws = record { epid = epid; stamp = stamp; values = cuts 4 fs (number_of_words ws) }

-- how many words the text of these fields has without a stamp; none where there is no field
abbrev pub words_in : List Field → ℕ
words_in [] = 0
words_in (f ∷ fs) = ((layout header.One (f ∷ fs)).size + 7) / 8

-- the widths of the fields in one number, four bits each, the first lowest
abbrev pub signature_of : List Field → ℕ
signature_of [] = 0
signature_of (f ∷ fs) = width f + 16 * signature_of fs

-- what a caller says of its record: the EPID, and above 32 bits the widths of the fields
abbrev pub claim_of : ℕ → List Field → ℕ
claim_of epid fs = epid + 2 ^ 32 * signature_of fs

-- these fields, if this claim and this number of words are theirs
abbrev pub claimed_by : ℕ → ℕ → List Field → Option (List Field)
claimed_by claim n fs =
    if (claim_of (claim % 2 ^ 32) fs == claim) && ((words_in fs == n) && nat_lt 0 n) then Some fs else None

-- the fields that a claim of so many words is true of, if it is
abbrev pub claimed : List (List Field) → ℕ → ℕ → Option (List Field)
claimed rows claim n = option_and_then (claimed_by claim n) (enabling_of rows (claim % 2 ^ 32))

-- the claims that are true of these fields, where the first have this EPID
abbrev pub claims_from : ℕ → List (List Field) → List ℕ
claims_from epid [] = []
claims_from epid (fs ∷ rows) = claim_of epid fs ∷ claims_from (epid + 1) rows

-- those of enablings, in 64 places, of which those of no enabling hold zero
abbrev pub padded_claims : List (List Field) → List ℕ
padded_claims rows = claims_from 1 rows ++ replicate (64 - length rows) 0

-- values of fields that are laid one after the other from `start` on, each at its place, as one number
abbrev pub value_number : ℕ → List Field → List ℕ → ℕ
value_number start (f ∷ fs) (v ∷ vs) =
    v * 256 ^ rounded_up start (width f) + value_number (after start (width f) (width f)) fs vs
value_number start _ _ = 0

-- nine words hold nothing from `start` on, and there is room for these fields
pub record AreFree (start : ℕ) (fs : List Field) (ws : List ℕ) : Type 0 where
  pub near : rounded_up start 8 + 8 * length fs ≤ 72
  pub below : number_of_words ws < 256 ^ start

-- these values of fields are added to words after `start`, and the last field ends at `end`
pub record ArePacked (start : ℕ) (fs : List Field) (vs : List ℕ) (old : List ℕ) (end : ℕ) (new : List ℕ) : Type 0 where
  pub end_is : end ≡ fields_end start fs
  pub added : number_of_words new ≡ number_of_words old + value_number start fs vs

-- which bits of the words are bits of fields: a number
abbrev pub mask_number : ℕ → List Field → ℕ
mask_number start fs = value_number start fs (map limit fs)

-- the first so many words of a number
abbrev pub words_of_number : ℕ → ℕ → List ℕ
words_of_number zero n = []
words_of_number (suc k) n = n % 2 ^ 64 ∷ words_of_number k (n / 2 ^ 64)

-- which bits of nine words, as many as there can be, are bits of these fields
unfoldable pub masks_for : List Field → List ℕ
masks_for fs = words_of_number 9 (mask_number 4 fs)

-- each word with the mask at its place; no words after the last mask
abbrev pub masked_words : List ℕ → List ℕ → List ℕ
masked_words [] ms = []
masked_words (w ∷ ws) [] = []
masked_words (w ∷ ws) (m ∷ ms) = bit_and w m ∷ masked_words ws ms

-- the bytes of these words, of each the lowest first
abbrev pub bytes_of_words : List ℕ → List ℕ
bytes_of_words [] = []
bytes_of_words (w ∷ ws) = little_endian 8 w ++ bytes_of_words ws

-- the words hold nothing but fields: as far as the record's text reaches, their bytes are that text with EPID 0
abbrev pub IsClean : List Field → List ℕ → Type 0
IsClean fs ws =
    take (layout header.One fs).size (little_endian (8 * length ws) (number_of_words ws))
    ≡ record_text header.One fs (packed_record 0 0 fs ws)

-- bytes begin with the text of the record that these words stand for, by whatever fields they hold and nothing else
abbrev pub BeginsWithWords : Header → ℕ → ℕ → List ℕ → List ℕ → Type 0
BeginsWithWords h epid stamp ws bytes = (fs : List Field) → IsClean fs ws → (layout header.One fs).size ≤ 8 * length ws
    → take (layout h fs).size bytes ≡ record_text h fs (packed_record epid stamp fs ws)
