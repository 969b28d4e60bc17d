-- Cited by calls. The packets of a CPU by time: which records they have, in which order, and the bytes of them all.
use Rattle.std.specs.{List.flat_map, List.range_with_len, List.Sorted.IsPermutation, List.Sorted.IsNonDecreasingBy, List.Sorted.IsStableByKey, Option.option_map_or, Ordering.nat_cmp, Prelude.◌≡◌}
use Rattle.std.specs.{Prelude.ℕ, Prelude.◌+◌, Prelude.◌-◌, Prelude.◌*◌, Prelude.◌/◌, Prelude.◌==◌, Prelude.◌<◌, Prelude.List, Prelude.[], Prelude.◌∷◌, Prelude.◌++◌, Prelude.length, Prelude.take}
use Rattle.std.specs.{Prelude.drop, Prelude.slice_index_or, Prelude.slice_get, Prelude.Some, Prelude.if◌then◌else◌}
use Rattle.dspec_ctf.specs.{Packets.events, Packets.packet_around, Streams.IsText, Words.Outside.Record, Words.Outside.EnabledRows, Words.Outside.enabled, Words.Outside.table_shape}
use Rattle.dspec_ctf.specs.{Words.Outside.table_accepts, Words.Outside.table_text, Words.Outside.StopsAt, declared.by_time.TimeFault.TimeFault, declared.by_time.TimeFault.TheVariants.NoStamp}
use Rattle.dspec_ctf.specs.{declared.by_time.TimeFault.TheVariants.Text, declared.by_time.TimeFault.TheVariants.Memory}
use Rattle.dspec_record.specs.declared.header.Header.TheVariants as header

-- the same records in the order of their stamps; those of one stamp in the order that they had
pub record IsByStamp (rs sorted : List Record) : Type 0 where
  pub permutation : IsPermutation rs sorted
  pub in_order : IsNonDecreasingBy (λ r. r.stamp) sorted
  pub stable : IsStableByKey (λ r. r.stamp) nat_cmp rs sorted

-- the stamp of the first record and of the last; zeros where there is none
abbrev pub span_of : List Record → ℕ × ℕ
span_of rs = (option_map_or (λ r. r.stamp) (slice_get rs 0) 0, option_map_or (λ r. r.stamp) (slice_get rs (length rs - 1)) 0)

-- How many packets there are: each but the last has 4,096 events. Without records there is one, where something was
-- missed.
abbrev pub packet_count : ℕ → ℕ → ℕ
packet_count missed n = if n == 0 then (if missed == 0 then 0 else 1) else (n + 4095) / 4096

-- the records of the packet at this place, counted from 0
unfoldable pub part_at : List Record → ℕ → List Record
part_at rs place = take 4096 (drop (4096 * place) rs)

module _ (uuid : List ℕ) (e : EnabledRows) (missed cpu : ℕ) where
  -- a packet of these records, with the stamps of the first and of the last
  abbrev pub timed_packet : ℕ → List Record → List ℕ
  timed_packet told rs = packet_around uuid (Some (span_of rs)) told cpu (events e rs)

  -- the packet at this place of so many; the last tells how many events were missed
  unfoldable pub packet_at : List Record → ℕ → ℕ → List ℕ
  packet_at rs count place = timed_packet (if place + 1 == count then missed else 0) (part_at rs place)

  -- all packets of these records
  unfoldable pub timed_packets : List Record → List ℕ
  timed_packets rs =
      flat_map (packet_at rs (packet_count missed (length rs))) (range_with_len 0 (packet_count missed (length rs)))

module _ (e : EnabledRows) where
  -- the records of these texts, one text's after another's
  abbrev pub AreTexts : List (List ℕ) → List Record → Type 0
  AreTexts [] rs = rs ≡ []
  AreTexts (text ∷ texts) rs =
      (first : List Record) × ((rest : List Record) × (IsText e text first × (AreTexts texts rest × (rs ≡ first ++ rest))))

  -- The bytes are the packets of the records of all texts, by time. Each record has a stamp.
  pub record ArePacketsOf (uuid : List ℕ) (missed cpu : ℕ) (texts : List (List ℕ)) (bytes : List ℕ) : Type 0 where
    pub stamped : e.header ≡ header.Two
    pub read : List Record
    pub are_texts : AreTexts texts read
    pub sorted : List Record
    pub by_stamp : IsByStamp read sorted
    pub bytes_are : bytes ≡ timed_packets uuid e missed cpu sorted

  -- The bytes are the packets of these records, by time. Each has a stamp.
  pub record ArePacketsOfRecords (uuid : List ℕ) (missed cpu : ℕ) (rs : List Record) (bytes : List ℕ) : Type 0 where
    pub stamped : e.header ≡ header.Two
    pub sorted : List Record
    pub by_stamp : IsByStamp rs sorted
    pub bytes_are : bytes ≡ timed_packets uuid e missed cpu sorted

  -- the records of this text were added after others
  pub record IsAdded (text : List ℕ) (before after : List Record) : Type 0 where
    pub added : List Record
    pub is_text : IsText e text added
    pub grown : after ≡ before ++ added

  -- why there are no records of the text with this number
  abbrev pub IsNoText : ℕ → List ℕ → TimeFault → Type 0
  IsNoText number text NoStamp = ⊥
  IsNoText number text (Text n fault) =
      (n ≡ number)
      × StopsAt (table_shape e.header (enabled e.rows)) (table_accepts e.header (enabled e.rows)) (table_text e.header (enabled e.rows)) text fault
  IsNoText number text Memory = Unit

  -- Why texts have no packets by time: records have no stamp, or they have one, this text isn't one, and those before it are.
  abbrev pub HasNoPackets : List (List ℕ) → TimeFault → Type 0
  HasNoPackets texts NoStamp = e.header ≡ header.One
  HasNoPackets texts (Text number fault) =
      (e.header ≡ header.Two)
      × ((number < length texts)
      × (((rs : List Record) × AreTexts (take number texts) rs)
      × IsNoText number (slice_index_or texts number []) (Text number fault)))
  HasNoPackets texts Memory = Unit
