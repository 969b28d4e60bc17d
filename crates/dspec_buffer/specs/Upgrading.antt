-- Cited by calls. Upgrading a text of records without a stamp: each record, with a stamp, in the order in which it stands.
use Rattle.std.specs.Prelude.{◌≡◌, ◌≤◌, ◌<◌, ◌++◌, ℕ, List, ◌∷◌, length, map, reverse}
use Rattle.dspec_buffer.specs.{BufferText.BufferText, Extent.Piece, Extent.one, Extent.extent, Faults.StopsAt, Stored.Stored, Stored.HasPieces, Words.Outside.Record, Words.Outside.EnabledRows}
use Rattle.dspec_buffer.specs.{Words.Outside.enabled, Words.Outside.table_shape, Words.Outside.table_accepts, Words.Outside.table_text, Words.Outside.Two}
use Rattle.dspec_buffer.specs.{declared.upgrading.UpgradeFault.UpgradeFault, declared.upgrading.UpgradeFault.TheVariants.Read, declared.upgrading.UpgradeFault.TheVariants.Full}

-- the same record with this stamp
abbrev pub stamped : ℕ → Record → Record
stamped stamp r = record { epid = r.epid; stamp = stamp; values = r.values }

-- the records with the stamp, each a piece of its own, in the order of the records; a list of pieces has the latest
-- at its head
abbrev pub all_stamped : ℕ → List Record → List Piece
all_stamped stamp rs = map one (reverse (map (stamped stamp) rs))

module _ (old : EnabledRows) where
  -- the bytes are the text of these records, by the enablings as they are
  abbrev pub IsOldText : List ℕ → List Record → Type 0
  IsOldText text rs =
      BufferText (table_shape old.header (enabled old.rows)) (table_accepts old.header (enabled old.rows)) (table_text old.header (enabled old.rows)) 0 text rs

  -- how far pieces reach, by the same enablings with a stamp
  abbrev pub new_extent : List Piece → ℕ
  new_extent ps = extent (table_shape Two (enabled old.rows)) ps

  -- a buffer has these pieces, by the same enablings with a stamp
  abbrev pub HasNew : Stored → List Piece → Type 0
  HasNew b ps =
      HasPieces (table_shape Two (enabled old.rows)) (table_accepts Two (enabled old.rows)) (table_text Two (enabled old.rows)) b ps

-- the bytes are the text of records that, with the stamp, fit so many bytes
pub record IsUpgradable (old : EnabledRows) (stamp : ℕ) (text : List ℕ) (size : ℕ) : Type 0 where
  pub all : List Record
  pub is_text : IsOldText old text all
  pub fit : new_extent old (all_stamped stamp all) ≤ size

-- the bytes are the text of `n` records, and the buffer has them in their order, with the stamp
pub record IsUpgraded (old : EnabledRows) (stamp : ℕ) (text : List ℕ) (to : Stored) (n : ℕ) : Type 0 where
  pub all : List Record
  pub is_text : IsOldText old text all
  pub number : n ≡ length all
  pub kept : HasNew old to (all_stamped stamp all)

-- the bytes are the text of records of which the first `n`, with the stamp, fit so many bytes, and one more doesn't
pub record FillsUp (old : EnabledRows) (stamp : ℕ) (text : List ℕ) (size n : ℕ) : Type 0 where
  pub before : List Record
  pub first : Record
  pub after : List Record
  pub is_text : IsOldText old text (before ++ first ∷ after)
  pub number : n ≡ length before
  pub fit : new_extent old (all_stamped stamp before) ≤ size
  pub over : size < new_extent old (one (stamped stamp first) ∷ all_stamped stamp before)

-- the fault: the one that reading stops at, or the number of the first record that doesn't fit
abbrev pub StopsUpgrade : EnabledRows → ℕ → List ℕ → ℕ → UpgradeFault → Type 0
StopsUpgrade old stamp text size (Read fault) =
    StopsAt (table_shape old.header (enabled old.rows)) (table_accepts old.header (enabled old.rows)) (table_text old.header (enabled old.rows)) text fault
StopsUpgrade old stamp text size (Full n) = FillsUp old stamp text size n
