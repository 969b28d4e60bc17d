-- Cited by calls. Bytes that are whole packets, one after another.
use Rattle.std.specs.Prelude.{◌≡◌, ◌<◌, ℕ, Bool, List, [], ◌∷◌, length, take, drop, Some, None}
use Rattle.dspec_ctf_reading.specs.{Fronts.PacketSplit, Fronts.split_packet, Packets.PacketDue, declared.folder.whole.Ending.Ending, declared.folder.whole.Ending.TheVariants.Whole}
use Rattle.dspec_ctf_reading.specs.{declared.folder.whole.Ending.TheVariants.Cut, declared.folder.whole.Ending.TheVariants.Broken}

-- the bytes are these packets, one after another, and then the rest
abbrev pub SplitsInto : Bool → List ℕ → List PacketSplit → List ℕ → Type 0
SplitsInto timed bytes [] rest = bytes ≡ rest
SplitsInto timed bytes (packet ∷ packets) rest = (split_packet timed bytes ≡ Some packet) × SplitsInto timed packet.after packets rest

-- the bytes are whole packets, and then the rest
pub record AreWholeBefore (timed : Bool) (bytes rest : List ℕ) : Type 0 where
  pub packets : List PacketSplit
  pub are : SplitsInto timed bytes packets rest

-- How a file ends: as whole packets; as whole packets up to a byte, and after it bytes with which no packet begins; or it is told why none
-- begins at a byte.
abbrev pub IsFileEnd : Bool → List ℕ → Ending → Type 0
IsFileEnd timed bytes Whole = AreWholeBefore timed bytes []
IsFileEnd timed bytes (Cut at) = AreWholeBefore timed (take at bytes) [] × (at < length bytes) × (split_packet timed (drop at bytes) ≡ None)
IsFileEnd timed bytes (Broken at fault) = (split_packet timed (drop at bytes) ≡ None) × PacketDue timed (drop at bytes) fault
