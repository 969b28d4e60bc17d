-- Cited by calls. What a fault of a packet says of its bytes.
use Rattle.std.specs.Prelude.{◌≡◌, ◌≢◌, ◌<◌, ◌-◌, ◌/◌, ◌%◌, ℕ, Bool, List, length, drop, IfSome, IsSomeAnd, MatchOption}
use Rattle.dspec_ctf_reading.specs.Faults.{EventsDue}
use Rattle.dspec_ctf_reading.specs.Fronts.{split_packet}
use Rattle.dspec_ctf_reading.specs.Reading.{Layout, FrontRead, read_number, read_front}
use Rattle.dspec_ctf_reading.specs.declared.fault.PacketReadFault.{PacketReadFault}
use Rattle.dspec_ctf_reading.specs.declared.fault.PacketReadFault.TheVariants.{Cut, Magic, Stream, ContentWithinByte, PacketWithinByte, BeforeEvents, AfterPacket, AfterFile}
use Rattle.dspec_ctf_reading.specs.declared.fault.WholePacketFault.{WholePacketFault, TheVariants.Packet, TheVariants.Events}

-- Of bytes that begin with no front: another magic number stands there, or another stream; or neither, and so they are cut.
abbrev pub FrontDue : List ℕ → PacketReadFault → Type 0
FrontDue bytes Cut = IfSome (read_number 4 bytes) (λ p. p.0 ≡ 3254525889) × IfSome (read_number 4 (drop 20 bytes)) (λ p. p.0 ≡ 0)
FrontDue bytes (Magic magic) = IsSomeAnd (read_number 4 bytes) (λ p. (p.0 ≡ magic) × (magic ≢ 3254525889))
FrontDue bytes (Stream stream) = IsSomeAnd (read_number 4 (drop 20 bytes)) (λ p. (p.0 ≡ stream) × (stream ≢ 0))
FrontDue bytes _ = ⊥

-- Of a front whose sizes don't agree, of which so many bytes were read, in a file of so many bytes.
abbrev pub SizesDue : FrontRead → ℕ → ℕ → PacketReadFault → Type 0
SizesDue front read there (ContentWithinByte size) = (front.content_size ≡ size) × (size % 8 ≢ 0)
SizesDue front read there (PacketWithinByte size) = (front.packet_size ≡ size) × (size % 8 ≢ 0)
SizesDue front read there (BeforeEvents size) = (front.content_size ≡ size) × (size / 8 < read)
SizesDue front read there (AfterPacket content packet) = (front.content_size ≡ content) × (front.packet_size ≡ packet) × (packet < content)
SizesDue front read there (AfterFile size) = (front.packet_size ≡ size) × (there < size / 8)
SizesDue front read there _ = ⊥

-- Of bytes that begin with no packet: there is no front, or its sizes don't agree.
abbrev pub PacketDue : Bool → List ℕ → PacketReadFault → Type 0
PacketDue timed bytes fault =
    MatchOption (read_front timed bytes) (FrontDue bytes fault) (λ p. SizesDue p.0 (length bytes - length p.1) (length bytes) fault)

-- Of bytes that begin with no packet whose events can be read.
abbrev pub WholeDue : Layout → List ℕ → WholePacketFault → Type 0
WholeDue layout bytes (Packet fault) = PacketDue layout.timed bytes fault
WholeDue layout bytes (Events fault) = IsSomeAnd (split_packet layout.timed bytes) (λ packet. EventsDue layout packet.body fault)
