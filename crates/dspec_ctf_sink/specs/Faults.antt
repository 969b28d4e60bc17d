-- Cited by calls. Why a place takes no bytes, and why no place is made.
use Rattle.std.specs.{IoError.raw_os_error, Prelude.ℤ, Prelude.pos, Prelude.Bool, Prelude.true, Prelude.false, Prelude.unwrap_or, declared.io.Error.Error}
use Rattle.dspec_ctf.specs.declared.fault.MetadataFault.TheVariants as metadata
use Rattle.dspec_ctf_sink.specs.Words.Outside.{PacketFault, MetadataFault}
use Rattle.dspec_ctf_sink.specs.declared.fault.FolderFault.{FolderFault}
use Rattle.dspec_ctf_sink.specs.declared.fault.FolderFault.TheVariants.{Cpu, Cut, Memory, Metadata, NotEmpty, Packet, Read, Write}
use Rattle.dspec_ctf.specs.declared.stream.PacketFault.TheVariants as packet

-- the system's number of a fault of input or output, 0 where it gave none
abbrev pub system_code : Error → ℤ
system_code fault = unwrap_or (raw_os_error fault) (pos 0)

-- what a place that takes files answers where it took a write not or not whole: it can't be written, or memory was wanting
abbrev pub IsWriteFault : FolderFault → Type 0
IsWriteFault (Write code) = Unit {0}
IsWriteFault Cut = Unit {0}
IsWriteFault Memory = Unit {0}
IsWriteFault NotEmpty = ⊥
IsWriteFault (Metadata fault) = ⊥
IsWriteFault (Packet cpu fault) = ⊥
IsWriteFault (Cpu cpu) = ⊥
IsWriteFault Read = ⊥

-- what is answered where a folder isn't taken for a trace: it has files in it, can't be looked into or can't be made
abbrev pub IsFolderFault : FolderFault → Type 0
IsFolderFault NotEmpty = Unit {0}
IsFolderFault Read = Unit {0}
IsFolderFault (Write code) = Unit {0}
IsFolderFault Memory = Unit {0}
IsFolderFault (Metadata fault) = ⊥
IsFolderFault (Packet cpu fault) = ⊥
IsFolderFault (Cpu cpu) = ⊥
IsFolderFault Cut = ⊥

-- memory was wanting for the metadata
abbrev pub is_metadata_memory : MetadataFault → Bool
is_metadata_memory metadata.Memory = true
is_metadata_memory metadata.NoStamp = false
is_metadata_memory metadata.NoFrequency = false
is_metadata_memory (metadata.Name fault) = false
is_metadata_memory metadata.HostName = false
is_metadata_memory metadata.ProcessName = false

-- memory was wanting for a packet
abbrev pub is_packet_memory : PacketFault → Bool
is_packet_memory packet.Memory = true
is_packet_memory (packet.Text fault) = false
is_packet_memory packet.Missed = false
is_packet_memory packet.TooLong = false
is_packet_memory (packet.Clock place) = false

-- memory was wanting, wherever that was
abbrev pub is_memory : FolderFault → Bool
is_memory Memory = true
is_memory (Metadata fault) = is_metadata_memory fault
is_memory (Packet cpu fault) = is_packet_memory fault
is_memory NotEmpty = false
is_memory (Cpu cpu) = false
is_memory Read = false
is_memory (Write code) = false
is_memory Cut = false
