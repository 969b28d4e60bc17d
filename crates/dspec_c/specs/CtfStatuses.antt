-- Cited by calls. The numbers of the statuses of a trace's calls.
use Rattle.std.specs.Prelude.{ℕ}
use Rattle.dspec_c.specs.Words.Outside.{MetadataFault, NameFault, PacketFault, PutFault, TextFault}
use Rattle.dspec_ctf.specs.declared.fault.MetadataFault.TheVariants as metadata
use Rattle.dspec_ctf.specs.declared.fault.NameFault.TheVariants as name
use Rattle.dspec_ctf.specs.declared.stream.PacketFault.TheVariants as packet
use Rattle.dspec_ctf.specs.declared.in_memory.fault.PutFault.TheVariants as put
use Rattle.dspec_ctf.specs.declared.in_memory.fault.TextFault.TheVariants as text

-- records have no stamps; no packet is left
abbrev pub no_stamp : ℕ
no_stamp = 12

abbrev pub no_packet : ℕ
no_packet = 24

abbrev pub packet_status : PacketFault → ℕ
packet_status (packet.Text fault) = 16
packet_status packet.Missed = 34
packet_status packet.TooLong = 26
packet_status (packet.Clock place) = 25
packet_status packet.Memory = 7

abbrev pub put_status : PutFault → ℕ
put_status (put.TooSmall needed) = 23
put_status (put.Packet fault) = packet_status fault

-- how many bytes are needed, where that is why; else what was there stays
abbrev pub needed_of : PutFault → ℕ → ℕ
needed_of (put.TooSmall needed) was = needed
needed_of (put.Packet fault) was = was

-- a name that can't be used; no word of a text is a bad kind
abbrev pub name_status : NameFault → ℕ
name_status (name.Word epid place) = 27
name_status fault = 14

abbrev pub metadata_status : MetadataFault → ℕ
metadata_status metadata.NoStamp = 12
metadata_status metadata.NoFrequency = 13
metadata_status (metadata.Name fault) = name_status fault
metadata_status metadata.HostName = 28
metadata_status metadata.ProcessName = 28
metadata_status metadata.Memory = 7

abbrev pub text_status : TextFault → ℕ
text_status (text.TooSmall needed) = 23
text_status text.NotText = 14
text_status text.BadKind = 27
text_status text.Count = 15
text_status (text.Metadata fault) = metadata_status fault

-- likewise of a text
abbrev pub text_size : TextFault → ℕ → ℕ
text_size (text.TooSmall needed) was = needed
text_size text.NotText was = was
text_size text.BadKind was = was
text_size text.Count was = was
text_size (text.Metadata fault) was = was
