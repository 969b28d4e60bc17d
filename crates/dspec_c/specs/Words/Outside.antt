-- Serves proofs. Words from the crates below, in one place. Declares nothing.
pub use Rattle.dspec_record.specs.Words.{claimed, enabled, EnabledRows, packed_of, packed_record, Record, stamp_fits, table_accepts, table_shape, table_text}
pub use Rattle.dspec_record.specs.declared.field.Field.{Field}
pub use Rattle.dspec_record.specs.declared.field.Field.TheVariants.{Eight, Four}
pub use Rattle.dspec_record.specs.declared.field.Shape.{Shape}
pub use Rattle.dspec_record.specs.declared.header.Header.{Header}
pub use Rattle.dspec_record.specs.declared.header.Header.TheVariants.{One, Two}
pub use Rattle.dspec_record.specs.declared.schema.Schema.{Ghosts}
pub use Rattle.dspec_word.specs.Words.{id_number, Speculation}
pub use Rattle.dspec_deeds.specs.Words.{dropped_in, report, start_fault}
pub use Rattle.dspec_deeds.specs.declared.calls.Decided.{Decided}
pub use Rattle.dspec_deeds.specs.declared.calls.Opening.{Opening}
pub use Rattle.dspec_deeds.specs.declared.calls.Served.{Served}
pub use Rattle.dspec_deeds.specs.declared.calls.Spoken.{Spoken}
pub use Rattle.dspec_deeds.specs.declared.calls.Traced.{Traced}
pub use Rattle.dspec_deeds.specs.declared.config.Config.{Config}
pub use Rattle.dspec_deeds.specs.declared.config.Policy.{Policy}
pub use Rattle.dspec_deeds.specs.declared.config.Policy.TheVariants.{Fill, Switch}
pub use Rattle.dspec_deeds.specs.declared.config.StartFault.{StartFault}
pub use Rattle.dspec_deeds.specs.declared.deed.Deed.{Deed}
pub use Rattle.dspec_deeds.specs.declared.report.Report.{Report}
pub use Rattle.dspec_promise.specs.Words.{By, commit, discard}
pub use Rattle.dspec_table.specs.Words.{last_seat, set_up}
pub use Rattle.dspec_ring.specs.Words.{Pair}
pub use Rattle.dspec_ring.specs.declared.batch.Batch.{Batch}
pub use Rattle.dspec_cpu.specs.Words.{Belongs, called, CommitsIfRoom, config_of, CpuIdentity, DecidesOne, drops_told, identity, IsBlockAt, IsCallable, IsOpenAt, number_in, OffersValues, OpensOne}
pub use Rattle.dspec_cpu.specs.Words.{RecordsValues, schema_of, ServesOnce, SpeculatesOne, TracesOne, words_of, worn_of}
pub use Rattle.dspec_cpu.specs.declared.cpu.Cpu.{Cpu}
pub use Rattle.dspec_cpu.specs.declared.shared.Shared.{Shared}
pub use Rattle.dspec_paths.specs.Words.{AdoptsPath, BeginsPath, counted_begin, counted_discard, counted_end, counted_in, counted_loss, DiscardsPath, has_part_at, IsAlone, KeepsPart, LacksRoom}
pub use Rattle.dspec_paths.specs.Words.{meant_path, no_counts, Places, places_of, TurnsPath}
pub use Rattle.dspec_paths.specs.declared.lent_cpu.LentCpu.{LentCpu}
pub use Rattle.dspec_paths.specs.declared.open_path.OpenPath.{OpenPath}
pub use Rattle.dspec_paths.specs.declared.path_counts.PathCounts.{PathCounts}
pub use Rattle.dspec_paths.specs.declared.path_end.PathEnd.{PathEnd}
pub use Rattle.dspec_paths.specs.declared.path_key.PathKey.{PathKey}
pub use Rattle.dspec_paths.specs.declared.paths.Paths.{Paths}
pub use Rattle.dspec_paths.specs.declared.whose.WhosePaths.{WhosePaths}
pub use Rattle.dspec_parking.specs.Words.{AreSums, ExpiresBlocks, nothing_parked, ParkingState, ParksBlock, TakesInto, told_at}
pub use Rattle.dspec_parking.specs.declared.parked.Parked.{Parked}
pub use Rattle.dspec_parking.specs.declared.parked_block.ParkedBlock.{ParkedBlock}
pub use Rattle.dspec_parking.specs.declared.parking_counts.ParkingCounts.{ParkingCounts}
pub use Rattle.dspec_parking.specs.declared.parking_key.ParkingKey.{ParkingKey}
pub use Rattle.dspec_parking.specs.declared.passed_places.PassedPlaces.{PassedPlaces}
pub use Rattle.dspec_session_core.specs.Words.{Asked, Awaited, called_at, Cleaned, Consuming, entered_at, FoundNone, GaveBack, Has, IsConsumerOf, IsCpuOf, IsFresh, IsNotTakenBack, IsPromisedBy}
pub use Rattle.dspec_session_core.specs.Words.{IsSameConsumer, IsSession, pairs_of, set_up_of, Stopped, taken_at, Took, view_of}
pub use Rattle.dspec_session_core.specs.declared.left.Left.{Left}
pub use Rattle.dspec_session_core.specs.declared.session.Session.{Session}
pub use Rattle.dspec_ctf.specs.Words.{CpuFiling, Hands, HandsNone, has_no_rest, HasAsMuchRoom, HasNoBatch, no_packets, OpensBatch, PutsMetadata, PutsNone, Reserves, SwapRooms, unwritten}
pub use Rattle.dspec_ctf.specs.Words.{with_more_missed, without_rest}
pub use Rattle.dspec_ctf.specs.declared.fault.MetadataFault.{MetadataFault}
pub use Rattle.dspec_ctf.specs.declared.fault.NameFault.{NameFault}
pub use Rattle.dspec_ctf.specs.declared.in_memory.fault.PutFault.{PutFault}
pub use Rattle.dspec_ctf.specs.declared.in_memory.fault.TextFault.{TextFault}
pub use Rattle.dspec_ctf.specs.declared.in_memory.identity.TraceIdentity.{TraceIdentity}
pub use Rattle.dspec_ctf.specs.declared.in_memory.packet.Packet.{Packet}
pub use Rattle.dspec_ctf.specs.declared.stream.PacketFault.{PacketFault}
