-- Serves proofs. Words from the crates below, in one place. Declares nothing.
pub use Rattle.dspec_ctf_reading.specs.Words.{IsSoundFrom, Layout, split_packet}
pub use Rattle.dspec_ctf_reading.specs.declared.fault.MetadataReadFault.{MetadataReadFault}
pub use Rattle.dspec_ctf_reading.specs.declared.fault.MetadataReadFault.TheVariants.{Line, Memory as no_memory, TooLarge}
pub use Rattle.dspec_ctf_reading.specs.declared.folder.check.Whose.{Whose}
pub use Rattle.dspec_ctf_reading.specs.declared.folder.fault.FileFault.{FileFault}
pub use Rattle.dspec_ctf_reading.specs.declared.folder.mark.Mark.{Mark}
