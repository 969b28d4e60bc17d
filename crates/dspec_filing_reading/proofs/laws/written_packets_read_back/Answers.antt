use Rattle.dspec_filing_reading.proofs.{FilesLaws.FilesLaws, Folding.written_read}
use Rattle.dspec_filing_reading.proofs.laws.written_packets_read_back.Goals as goal

pub returns : goal.returns
returns c =
    let laws : FilesLaws = record {
      join = c.files_join.ensures;
      runs = c.live_file_reads_back.ensures.runs;
      missed = c.live_file_reads_back.ensures.missed;
      have_all = c.files_have_all.ensures;
      runs_have = c.runs_have_all.ensures;
    } in
    written_read laws
