use Rattle.dspec_filing_reading.proofs.FilesLaws.{FilesLaws}
use Rattle.dspec_trace_reading.proofs.Read.{timed_kept_read, timed_read}
use Rattle.dspec_trace_reading.proofs.laws.timed_trace_reads_back.Goals as goal

pub returns : goal.returns
returns g c =
    let laws : FilesLaws = record {
      join = c.files_join.ensures;
      runs = c.live_file_reads_back.ensures.runs;
      missed = c.live_file_reads_back.ensures.missed;
      have_all = c.files_have_all.ensures;
      runs_have = c.runs_have_all.ensures;
    } in
    record {
      whole = timed_read c.args._schema.now _ c.metadata_reads_back.ensures laws;
      kept = timed_kept_read c.args._schema.now _ c.metadata_reads_back.ensures laws;
    }
