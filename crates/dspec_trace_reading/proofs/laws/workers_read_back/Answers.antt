use Rattle.dspec_filing_reading.proofs.FilesLaws.{FilesLaws}
use Rattle.dspec_trace_reading.proofs.Read.{kept_read, taken_read, timed_kept_read, timed_read}
use Rattle.dspec_trace_reading.proofs.laws.workers_read_back.Goals as goal

pub returns : goal.returns
returns g c =
    let laws : FilesLaws = record {
      join = c.files_join.ensures;
      runs = c.live_file_reads_back.ensures.runs;
      missed = c.live_file_reads_back.ensures.missed;
      have_all = c.files_have_all.ensures;
      runs_have = c.runs_have_all.ensures;
    } in
    record {
      taken = λ workers back. taken_read c.args._schema.now _ c.metadata_reads_back.ensures c.live_file_reads_back.ensures.taken;
      kept = λ workers back. kept_read c.args._schema.now _ c.metadata_reads_back.ensures c.live_file_reads_back.ensures.taken;
      timed = λ workers back. timed_read c.args._schema.now _ c.metadata_reads_back.ensures laws;
      timed_kept = λ workers back. timed_kept_read c.args._schema.now _ c.metadata_reads_back.ensures laws;
    }
