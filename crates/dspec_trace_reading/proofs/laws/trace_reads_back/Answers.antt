use Rattle.dspec_trace_reading.proofs.Read.{kept_read, taken_read}
use Rattle.dspec_trace_reading.proofs.laws.trace_reads_back.Goals as goal

pub returns : goal.returns
returns g c = record {
  taken = taken_read c.args._schema.now _ c.metadata_reads_back.ensures c.live_file_reads_back.ensures.taken;
  kept = kept_read c.args._schema.now _ c.metadata_reads_back.ensures c.live_file_reads_back.ensures.taken;
}
