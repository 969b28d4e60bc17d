use Rattle.dspec_ctf_reading.specs.Words.{names_by}
use Rattle.dspec_ctf_reading.proofs.{EventsRead.stamps-with-two, Timed.timed-back}
use Rattle.dspec_ctf_reading.proofs.laws.timed_file_reads_back.Goals as goal

pub returns : goal.returns
returns c = λ e names frequency uuid missed cpu rs two long low small of_rs. timed-back (names_by names) e (stamps-with-two e.header two) uuid missed cpu rs long low small of_rs
