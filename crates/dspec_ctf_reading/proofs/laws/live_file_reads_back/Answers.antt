use Rattle.std.proofs.Common.{false}
use Rattle.dspec_ctf_reading.specs.Words.{names_by}
use Rattle.dspec_ctf_reading.proofs.{EventsRead.HasStamps, EventsRead.stamps-with-two, FilledRead.batches-back, Live.runs-back, Live.missed-back}
use Rattle.dspec_ctf_reading.proofs.laws.live_file_reads_back.Goals as goal

pub returns-clause-runs : goal.returns-clause-runs
returns-clause-runs c = λ e names frequency uuid missed cpu rs file lasts new from to runs two long low small of_rs are.
    runs-back (names_by names) e (stamps-with-two e.header two) uuid missed cpu long low small rs of_rs file
    lasts from runs to new are

pub returns-clause-missed : goal.returns-clause-missed
returns-clause-missed c = λ e names frequency uuid before missed cpu lasts two long low high small at.
    missed-back (names_by names) e (stamps-with-two e.header two) uuid before missed cpu lasts long low high small at

pub returns-clause-taken : goal.returns-clause-taken
unfolding HasStamps
returns-clause-taken c = λ e names uuid cpu batches long small of_batches.
    batches-back (names_by names) false e tt uuid cpu long small batches of_batches
