use Rattle.std.proofs.Common.{Some, None, true, false}
use Rattle.dspec_ctf_reading.specs.Words.{names_by}
use Rattle.dspec_ctf_reading.proofs.{EventsRead.HasStamps, EventsRead.stamps-with-two, PacketsRead.HasSpan, PacketsRead.packet-back}
use Rattle.dspec_ctf_reading.proofs.laws.packet_reads_back.Goals as goal

pub returns-clause-taken : goal.returns-clause-taken
unfolding HasStamps HasSpan
returns-clause-taken c = λ e names uuid missed cpu rs rest long few small low of_rs. packet-back (names_by names) false e tt uuid None missed cpu rs rest long tt few small low of_rs

pub returns-clause-timed : goal.returns-clause-timed
unfolding HasSpan
returns-clause-timed c = λ e names frequency uuid span missed cpu rs rest two long begins ends few small low of_rs.
    packet-back (names_by names) true e (stamps-with-two e.header two) uuid (Some span) missed cpu rs rest long (begins, ends) few small low of_rs
