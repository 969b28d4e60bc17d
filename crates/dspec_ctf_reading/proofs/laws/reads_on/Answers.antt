use Rattle.dspec_ctf_reading.proofs.Bounds.{events-on, packets-on}
use Rattle.dspec_ctf_reading.proofs.laws.reads_on.Goals as goal

pub returns-clause-events : goal.returns-clause-events
returns-clause-events c = λ layout b bytes. events-on layout b bytes

pub returns-clause-packets : goal.returns-clause-packets
returns-clause-packets c = λ layout b bytes. packets-on layout b bytes
