use Rattle.std.proofs.{Common.arith, lemmas.Bool.Decides.nat_tests}
use Rattle.dspec_threads.proofs.MoreVerdicts.{said_to_one, said_within}
use Rattle.dspec_threads.proofs.boarding.Judge.say.Goals as goal

pub returns-clause-says : goal.returns-clause-says
returns-clause-says g c = grind (arith, nat_tests, said_to_one, c.len.ensures, c.if-index-len.false, c.index_mut-sayer.ensures.value, c.say.ensures.said)

pub returns-clause-room : goal.returns-clause-room
returns-clause-room g c = grind (arith, nat_tests, said_within, c.len.ensures, c.if-index-len.false, c.index_mut-sayer.ensures.value, c.say.ensures.room)
