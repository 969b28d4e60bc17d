use Rattle.std.proofs.Common.{[]}
use Rattle.dspec_ctf.proofs.Filling.{missed-whole, none-fits, packets-whole, portions-all, portions-fit}
use Rattle.dspec_ctf.proofs.laws.packets_are_whole.Goals as goal

pub returns-clause-records : goal.returns-clause-records
returns-clause-records c = λ timed rs. portions-all timed c.args._enablings.now [] rs

pub returns-clause-fit : goal.returns-clause-fit
returns-clause-fit c = λ timed rs of_rs. portions-fit timed c.args._enablings.now [] rs (none-fits timed c.args._enablings.now) of_rs

pub returns-clause-sizes : goal.returns-clause-sizes
returns-clause-sizes c = λ timed uuid missed cpu rs long of_rs. packets-whole timed c.args._enablings.now uuid missed cpu rs long of_rs

pub returns-clause-missed : goal.returns-clause-missed
returns-clause-missed c = λ uuid before missed cpu lasts long. missed-whole uuid before missed cpu lasts long
