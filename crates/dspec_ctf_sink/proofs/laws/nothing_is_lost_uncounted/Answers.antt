use Rattle.dspec_ctf_sink.proofs.{Accounting.accounts, Timely.timed-accounts}
use Rattle.dspec_ctf_sink.proofs.laws.nothing_is_lost_uncounted.Goals as goal

pub returns-clause-taken : goal.returns-clause-taken
returns-clause-taken c = λ e old new b there is_one fits gets. accounts e old new b there is_one fits gets

pub returns-clause-timed : goal.returns-clause-timed
returns-clause-timed c = λ e old new b there is_one fits gets. timed-accounts e old new b there is_one fits gets
