use Rattle.dspec_deeds.proofs.OwnAccounts.{own_report}
use Rattle.dspec_deeds.proofs.lists.own_report.Goals as goal

pub returns-clause-counts : goal.returns-clause-counts
returns-clause-counts c shape k h p cpu worn sound own is = (own_report shape k cpu worn h p sound own is).0

pub returns-clause-fates : goal.returns-clause-fates
returns-clause-fates c shape k h p cpu sound own is = (own_report shape k cpu 0 h p sound own is).1
