use Rattle.std.proofs.Common.{sym}
use Rattle.dspec_interleaving.proofs.{WholeStates.whole_legal, WholeTurns.whole_play, WholeTurns.whole_unrefused}
use Rattle.dspec_interleaving.proofs.laws.whole_plays.Goals as goal

pub returns-clause-unrefused : goal.returns-clause-unrefused
returns-clause-unrefused c = whole_unrefused

pub returns-clause-state : goal.returns-clause-state
returns-clause-state c shape k xs fine all = sym (whole_play shape k xs fine all).state

pub returns-clause-answers : goal.returns-clause-answers
returns-clause-answers c shape k xs fine all = sym (whole_play shape k xs fine all).told

pub returns-clause-legal : goal.returns-clause-legal
returns-clause-legal c shape k xs fine all = whole_legal shape k fine xs all
