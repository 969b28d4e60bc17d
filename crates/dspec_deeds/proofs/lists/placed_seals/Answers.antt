use Rattle.dspec_deeds.proofs.PlacedSeals.{placed_legal}
use Rattle.dspec_deeds.proofs.lists.placed_seals.Goals as goal

pub returns-clause-legal : goal.returns-clause-legal
returns-clause-legal c shape k w placed sound none authors own = ((placed_legal shape k w placed sound none authors own).0, authors)

pub returns-clause-rests : goal.returns-clause-rests
returns-clause-rests c shape k w placed sound none authors own = (placed_legal shape k w placed sound none authors own).1
