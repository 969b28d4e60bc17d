use Rattle.std.proofs.Common.{refl}
use Rattle.dspec_deeds.proofs.{Acked.acks_rise, WordsMade.words_made, WordsMade.acks_made, WordsRise.words_rise}
use Rattle.dspec_deeds.proofs.common.word_changes.Goals as goal

pub returns-clause-words : goal.returns-clause-words
returns-clause-words c = words_made

pub returns-clause-acks : goal.returns-clause-acks
returns-clause-acks c = acks_made

pub returns-clause-activity : goal.returns-clause-activity
returns-clause-activity c d h = refl

pub returns-clause-words_rise : goal.returns-clause-words_rise
returns-clause-words_rise c = words_rise

pub returns-clause-acks_rise : goal.returns-clause-acks_rise
returns-clause-acks_rise c = acks_rise
