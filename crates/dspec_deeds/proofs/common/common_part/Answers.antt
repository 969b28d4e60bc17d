use Rattle.dspec_deeds.proofs.CommonDeeds.{same_facts, same_follows, same_sound, same_authors, same_shown}
use Rattle.dspec_deeds.proofs.common.common_part.Goals as goal

pub returns-clause-facts : goal.returns-clause-facts
returns-clause-facts c = same_facts

pub returns-clause-follows : goal.returns-clause-follows
returns-clause-follows c = same_follows

pub returns-clause-sound : goal.returns-clause-sound
returns-clause-sound c = same_sound

pub returns-clause-authors : goal.returns-clause-authors
returns-clause-authors c = same_authors

pub returns-clause-shows : goal.returns-clause-shows
returns-clause-shows c = same_shown
