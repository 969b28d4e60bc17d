use Rattle.test_sessions.proofs.cpus.playing.session.Goals as goal

pub returns-clause-first : goal.returns-clause-first
returns-clause-first g c = rw c.make-shared.ensures (c.in_ok-first.ensures.of c.in_ok-words.words c.in_ok-words.ensures.first.0)

pub returns-clause-second : goal.returns-clause-second
returns-clause-second g c = rw c.make-shared.ensures (c.in_ok-second.ensures.of c.in_ok-words.words c.in_ok-words.ensures.second.0)
