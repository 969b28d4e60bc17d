use Rattle.dspec_interleaving.proofs.SoloRelease.{decided_alone, released_next, consumer_decides_none}
use Rattle.dspec_interleaving.proofs.laws.solo_rule.Goals as goal

pub returns-clause-decided : goal.returns-clause-decided
returns-clause-decided c shape st cpu id ok lt before after = decided_alone shape st ok cpu lt id before after

pub returns-clause-released : goal.returns-clause-released
returns-clause-released c shape st cpu id f ok lt is = released_next shape st ok cpu lt id f is

pub returns-clause-consumer : goal.returns-clause-consumer
returns-clause-consumer c = consumer_decides_none
