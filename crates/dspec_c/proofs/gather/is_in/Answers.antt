use Rattle.dspec_c.proofs.Looking.{looked_inside, looks_at}
use Rattle.dspec_c.proofs.gather.is_in.Goals as goal

pub returns-clause-looked : goal.returns-clause-looked
returns-clause-looked c = looks_at c.args.cpu c.args.places.now.items c.index_mut.result.now c.is_in.new.self c.requires c.index_mut.ensures.value c.is_in.ensures.came

pub returns-clause-inside : goal.returns-clause-inside
returns-clause-inside c = looked_inside c.is_in.result c.args.places.now.items c.args.cpu c.is_in.new.self c.requires c.is_in.ensures.looked
