use Rattle.std.proofs.Common.{sym, ◌∙◌}
use Rattle.dspec_session.specs.Words.{demonstrated}
use Rattle.dspec_session.proofs.Ended.{all_told}
use Rattle.dspec_session.proofs.demonstration.ending.end.Goals as goal

pub finish-requires : goal.finish-requires
finish-requires c = record { session = (demonstrated, c.requires.session) }

pub returns-clause-told : goal.returns-clause-told
returns-clause-told c =
    all_told _ _ _ _ c.args.session.cpus.items _ _ _ c.finish.result 200 (c.finish.ensures.closed demonstrated c.requires.session)
    c.requires.offered (c.requires.session.all ∙ sym c.finish.ensures.all)

pub returns-clause-closed : goal.returns-clause-closed
returns-clause-closed c = c.finish.ensures.closed demonstrated c.requires.session
