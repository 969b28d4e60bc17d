use Rattle.std.proofs.Common.{◌∙◌}
use Rattle.dspec_core.specs.Words.{history, settled_fate}
use Rattle.dspec_core.proofs.OwnBlocks.{block_buffer, block_caller, block_mark, present_block}
use Rattle.dspec_core.proofs.machine.Machine.settle_fate.Goals as goal

pub is_mine-mine-requires : goal.is_mine-mine-requires
is_mine-mine-requires g c = record { slot = block_mark (present_block c.requires.shown c.requires.cpu c.index.ensures c.requires.sound c.requires.slot c.requires.present) }

pub measure-fits-requires : goal.measure-fits-requires
measure-fits-requires g c = record { slot = block_buffer (present_block c.requires.shown c.requires.cpu c.index.ensures c.requires.sound c.requires.slot c.requires.present) }

pub returns : goal.returns
returns g c =
    let m = c.args.self.now in
    let block = present_block c.requires.shown c.requires.cpu c.index.ensures c.requires.sound c.requires.slot c.requires.present in
    let caller = block_caller block c.is_mine-mine.ensures.tells in
    let count = c.measure-fits.ensures.count m.schema c.args.cpu (history m) block.shows.side caller in
    c.settled_as.ensures ∙ (λ i. settled_fate c.args.code ((c.measure-fits.ensures.fits m.schema c.args.cpu (history m) block.shows.side caller) i) (count i))
