use Rattle.dspec_core.proofs.OwnSlots.{mark_there}
use Rattle.dspec_picture.proofs.showing.is_marked.Goals as goal

pub is_mine-requires : goal.is_mine-requires
is_mine-requires g c = let st = c.args.world.now.state in record { slot = mark_there _ _ st.config c.args.cpu st.deeds _ c.side.ensures c.args.id c.requires.slot }
