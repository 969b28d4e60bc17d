use Rattle.std.proofs.Common.{refl, sym}
use Rattle.dspec_core.specs.Words.{history}
use Rattle.dspec_core.proofs.{MachineReads.cpu_read, OwnSlots.among_is, OwnSlots.caller_is, OwnSlots.mark_there, OwnSlots.place_there}
use Rattle.dspec_core.proofs.machine.Machine.see_room.Goals as goal

pub is_mine-mine-requires : goal.is_mine-mine-requires
is_mine-mine-requires g c =
    let m = c.args.self.now in
    let own = c.index.result.now in
    record { slot = mark_there _ _ m.config c.args.cpu (history m) own.side (cpu_read _ _ m c.requires.shown c.args.cpu own c.requires.cpu c.index.ensures).side c.args.id c.requires.slot }

pub fits_slot-fits-requires : goal.fits_slot-fits-requires
fits_slot-fits-requires g c =
    let m = c.args.self.now in
    let own = c.index.result.now in
    let side = (cpu_read _ _ m c.requires.shown c.args.cpu own c.requires.cpu c.index.ensures).side in
    record { slot = place_there _ _ m.config c.args.cpu (history m) own.side side c.args.id c.requires.slot; accepted = c.requires.accepted }

pub returns : goal.returns
returns g c =
    let m = c.args.self.now in
    let a = c.args.cpu in
    let id = c.args.id in
    let h = history m in
    let own = c.index.result.now in
    let side = (cpu_read _ _ m c.requires.shown a own c.requires.cpu c.index.ensures).side in
    let tells = c.is_mine-mine.ensures.tells in
    record {
      room = λ now. record {
        mine = among_is _ _ m.config a h own.side side id c.requires.slot c.requires.cpu c.requires.sound (sym now) c.is_mine-mine.result tells;
        fits = c.fits_slot-fits.ensures a h side (caller_is _ _ m.config a h own.side side id c.requires.slot c.requires.cpu c.requires.sound (sym now) c.is_mine-mine.result tells);
      };
      rest = refl;
    }
