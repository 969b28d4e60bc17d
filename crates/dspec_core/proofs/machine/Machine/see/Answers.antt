-- What the machine keeps of the call's slot and of the CPU, and what the call measures.
use Rattle.std.proofs.{Common.◌≡◌, Common.false, Common.length, Common.sym, Common.ap, Common.◌∙◌, Common.subst, Common.arith, lemmas.Bool.Decides.nat_tests}
use Rattle.dspec_core.specs.Words.{aimed, callers, fits_held, held, history, is_among, issue, IsSlot, Speculation, CallPlace, TellsAt}
use Rattle.dspec_core.specs.declared.machine.seen.Seen.{Seen}
use Rattle.dspec_core.proofs.{Driving.place_aimed, Driving.place_slot, Driving.seen_of, Driving.sees, MachineReads.cpu_read, MachineReads.cpu_got, OneMore.progress_there, OneMore.read_place}
use Rattle.dspec_core.proofs.{OwnSlots.ack_there, OwnSlots.among_is, OwnSlots.caller_is, OwnSlots.mark_there, OwnSlots.place_there, Seeing.begun_told, Seeing.held_told}
use Rattle.dspec_core.proofs.machine.Machine.see.Goals as goal

pub aim-id-requires-clause-slot : goal.aim-id-requires-clause-slot
aim-id-requires-clause-slot g c = place_slot c.requires.kept c.args.cpu c.requires.cpu c.args.place.now c.requires.flight

pub overflow_sub-slot : goal.overflow_sub-slot
overflow_sub-slot g c = grind (arith, nat_tests, place_aimed, c.slot.ensures.value, c.requires.kept, c.requires.cpu, c.requires.flight, c.aim-id.ensures)

pub index-word-requires : goal.index-word-requires
index-word-requires g c = grind (arith, nat_tests, place_aimed, read_place, c.requires.kept, c.requires.cpu, c.requires.flight, c.aim-id.ensures, c.requires.kept.shown, c.slot.ensures.value)

pub index-acked-requires : goal.index-acked-requires
index-acked-requires g c =
    let m = c.args.self.now in
    let slot = place_aimed c.requires.kept c.args.cpu c.requires.cpu c.args.place.now c.requires.flight c.aim-id.result c.aim-id.ensures in
    let shows = cpu_read _ _ m c.requires.kept.shown c.args.cpu c.index-own.result.now c.requires.cpu c.index-own.ensures in
    let there = ack_there _ _ m.config c.args.cpu (history m) _ shows.side c.aim-id.result slot in
    let named = c.slot.ensures.value in
    let low = there.0 in
    let high = there.1 in
    omega arith

pub fits-fits-requires : goal.fits-fits-requires
fits-fits-requires g c =
    let passes = c.requires.kept.accepted_records c.args.cpu c.args.place.now c.requires.cpu c.requires.flight in
    record { accepted = grind (arith, nat_tests, passes, c.in-Begun.is, c.in-Trace.is) }

pub is_mine-mine-requires : goal.is_mine-mine-requires
is_mine-mine-requires g c =
    let m = c.args.self.now in
    let slot = place_aimed c.requires.kept c.args.cpu c.requires.cpu c.args.place.now c.requires.flight c.aim-id.result c.aim-id.ensures in
    let shows = cpu_read _ _ m c.requires.kept.shown c.args.cpu c.index-own.result.now c.requires.cpu c.index-own.ensures in
    record { slot = mark_there _ _ m.config c.args.cpu (history m) _ shows.side c.aim-id.result slot }

pub measure-copies-requires : goal.measure-copies-requires
measure-copies-requires g c =
    let m = c.args.self.now in
    let slot = place_aimed c.requires.kept c.args.cpu c.requires.cpu c.args.place.now c.requires.flight c.aim-id.result c.aim-id.ensures in
    let shows = cpu_read _ _ m c.requires.kept.shown c.args.cpu c.index-own.result.now c.requires.cpu c.index-own.ensures in
    record { slot = place_there _ _ m.config c.args.cpu (history m) _ shows.side c.aim-id.result slot }

pub returns-in-Trace-clause-at : goal.returns-in-Trace-clause-at
returns-in-Trace-clause-at g c =
    sees c.requires.kept c.args.cpu c.requires.cpu c.args.place.now c.requires.flight
    _ c.aim-id.ensures _ c.index-own.ensures _ c.slot.ensures.value _ c.index-word.ensures _ c.index-acked.ensures _ _ _ _

pub returns-in-Trace-clause-own : goal.returns-in-Trace-clause-own
returns-in-Trace-clause-own g c =
    let m = c.args.self.now in
    let side = (cpu_read _ _ m c.requires.kept.shown c.args.cpu c.index-own.result.now c.requires.cpu c.index-own.ensures).side in
    rw (c.in-Begun.is, c.in-Trace.is) (c.fits-fits.ensures c.args.cpu (history m) side)

pub returns-in_default-op : goal.returns-in_default-op
returns-in_default-op g c = record {
  at = sees c.requires.kept c.args.cpu c.requires.cpu c.args.place.now c.requires.flight
      _ c.aim-id.ensures _ c.index-own.ensures _ c.slot.ensures.value _ c.index-word.ensures _ c.index-acked.ensures _ _ _ _;
  own = rw (c.in-Begun.is) (begun_told (g.S.Schema.shape_of c.args.self.now.schema) c.args.self.now.config c.args.cpu (history c.args.self.now)
      (seen_of c.args.self.now c.args.cpu c.index-own.result.now c.index-word.result.now c.index-acked.result.now false false false 0) c.in-Begun.op c.in_default-op.not-Trace);
  me = sym (progress_there c.args.self.now.cpus.items c.args.cpu c.index-own.result.now (cpu_got _ _ c.args.self.now c.requires.kept.shown c.args.cpu _ c.requires.cpu c.index-own.ensures));
}

pub returns-in_default : goal.returns-in_default
returns-in_default g c =
    let m = c.args.self.now in
    let a = c.args.cpu in
    let h = history m in
    let id = c.aim-id.result in
    let own = c.index-own.result.now in
    let side = (cpu_read _ _ m c.requires.kept.shown a own c.requires.cpu c.index-own.ensures).side in
    let slot = place_aimed c.requires.kept a c.requires.cpu c.args.place.now c.requires.flight id c.aim-id.ensures in
    let sound = c.requires.kept.coherent.legal.0 in
    let tells = c.is_mine-mine.ensures.tells in
    let same = c.aim-id.ensures in
    record {
      at = sees c.requires.kept a c.requires.cpu c.args.place.now c.requires.flight _ same _ c.index-own.ensures _ c.slot.ensures.value _ c.index-word.ensures _ c.index-acked.ensures _ _ _ _;
      own = held_told (g.S.Schema.shape_of m.schema) m.config a h
          (seen_of m a own c.index-word.result.now c.index-acked.result.now c.is_mine-mine.result false c.measure-copies.result.0 c.measure-copies.result.1)
          c.args.place.now c.in_default.not-Begun c.in_default.not-SpeculateLoad c.in_default.not-SpeculateTry (λ now.
          let now' : issue id.slot h ≡ id.issue = subst (λ (j : Speculation). issue j.slot h ≡ j.issue) (sym same) (sym now) in
          let caller = caller_is _ _ m.config a h own.side side id slot c.requires.cpu sound now' c.is_mine-mine.result tells in
          record {
            mine = among_is _ _ m.config a h own.side side id slot c.requires.cpu sound now' c.is_mine-mine.result tells ∙ ap (λ j. is_among a (callers j h)) same;
            copies = c.measure-copies.ensures.fits m.schema a h side caller ∙ ap (fits_held (g.S.Schema.shape_of m.schema) m.config a h) same;
            count = c.measure-copies.ensures.count m.schema a h side caller ∙ ap (λ j. length (held a j h)) same;
          });
      me = sym (progress_there m.cpus.items a own (cpu_got _ _ m c.requires.kept.shown a own c.requires.cpu c.index-own.ensures));
    }

pub see_room-requires : goal.see_room-requires
see_room-requires g c =
    let m = c.args.self.now in
    let passes = c.requires.kept.accepted_records c.args.cpu c.args.place.now c.requires.cpu c.requires.flight in
    record {
      shown = c.requires.kept.shown;
      cpu = c.requires.cpu;
      sound = c.requires.kept.coherent.legal.0;
      slot = subst (λ (f : CallPlace). IsSlot m.config (aimed (history m) f).slot) c.in-SpeculateLoad.is (place_slot c.requires.kept c.args.cpu c.requires.cpu c.args.place.now c.requires.flight);
      accepted = grind (arith, nat_tests, passes, c.in-SpeculateLoad.is);
    }

pub see_room-requires-in-SpeculateTry : goal.see_room-requires-in-SpeculateTry
see_room-requires-in-SpeculateTry g c =
    let m = c.args.self.now in
    let passes = c.requires.kept.accepted_records c.args.cpu c.args.place.now c.requires.cpu c.requires.flight in
    record {
      shown = c.requires.kept.shown;
      cpu = c.requires.cpu;
      sound = c.requires.kept.coherent.legal.0;
      slot = subst (λ (f : CallPlace). IsSlot m.config (aimed (history m) f).slot) c.in-SpeculateTry.is (place_slot c.requires.kept c.args.cpu c.requires.cpu c.args.place.now c.requires.flight);
      accepted = grind (arith, nat_tests, passes, c.in-SpeculateTry.is);
    }

pub returns-in-SpeculateLoad : goal.returns-in-SpeculateLoad
returns-in-SpeculateLoad g c =
    let m = c.args.self.now in
    let a = c.args.cpu in
    let own = c.index-own.result.now in
    let seen = c.see_room.result in
    let rest = c.see_room.ensures.rest in
    record {
      at = subst (TellsAt m.config a (history m) (aimed (history m) c.args.place.now)) (sym rest) (sees c.requires.kept a c.requires.cpu c.args.place.now c.requires.flight
          _ c.aim-id.ensures own c.index-own.ensures _ c.slot.ensures.value _ c.index-word.ensures _ c.index-acked.ensures seen.mine seen.fits false 0);
      own = rw (c.in-SpeculateLoad.is) c.see_room.ensures.room;
      me = ap (λ (x : Seen). x.me) rest ∙ sym (progress_there m.cpus.items a own (cpu_got _ _ m c.requires.kept.shown a own c.requires.cpu c.index-own.ensures));
    }

pub returns-in-SpeculateTry : goal.returns-in-SpeculateTry
returns-in-SpeculateTry g c =
    let m = c.args.self.now in
    let a = c.args.cpu in
    let own = c.index-own.result.now in
    let seen = c.see_room-in-SpeculateTry.result in
    let rest = c.see_room-in-SpeculateTry.ensures.rest in
    record {
      at = subst (TellsAt m.config a (history m) (aimed (history m) c.args.place.now)) (sym rest) (sees c.requires.kept a c.requires.cpu c.args.place.now c.requires.flight
          _ c.aim-id.ensures own c.index-own.ensures _ c.slot.ensures.value _ c.index-word.ensures _ c.index-acked.ensures seen.mine seen.fits false 0);
      own = rw (c.in-SpeculateTry.is) c.see_room-in-SpeculateTry.ensures.room;
      me = ap (λ (x : Seen). x.me) rest ∙ sym (progress_there m.cpus.items a own (cpu_got _ _ m c.requires.kept.shown a own c.requires.cpu c.index-own.ensures));
    }
