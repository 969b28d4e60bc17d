use Rattle.std.proofs.{Common.length, Common.ap, Common.refl, Common.arith, lemmas.Bool.Decides.nat_tests}
use Rattle.dspec.specs.declared.workers.Working.{Working}
use Rattle.dspec.proofs.Working.{moved_out}
use Rattle.dspec.proofs.workers.part_again.Goals as goal

pub loop-pairs-init : goal.loop-pairs-init
loop-pairs-init g c = grind (arith, nat_tests, c.requires.emptied.0, c.requires.emptied.1, c.requires.room.0, c.requires.room.1)

pub loop-pairs-preserved : goal.loop-pairs-preserved
loop-pairs-preserved g c = record {
  cpus = moved_out (λ (p : Working g.row.W.Denot). p.cpu) _ _ _ _ _ _ _ c.first-cpu.ensures.cons refl c.push_reserved.ensures.items c.loop-pairs.invariant.cpus;
  workers = moved_out (λ (p : Working g.row.W.Denot). p.worker) _ _ _ _ _ _ _ c.first-cpu.ensures.cons refl c.push_reserved-in-loop-pairs.ensures.items c.loop-pairs.invariant.workers;
  cpus_room = omega (arith, ap length c.first-cpu.ensures.cons, c.loop-pairs.invariant.cpus_room, c.push_reserved.ensures.len, c.push_reserved.ensures.capacity);
  workers_room = omega (arith, ap length c.first-cpu.ensures.cons, c.loop-pairs.invariant.workers_room, c.push_reserved-in-loop-pairs.ensures.len, c.push_reserved-in-loop-pairs.ensures.capacity);
}
