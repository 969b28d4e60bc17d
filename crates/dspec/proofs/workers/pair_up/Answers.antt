use Rattle.std.proofs.{Common.length, Common.ap, Common.◌∙◌, Common.refl, Common.arith, lemmas.Bool.Decides.nat_tests}
use Rattle.dspec.specs.declared.workers.Working.{Working}
use Rattle.dspec.proofs.Working.{moved_in}
use Rattle.dspec.proofs.workers.pair_up.Goals as goal

pub loop-cpus-init : goal.loop-cpus-init
loop-cpus-init g c = grind (arith, nat_tests, c.requires.room.0, c.requires.count, c.requires.room.1)

pub loop-cpus-preserved : goal.loop-cpus-preserved
loop-cpus-preserved g c = record {
  cpus = moved_in (λ (p : Working g.row.W.Denot). p.cpu) _ _ _ c.first-cpu.result _ _ _ c.first-cpu.ensures.cons refl c.push_reserved.ensures.items c.loop-cpus.invariant.cpus;
  workers = moved_in (λ (p : Working g.row.W.Denot). p.worker) _ _ _ c.first-worker.result _ _ _ c.first-worker.ensures.cons refl c.push_reserved.ensures.items c.loop-cpus.invariant.workers;
  count = omega (arith, ap length c.first-cpu.ensures.cons, ap length c.first-worker.ensures.cons, c.loop-cpus.invariant.count);
  room = omega (arith, ap length c.first-cpu.ensures.cons, c.loop-cpus.invariant.room, c.push_reserved.ensures.len, c.push_reserved.ensures.capacity);
  cpus_room = c.first-cpu.ensures.capacity ∙ c.loop-cpus.invariant.cpus_room;
  workers_room = c.first-worker.ensures.capacity ∙ c.loop-cpus.invariant.workers_room;
}
