use Rattle.std.proofs.Common.{Some, sym, ap, ◌∙◌}
use Rattle.dspec_threads.specs.Words.{whereabouts}
use Rattle.dspec_threads.proofs.{Homes.out_first, Whereabouts.sends_out}
use Rattle.dspec_threads.proofs.place.LanePlace.send_out.Goals as goal

pub of-lane-requires-clause-out : goal.of-lane-requires-clause-out
of-lane-requires-clause-out g c = out_first _ _ _ c.pass-way.ensures.same.0 c.pass-way.ensures.same.2

pub returns : goal.returns
returns g c = sends_out g.D.Duty.done (whereabouts c.args.self.now) _ c.unwrap-cpu.result _ (sym c.take.ensures.value ∙ c.unwrap-cpu.ensures) c.take.ensures.after
    (ap (λ l. Some l) c.pass-way.ensures.same.1) (c.of-lane.ensures ∙ c.pass-way.ensures.same.2)
