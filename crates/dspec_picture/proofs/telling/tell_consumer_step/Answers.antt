use Rattle.std.proofs.Common.{sym, ap, ◌∙◌}
use Rattle.dspec_picture.specs.Words.{ConsumerProgress}
use Rattle.dspec_picture.proofs.Tellable.{consumer_can_be_told}
use Rattle.dspec_picture.proofs.telling.tell_consumer_step.Goals as goal

pub tell_consumer-requires : goal.tell_consumer-requires
tell_consumer-requires g c =
    let w = c.args.world.now in
    record {
      told = consumer_can_be_told (g.S.Schema.shape_of w.schema) w.state c.requires.coherent c.in-Some.flight
          (ap (λ (side : ConsumerProgress). side.flight) (sym c.consumer-flight.ensures.value) ∙ c.in-Some.is) (c.consumer-flight.ensures.about c.in-Some.flight c.in-Some.is);
    }
