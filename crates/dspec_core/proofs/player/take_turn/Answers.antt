use Rattle.std.proofs.Common.{subst, sym, ap, ◌∙◌}
use Rattle.dspec_deeds.specs.declared.calls.Actor.TheVariants as actor
use Rattle.dspec_core.specs.Words.{Turn, IsPlayingAt, begun_consumer, ran, turned, WorldView, begin_consumer}
use Rattle.dspec_core.proofs.player.take_turn.Goals as goal

pub returns-in_ok-run_actor-in-RunConsumer-clause-turned : goal.returns-in_ok-run_actor-in-RunConsumer-clause-turned
returns-in_ok-run_actor-in-RunConsumer-clause-turned g c = λ p at.
    let o = c.in-RunConsumer.op in
    let begun = c.in_default-begin_consumer.ensures.begun in
    let there : IsPlayingAt c.begin_consumer-in-RunConsumer.new.self.state c.args.answers.now (begun_consumer o p) =
    record { state = ap (λ (w : WorldView g.row.S.Denot). w.state) begun ∙ ap (begin_consumer o) at.state; told = at.told } in
    subst (λ (t : Turn). IsPlayingAt c.run_actor-in-RunConsumer.new.world.state c.run_actor-in-RunConsumer.new.answers
    (turned (g.S.Schema.shape_of c.args.world.now.schema) t p)) (sym c.in-RunConsumer.is)
    (subst (λ schema. IsPlayingAt c.run_actor-in-RunConsumer.new.world.state c.run_actor-in-RunConsumer.new.answers
    (ran (g.S.Schema.shape_of schema) actor.Consumer (begun_consumer o p)))
    (ap (λ (w : WorldView g.row.S.Denot). w.schema) begun)
    (c.in_ok-run_actor-in-RunConsumer.ensures.ran _ there))
