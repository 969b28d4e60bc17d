-- A step of a path offers a record to it, and nothing else is done.
use Rattle.std.proofs.Common.{◌∙◌, subst}
use Rattle.dspec_deeds.specs.FateAnswers.{id_given}
use Rattle.dspec_cpu.specs.Called.{CallsMade, called}
use Rattle.examples.specs.WatchServing.{OffersAlone, nothing, one_step}
use Rattle.examples.proofs.watch.serving.handle.Goals as goal

pub loop-place-init : goal.loop-place-init
loop-place-init c = (
  c.path-path.ensures.same,
  subst (λ (x : CallsMade). OffersAlone (id_given c.path-path.result.opening) x (called c.path-path.new.self.cpu.now)) c.path-path.ensures.does.tells nothing,
)

pub loop-place-preserved : goal.loop-place-preserved
loop-place-preserved c = (c.record_in.ensures.same ∙ c.loop-place.invariant.0, one_step _ c.record_in.result _ c.loop-place.invariant.1 c.record_in.ensures.does.tells)
