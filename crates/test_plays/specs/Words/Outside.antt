-- Serves proofs. Words from the crates below, in one place. Declares nothing.
pub use Rattle.dspec_deeds.specs.declared.calls.Actor.{Actor}
pub use Rattle.dspec_deeds.specs.declared.calls.Actor.TheVariants.{Consumer, Cpu}
pub use Rattle.dspec_deeds.specs.declared.config.Config.{Config}
pub use Rattle.dspec_interleaving.specs.Words.{is_actor, is_idle, PlayState}
