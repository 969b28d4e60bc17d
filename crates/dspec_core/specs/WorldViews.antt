-- Cited by calls. What contracts see of a world: its schema, and what a play knows of it.
use Rattle.dspec_core.specs.Words.Outside.{PlayState}

pub record WorldView (S : Type 0) : Type 0 where
  pub schema : S
  pub state : PlayState
