-- Serves proofs. What four workers are given, and give back.
use Rattle.std.specs.Prelude.{Bool}
use Rattle.dspec_session.specs.{Demonstrated.CameBack, Demonstrated.CanWork, Words.Outside.EnabledRows, Words.Outside.Cpu, Words.Outside.Shared, declared.demonstration.four.Four.Four}

-- each can make its rounds
pub record AllCanWork (shared : Shared) (cpus : Four (Cpu EnabledRows)) : Type 0 where
  pub first : CanWork shared 400 cpus.first
  pub second : CanWork shared 400 cpus.second
  pub third : CanWork shared 400 cpus.third
  pub fourth : CanWork shared 400 cpus.fourth

-- each came back to its place
pub record AllWorked (cpus : Four (Cpu EnabledRows)) (back : Four (Cpu EnabledRows × Bool)) : Type 0 where
  pub first : CameBack cpus.first back.first.0 back.first.1
  pub second : CameBack cpus.second back.second.0 back.second.1
  pub third : CameBack cpus.third back.third.0 back.third.1
  pub fourth : CameBack cpus.fourth back.fourth.0 back.fourth.1
