-- Cited by calls. That a call heeds a stop.
use Rattle.std.specs.Prelude.{◌≡◌, Bool, true, false}
use Rattle.dspec_cpu.specs.{Words.Outside.Decided, Words.Outside.Spoken, Words.Outside.Traced, Words.Outside.halted, Words.Outside.View, declared.reaching.Reach.Reach}
use Rattle.dspec_deeds.specs.declared.calls.Decided.TheVariants as decided
use Rattle.dspec_deeds.specs.declared.calls.Spoken.TheVariants as spoken
use Rattle.dspec_deeds.specs.declared.calls.Traced.TheVariants as traced
use Rattle.dspec_cpu.specs.declared.reaching.Reach.TheVariants as reach

-- Where the seat had been shown the stop, by a meeting or by a call before, a call that isn't worn is answered so; and it is
-- answered so only where the session was stopped.
pub record StopsWhereMet (v : View) (worn stopped : Bool) (w : View) : Type 0 where
  pub met : halted v.seen ≡ true → worn ≡ false → stopped ≡ true
  pub only : stopped ≡ true → halted w.seen ≡ true

abbrev pub is_stopped_trace : Traced → Bool
is_stopped_trace traced.Stopped = true
is_stopped_trace a = false

abbrev pub is_stopped_spoken : Spoken → Bool
is_stopped_spoken spoken.Stopped = true
is_stopped_spoken a = false

abbrev pub is_stopped_decided : Decided → Bool
is_stopped_decided decided.Stopped = true
is_stopped_decided a = false

abbrev pub is_stopped_reach : Reach → Bool
is_stopped_reach reach.Stopped = true
is_stopped_reach a = false
