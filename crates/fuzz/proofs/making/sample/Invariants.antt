-- The turns so far are whole calls.
use Rattle.std.proofs.Common.{All, IsSome}
use Rattle.fuzz.specs.Words.{whole_call_of}
use Rattle.fuzz.proofs.making.sample.Given as goal

abbrev pub invariant-loop : goal.invariant-loop
invariant-loop l = All (λ turn. IsSome (whole_call_of turn)) l.sample.schedule.turns.items
