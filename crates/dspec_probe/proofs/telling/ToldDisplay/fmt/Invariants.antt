-- The fields in front of this place are written.
use Rattle.std.proofs.Common.{IfSome}
use Rattle.std.specs.Fmt.{HasWritten, IsPlainFormatter}
use Rattle.dspec_probe.specs.Words.{told_fields}
use Rattle.dspec_probe.proofs.telling.ToldDisplay.fmt.Given as goal

abbrev pub invariant-loop-place : goal.invariant-loop-place
invariant-loop-place g l =
    IsPlainFormatter l.initial.f → IfSome (told_fields l.self l.place) (λ bs. HasWritten g.W.Write.write_str_gives l.initial.f bs l.f)
