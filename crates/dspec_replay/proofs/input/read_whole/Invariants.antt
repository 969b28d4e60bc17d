use Rattle.std.proofs.Common.{◌≤◌, vec_len}
use Rattle.std.specs.Io.KnownBytes.{Consumes}
use Rattle.dspec_replay.proofs.input.read_whole.Given as goal

abbrev pub invariant-loop : goal.invariant-loop
invariant-loop g l =
    (vec_len l.bytes ≤ 1048576) × Consumes (g.R.Read.remaining l.initial.input) (g.R.Read.remaining l.input) l.bytes.items
