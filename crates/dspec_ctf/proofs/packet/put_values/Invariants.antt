use Rattle.std.proofs.Common.{◌≡◌, ◌≤◌, ◌+◌, ◌*◌, ◌++◌, length}
use Rattle.std.specs.{List.flat_map, Prelude.vec_capacity, Prelude.vec_len}
use Rattle.dspec_ctf.specs.Words.{width, little_endian}
use Rattle.dspec_ctf.proofs.packet.put_values.Given as goal

abbrev pub invariant-loop-field : goal.invariant-loop-field
invariant-loop-field l = record {
  bytes : l.out.items ≡ l.initial.out.items ++ flat_map (λ p. little_endian (width p.0.now) p.1.now) l.yielded;
  long : vec_len l.out ≤ vec_len l.initial.out + 8 * length l.yielded;
  capacity : vec_capacity l.initial.out ≤ vec_capacity l.out;
}
