use Rattle.std.proofs.Common.{◌≡◌, ◌++◌, take, string_bytes}
use Rattle.std.specs.List.{flat_map}
use Rattle.dspec_replay.specs.Words.{buffer_lines}
use Rattle.dspec_replay.proofs.showing.print_buffers.Given as goal

abbrev pub invariant-loop-buffer : goal.invariant-loop-buffer
invariant-loop-buffer l =
    string_bytes l.text ≡ string_bytes l.initial.text ++ flat_map (buffer_lines l.initial.header l.initial.cpu) (take l.buffer-index l.buffer-items)
