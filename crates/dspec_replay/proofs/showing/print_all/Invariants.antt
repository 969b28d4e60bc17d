use Rattle.std.proofs.Common.{◌≡◌, ◌++◌, take, string_bytes}
use Rattle.dspec_replay.specs.Words.{all_buffers}
use Rattle.dspec_replay.proofs.showing.print_all.Given as goal

abbrev pub invariant-loop-cpu : goal.invariant-loop-cpu
invariant-loop-cpu l =
    string_bytes l.text ≡ string_bytes l.initial.text ++ all_buffers l.initial.header (take l.cpu l.all)
