use Rattle.std.proofs.Common.{◌≡◌, ◌+◌, None, Ok, IfSome, map, length, option_map, if◌then◌else◌}
use Rattle.dspec_schedule.specs.Words.{HasOneHeader, lines_read, without_empty_end, plan_of}
use Rattle.dspec_schedule.proofs.schedule.read_schedule.Given as goal

abbrev pub invariant-loop-bytes : goal.invariant-loop-bytes
invariant-loop-bytes l =
    goal.iterator-loop-bytes.can_next l.bytes-iterator ×
    goal.iterator-loop-bytes.is_finite l.bytes-iterator ×
    (l.line ≡ length l.yielded) ×
    (lines_read None 1 (map (λ bytes. bytes.now) l.yielded) ≡ Ok (option_map plan_of l.schedule)) ×
    (l.line + (if l.is_open then 1 else 0) ≡ length (without_empty_end (map (λ bytes. bytes.now) l.yielded)) + 1) ×
    IfSome l.schedule (λ s. HasOneHeader (plan_of s))
