use Rattle.std.proofs.Common.{◌≡◌, ◌++◌, string_bytes}
use Rattle.std.specs.List.{flat_map}
use Rattle.dspec_schedule.specs.Words.{cpu_lines}
use Rattle.dspec_schedule.proofs.printing.print_cpus.Given as goal

abbrev pub invariant-loop-cpu : goal.invariant-loop-cpu
invariant-loop-cpu l =
    string_bytes l.text ≡ string_bytes l.initial.text ++ flat_map (λ cpu. cpu_lines l.initial.header (cpu.0, (cpu.1.0.now, cpu.1.1.now))) l.yielded
