use Rattle.std.proofs.Common.{◌≡◌, ◌++◌, drop, string_bytes, codes, decimal}
use Rattle.std.specs.List.{flat_map, enumerate_from}
use Rattle.dspec_ctf.specs.Words.{field_line, numbered_lines}
use Rattle.dspec_ctf.proofs.printing.print_numbered.Given as goal

abbrev pub invariant-loop-place : goal.invariant-loop-place
invariant-loop-place l =
    string_bytes l.text ++ flat_map (λ p. field_line (codes "arg_" ++ decimal p.0) p.1) (enumerate_from l.place-counter (drop l.place-counter l.fields))
    ≡ string_bytes l.initial.text ++ numbered_lines l.fields
