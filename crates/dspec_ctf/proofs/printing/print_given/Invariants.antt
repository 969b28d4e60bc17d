use Rattle.std.proofs.Common.{◌≡◌, ◌++◌, drop, string_bytes}
use Rattle.std.specs.List.{flat_map, enumerate_from}
use Rattle.dspec_ctf.specs.Words.{given_line, given_lines}
use Rattle.dspec_ctf.proofs.printing.print_given.Given as goal

abbrev pub invariant-loop-place : goal.invariant-loop-place
invariant-loop-place l =
    string_bytes l.text ++ flat_map (λ p. given_line l.event p.0 p.1) (enumerate_from l.place (drop l.place l.fields))
    ≡ string_bytes l.initial.text ++ given_lines l.event l.fields
