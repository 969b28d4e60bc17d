use Rattle.std.proofs.Common.{◌≡◌, ◌++◌, drop, map, string_bytes}
use Rattle.std.specs.List.{flat_map, enumerate_from}
use Rattle.dspec_ctf.specs.Words.{label_item}
use Rattle.dspec_ctf.proofs.printing.print_labels.Given as goal

abbrev pub invariant-loop-number : goal.invariant-loop-number
invariant-loop-number l =
    string_bytes l.text ++ flat_map label_item (enumerate_from l.number-counter (map (λ label. label.now) (drop l.number-counter l.labels)))
    ≡ string_bytes l.initial.text ++ flat_map label_item (enumerate_from 0 (map (λ label. label.now) l.labels))
