use Rattle.std.proofs.{Common.rules, Common.◌-◌, lemmas.List.Sorted.IsNonDecreasingBy-from_sort_by_key}
use Rattle.dspec_trace_view.proofs.paths.put_longest_first.Goals as goal

pub returns : goal.returns
returns c = IsNonDecreasingBy-from_sort_by_key (λ path. 18446744073709551615 - path.took) _ c.in_ok-sort_by_key.ensures.sorted (λ a r q k. search rules)
