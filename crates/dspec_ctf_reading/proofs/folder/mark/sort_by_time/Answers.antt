use Rattle.std.proofs.{Common.rules, lemmas.List.Sorted.answers_always, lemmas.List.Sorted.IsNonDecreasingBy-from_sort_by_key}
use Rattle.dspec_ctf_reading.proofs.folder.mark.sort_by_time.Goals as goal

pub returns : goal.returns
returns c = record {
  permutation = c.sort_by_key.ensures.permutation;
  in_order = IsNonDecreasingBy-from_sort_by_key (λ m. m.time) _ c.in_ok-sort_by_key.ensures.sorted (λ a r q k. search rules);
  stable = c.sort_by_key.ensures.stable (λ m. m.time) (answers_always _ _ _ (λ f a r g h. search rules));
}
