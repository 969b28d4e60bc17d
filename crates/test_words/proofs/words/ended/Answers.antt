use Rattle.std.proofs.Common.{[], ◌∷◌, ◌++◌, sym, ap, subst, ◌∙◌}
use Rattle.test_words.specs.Words.{AreSeats}
use Rattle.test_words.proofs.Pairs.{are_two}
use Rattle.test_words.proofs.words.ended.Goals as goal

pub gather-requires-clause-seats : goal.gather-requires-clause-seats
gather-requires-clause-seats c =
    let items = c.in_ok-push-2.ensures.items ∙ ap (λ l. l ++ c.args.second ∷ []) (c.in_ok-push.ensures.items ∙ ap (λ l. l ++ c.args.first ∷ []) c.new-seats.ensures.items) in
    subst (AreSeats c.args.words) (sym items) (are_two c.args.words c.args.first c.args.second c.requires.sizes.0 c.requires.first c.requires.second)
