use Rattle.std.proofs.Common.{◌∙◌, Some, ap, nat_cmp}
use Rattle.dspec_word.specs.{Laws.Words.raw_is, Words.word_number}
use Rattle.dspec_word.proofs.word.WordPartialOrd.partial_cmp.Goals as goal

pub returns : goal.returns
returns c = c.partial_cmp.ensures
    ∙ ap (λ n. Some (nat_cmp n c.t2-1.inside.raw)) (raw_is c.t1-1.inside c.args.self.now c.t1-1.invariant c.t1-1.view_is)
    ∙ ap (λ n. Some (nat_cmp (word_number c.args.self.now) n)) (raw_is c.t2-1.inside c.args.other.now c.t2-1.invariant c.t2-1.view_is)
