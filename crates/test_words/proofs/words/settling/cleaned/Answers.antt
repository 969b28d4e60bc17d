use Rattle.std.proofs.Common.{◌∙◌, sym, arith}
use Rattle.test_words.specs.Words.{known_there}
use Rattle.test_words.proofs.Turns.{both_acked, reaps_waits}
use Rattle.test_words.proofs.words.settling.cleaned.Goals as goal

pub reap_word-requires-clause-call : goal.reap_word-requires-clause-call
reap_word-requires-clause-call c =
    let word = c.load_word-word.result in
    record {
      low = omega arith;
      high = let one = c.requires.sizes.1 in omega arith;
      waits = reaps_waits word c.in-Attempt._free (sym c.reap_at.ensures ∙ c.in-Attempt.is);
      acked = both_acked c.args.words.now.config (known_there c.load_word-word.new.self) (known_there c.load_ack-first.new.self) (known_there c.load_ack-second.new.self)
          word.issue c.load_ack-first.result c.load_ack-second.result c.requires.sizes.0
          c.load_ack-first.ensures.step c.load_ack-second.ensures.step (let a = c.if-first-issue.false in let i = c.issue.ensures.value in omega arith)
          (let b = c.if-second-issue.false in let i = c.issue-2.ensures.value in omega arith);
    }
