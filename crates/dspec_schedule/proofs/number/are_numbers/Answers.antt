use Rattle.std.proofs.Common.{rules, arith, ◌≡◌, ◌<◌, [], length, get_or, false, sym, is_ok}
use Rattle.std.proofs.lemmas.{Grind.common_steps, List.Folds.list_all_at}
use Rattle.dspec_schedule.proofs.StepLemmas.{is_ok-each}
use Rattle.dspec_schedule.specs.Words.{wide_number_of}
use Rattle.dspec_schedule.proofs.number.are_numbers.Goals as goal

pub returns-then-is_err : goal.returns-then-is_err
returns-then-is_err c =
    let here : is_ok (wide_number_of (get_or c.args.words.now c.loop-word.word-index (record { ref_ptr = (0, 0); now = [] })).now) ≡ false = search rules in
    let in_words : c.loop-word.word-index < length c.args.words.now = omega arith in
    rw (is_ok-each (λ word. word.now) wide_number_of c.args.words.now)
    (sym (list_all_at (λ word. is_ok (wide_number_of word.now)) c.args.words.now c.loop-word.word-index (record { ref_ptr = (0, 0); now = [] }) in_words here))

pub returns : goal.returns
returns c = rw (is_ok-each (λ word. word.now) wide_number_of c.args.words.now) (grind (arith, common_steps))
