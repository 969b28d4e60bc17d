use Rattle.std.proofs.Common.{rules, true, Bor, List, ℕ, arith, ◌≡◌, length-set, [], sym, map}
use Rattle.std.proofs.lemmas.{List.length-map, Result.err_from_is_err_and}
use Rattle.dspec_schedule.proofs.{ReadingLemmas.enabling_of-field_fault, StepLemmas.each-more, StepLemmas.each-fault}
use Rattle.dspec_schedule.specs.Words.{field_of_word}
use Rattle.dspec_schedule.proofs.setup.enabling.Goals as goal

pub loop-index-preserved : goal.loop-index-preserved
loop-index-preserved c = (
  omega (arith, length-set c.loop-index.fields c.loop-index.index c.in_ok-fields.field-0),
  each-more (λ word. word.now) field_of_word c.args.words.now c.loop-index.fields c.loop-index.index
      (record { ref_ptr = (0, 0); now = [] }) c.in_ok-fields.field-0 (omega arith) (omega arith) c.loop-index.invariant.1 (sym c.in_ok-fields.ensures),
)

pub returns-in_err-fields-clause-read : goal.returns-in_err-fields-clause-read
returns-in_err-fields-clause-read c =
    let fault = each-fault (λ word. word.now) field_of_word c.args.words.now _ c.loop-index.index
    (record { ref_ptr = (0, 0); now = [] }) c.in_err-fields.field-0.0 (omega arith) c.loop-index.invariant.1 (sym c.in_err-fields.ensures) in
    let before : c.args.before_turns ≡ true = search rules in
    let p = err_from_is_err_and c.from_residual.result c.from_residual.ensures.1 in
    rw (p.1, p.2, before) (enabling_of-field_fault c.args.enablings (map (λ word. word.now) c.args.words.now) c.in_err-fields.field-0.0
    (search rules) (omega (arith, length-map {A = Bor (List ℕ)} {B = List ℕ})) fault)
