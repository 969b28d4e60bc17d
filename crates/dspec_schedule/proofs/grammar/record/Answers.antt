use Rattle.std.proofs.{Common.rules, Common.Bor, Common.List, Common.ℕ, Common.arith, Common.length-set, Common.[], Common.sym, Common.map, lemmas.List.length-map, lemmas.Result.err_from_is_err_and}
use Rattle.dspec_schedule.proofs.{ReadingLemmas.record_of-values_fault, StepLemmas.each-more, StepLemmas.each-fault}
use Rattle.dspec_schedule.specs.Words.{wide_number_of}
use Rattle.dspec_schedule.proofs.grammar.record.Goals as goal

pub loop-index-preserved : goal.loop-index-preserved
loop-index-preserved c = (
  omega (arith, length-set c.loop-index.values c.loop-index.index c.in_ok-values.field-0),
  each-more (λ word. word.now) wide_number_of c.in-Some.rest.now c.loop-index.values c.loop-index.index
      (record { ref_ptr = (0, 0); now = [] }) c.in_ok-values.field-0 (omega arith) (omega arith) c.loop-index.invariant.1 (sym c.in_ok-values.ensures),
)

pub returns-in_err-values : goal.returns-in_err-values
returns-in_err-values c =
    let fault = each-fault (λ word. word.now) wide_number_of c.in-Some.rest.now _ c.loop-index.index
    (record { ref_ptr = (0, 0); now = [] }) c.in_err-values.field-0.0 (omega arith) c.loop-index.invariant.1 (sym c.in_err-values.ensures) in
    let p = err_from_is_err_and c.from_residual-in_err-values.result c.from_residual-in_err-values.ensures.1 in
    rw (p.1, p.2) (record_of-values_fault c.args.header _ c.in-Some.epid.now.now (map (λ word. word.now) c.in-Some.rest.now) (c.in_ok-epid.epid, c.in_ok-epid.stamp) c.in_err-values.field-0.0
    (search rules) (omega (arith, length-map {A = Bor (List ℕ)} {B = List ℕ})) (sym c.in_ok-epid.ensures) fault)
