use Rattle.std.proofs.Common.{◌++◌, ◌+◌, ap, sym, ◌∙◌, rules, ◌<◌, arith}
use Rattle.dspec_session.specs.Words.{calls_of, config_of, calls, EnabledRows, CpuIdentity, opening_deeds}
use Rattle.dspec_session.proofs.Scanned.{opening_offers, opening_calls, not_worn}
use Rattle.dspec_session.proofs.demonstration.calling.speculation.Goals as goal

pub returns-clause-called : goal.returns-clause-called
returns-clause-called c =
    let o = c.speculation.ensures.does.opens in
    let a = c.speculation.result in
    let p = c.invariant.ensures.steady.list in
    let was = c.invariant.ensures.steady.listed in
    let now = o.list p was in
    let room = c.requires.unworn in
    let few : calls_of c.args.cpu.now < (config_of c.args.cpu.now).max_calls = omega arith in
    let worn = not_worn a (config_of c.args.cpu.now).max_calls (calls_of c.args.cpu.now) c.speculation.ensures.does.leaves.worn few in
    record {
      back = search rules;
      called = now.shown.side.called
          ∙ ap (λ n. calls n (opening_deeds c.args.cpu.now.cpu o.missed a ++ p)) (ap (λ (i : CpuIdentity EnabledRows). i.number) c.speculation.ensures.same)
          ∙ opening_calls c.args.cpu.now.cpu o.missed a p worn
          ∙ ap (λ n. n + 1) (sym was.shown.side.called);
      offered = λ p had. (opening_deeds c.args.cpu.now.cpu o.missed a ++ p, o.list p had, opening_offers c.args.cpu.now.cpu o.missed a p);
    }

pub returns-clause-opens : goal.returns-clause-opens
returns-clause-opens c = let o = c.speculation.ensures.does.opens in (o.missed, c.speculation.result, c.id.ensures, o.list)
