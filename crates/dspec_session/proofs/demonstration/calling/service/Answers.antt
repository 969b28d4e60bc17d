use Rattle.std.proofs.Common.{◌++◌, ap, sym, ◌∙◌, rules}
use Rattle.dspec_session.specs.Words.{calls, EnabledRows, CpuIdentity, with_seal}
use Rattle.dspec_session.proofs.Servings.{service_reads}
use Rattle.dspec_session.proofs.demonstration.calling.service.Goals as goal

pub returns-clause-served : goal.returns-clause-served
returns-clause-served c =
    let s = c.service.ensures.does.serves in
    let number = c.args.cpu.now.cpu in
    let sealed = c.service.result.sealed in
    let was = c.invariant.ensures.steady.listed in
    let now = s.list c.invariant.ensures.steady.list was in
    record {
      back = search rules;
      called = now.shown.side.called
          ∙ ap (λ n. calls n (s.settles ++ with_seal sealed number c.invariant.ensures.steady.list)) (ap (λ (i : CpuIdentity EnabledRows). i.number) c.service.ensures.same)
          ∙ (service_reads _ number _ _ s.settles c.invariant.ensures.steady.list sealed s.slots).1
          ∙ sym was.shown.side.called;
      offered = λ p had. (s.settles ++ with_seal sealed number p, s.list p had, (service_reads _ number _ _ s.settles p sealed s.slots).0);
    }

pub returns-clause-services : goal.returns-clause-services
returns-clause-services c = (c.service.result, c.service.ensures.does.serves)
