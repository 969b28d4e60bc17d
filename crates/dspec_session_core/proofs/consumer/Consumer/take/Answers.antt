use Rattle.std.proofs.{Common.ℕ, Common.◌<◌, Common.length, Common.refl, Common.sym, Common.subst, lemmas.Option.slice_get_read}
use Rattle.dspec_session_core.specs.Words.{Config}
use Rattle.dspec_session_core.proofs.Passing.{took_none, took_same, took_there}
use Rattle.dspec_session_core.proofs.consumer.Consumer.take.Goals as goal

pub returns-clause-none : goal.returns-clause-none
returns-clause-none c =
    let ends = c.self.inside.ends.items in
    let within : c.args.cpu < length ends = subst (λ (n : ℕ). c.args.cpu < n) (sym c.self.invariant.all) c.if-cpu-self.false in
    rw (← c.self.view_is)
    (took_none c.self.inside.seat ends c.args.cpu c.index_mut-end.result.now c.take.new.self c.index_mut-end.ensures.value c.take.result
    (slice_get_read ends (length ends) c.args.cpu c.index_mut-end.result.now refl within c.index_mut-end.ensures.value) c.take.ensures.none)

pub returns-clause-same : goal.returns-clause-same
returns-clause-same c =
    rw (← c.self.view_is)
    (took_same c.self.inside.seat c.self.inside.ends.items c.args.cpu c.index_mut-end.result.now c.take.new.self c.index_mut-end.ensures.value _ c.take.result c.take.ensures.took c.take.ensures.none)

pub returns-clause-took : goal.returns-clause-took
returns-clause-took c =
    let ends = c.self.inside.ends.items in
    let within : c.args.cpu < length ends = subst (λ (n : ℕ). c.args.cpu < n) (sym c.self.invariant.all) c.if-cpu-self.false in
    rw (← c.self.view_is)
    (took_there c.self.inside.seat ends c.args.cpu c.index_mut-end.result.now c.take.new.self c.index_mut-end.ensures.value c.take.result
    (subst (λ (k : Config). c.args.cpu < k.cpus) (sym c.self.invariant.config) c.if-cpu-self.false)
    (slice_get_read ends (length ends) c.args.cpu c.index_mut-end.result.now refl within c.index_mut-end.ensures.value) c.take.ensures.took)
