use Rattle.std.proofs.{Common.◌<◌, Common.◌∙◌, Common.ℕ, Common.length, Common.refl, Common.sym, Common.ap, Common.subst, lemmas.Option.slice_get_read}
use Rattle.dspec_session_core.specs.Words.{Config}
use Rattle.dspec_session_core.proofs.Passing.{gave_same, gave_there, none_out, refused_full}
use Rattle.dspec_session_core.proofs.consumer.Consumer.give_back.Goals as goal

pub returns-clause-same : goal.returns-clause-same
returns-clause-same c =
    rw (← c.self.view_is)
    (gave_same c.self.inside.seat c.self.inside.ends.items c.args.batch.cpu c.index_mut-end.result.now c.give_back.new.self c.index_mut-end.ensures.value c.give_back.result
    c.args.batch c.give_back.ensures.given c.give_back.ensures.refused)

pub returns-clause-given : goal.returns-clause-given
returns-clause-given c =
    let ends = c.self.inside.ends.items in
    let cpu = c.args.batch.cpu in
    let within : cpu < length ends = subst (λ (n : ℕ). cpu < n) (sym c.self.invariant.all) c.if-batch-self.false in
    rw (← c.self.view_is)
    (gave_there c.self.inside.seat ends c.args.batch c.index_mut-end.result.now c.give_back.new.self c.index_mut-end.ensures.value c.give_back.result
    (subst (λ (k : Config). cpu < k.cpus) (sym c.self.invariant.config) c.if-batch-self.false)
    (slice_get_read ends (length ends) cpu c.index_mut-end.result.now refl within c.index_mut-end.ensures.value) c.if-not-has_out.ensures
    (sym c.size.ensures ∙ (c.if-size-self.false ∙ ap (λ (k : Config). k.bufsize) (sym c.self.invariant.config))) c.give_back.ensures.given)

pub returns-clause-why : goal.returns-clause-why
returns-clause-why c =
    let ends = c.self.inside.ends.items in
    let cpu = c.args.batch.cpu in
    let within : cpu < length ends = subst (λ (n : ℕ). cpu < n) (sym c.self.invariant.all) c.if-batch-self.false in
    rw (← c.self.view_is)
    (refused_full c.self.inside.seat ends c.args.batch c.index_mut-end.result.now c.give_back.new.self c.index_mut-end.ensures.value c.give_back.result
    (slice_get_read ends (length ends) cpu c.index_mut-end.result.now refl within c.index_mut-end.ensures.value) c.give_back.ensures.refused c.give_back.ensures.full)

pub returns-then-not-has_out-clause-why : goal.returns-then-not-has_out-clause-why
returns-then-not-has_out-clause-why c =
    rw (← c.self.view_is)
    (none_out c.self.inside.seat c.self.inside.ends.items c.args.batch c.index_mut-end.result.now c.index_mut-end.result.now c.index_mut-end.ensures.value c.if-not-has_out.ensures)
