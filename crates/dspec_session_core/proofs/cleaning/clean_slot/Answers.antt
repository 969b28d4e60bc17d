use Rattle.std.proofs.Common.{◌∙◌, ℕ, ap, sym, subst}
use Rattle.dspec_session_core.specs.Words.{awaits, MayReap, known_there, Acknowledged, MissesOne, CleanedSlot, waits_for_none, waits_for_one, Config}
use Rattle.dspec_session_core.proofs.Acknowledging.{may_reap, reaped}
use Rattle.dspec_session_core.proofs.cleaning.clean_slot.Goals as goal

pub returns-then-not-waits-clause-cleaned : goal.returns-then-not-waits-clause-cleaned
returns-then-not-waits-clause-cleaned c = waits_for_none c.load_word-word.ensures.step (ap awaits (sym c.code.ensures) ∙ (sym c.waits.ensures ∙ c.if-not-waits.true))

pub returns-then-not-is_acknowledged-clause-cleaned : goal.returns-then-not-is_acknowledged-clause-cleaned
returns-then-not-is_acknowledged-clause-cleaned c =
    waits_for_one c.load_word-word.ensures.step (ap awaits (sym c.code.ensures) ∙ (sym c.waits.ensures ∙ c.if-not-waits.false))
    (subst (λ (n : ℕ). MissesOne c.args.config.now c.args.slot n (known_there c.load_word-word.new.self) (known_there c.is_acknowledged.new.seat)) c.issue.ensures.value
    c.if-not-is_acknowledged.ensures.looked)

pub reap_word-requires-clause-last : goal.reap_word-requires-clause-last
reap_word-requires-clause-last c =
    let acks = subst (λ (n : ℕ). Acknowledged c.args.slot n (known_there c.load_word-word.new.self) c.args.config.now.cpus (known_there c.is_acknowledged.new.seat))
    c.issue.ensures.value c.if-not-is_acknowledged.ensures.looked in
    (may_reap c.args.config.now c.args.slot (known_there c.args.seat.now) (known_there c.load_word-word.new.self) (known_there c.is_acknowledged.new.seat)
    c.load_word-word.result c.args.seat.now.who_is c.requires.slot.0 c.requires.slot.1
    c.load_word-word.ensures.step (ap awaits (sym c.code.ensures) ∙ (sym c.waits.ensures ∙ c.if-not-waits.false)) acks).0

pub reap_word-requires-clause-call : goal.reap_word-requires-clause-call
reap_word-requires-clause-call c =
    let acks = subst (λ (n : ℕ). Acknowledged c.args.slot n (known_there c.load_word-word.new.self) c.args.config.now.cpus (known_there c.is_acknowledged.new.seat))
    c.issue.ensures.value c.if-not-is_acknowledged.ensures.looked in
    let may = (may_reap c.args.config.now c.args.slot (known_there c.args.seat.now) (known_there c.load_word-word.new.self) (known_there c.is_acknowledged.new.seat)
    c.load_word-word.result c.args.seat.now.who_is c.requires.slot.0 c.requires.slot.1
    c.load_word-word.ensures.step (ap awaits (sym c.code.ensures) ∙ (sym c.waits.ensures ∙ c.if-not-waits.false)) acks).1 in
    subst (λ (k : Config). MayReap k (known_there c.is_acknowledged.new.seat) c.args.slot c.load_word-word.result) c.requires.config may

pub returns-clause-cleaned : goal.returns-clause-cleaned
returns-clause-cleaned c =
    let acks = subst (λ (n : ℕ). Acknowledged c.args.slot n (known_there c.load_word-word.new.self) c.args.config.now.cpus (known_there c.is_acknowledged.new.seat))
    c.issue.ensures.value c.if-not-is_acknowledged.ensures.looked in
    let done = reaped c.args.config.now c.args.slot (known_there c.args.seat.now) (known_there c.load_word-word.new.self) (known_there c.is_acknowledged.new.seat)
    (known_there c.reap_word.new.self) c.load_word-word.result c.reap_word.result
    c.load_word-word.ensures.step (ap awaits (sym c.code.ensures) ∙ (sym c.waits.ensures ∙ c.if-not-waits.false)) acks c.reap_word.ensures.step c.reap_word.ensures.always in
    subst (λ b. CleanedSlot c.args.config.now c.args.slot (known_there c.args.seat.now) b (known_there c.reap_word.new.self)) (sym c.is_ok.ensures.value) done
