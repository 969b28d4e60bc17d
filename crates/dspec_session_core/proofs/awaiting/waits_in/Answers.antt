use Rattle.std.proofs.Common.{◌∙◌, ℕ, ap, sym, subst}
use Rattle.std.specs.Prelude.{nat_le}
use Rattle.dspec_session_core.specs.{Awaiting.waits_for_none, Words.awaits, Words.known_there, Words.AwaitedIn, Words.waits_for_all}
use Rattle.dspec_session_core.proofs.awaiting.waits_in.Goals as goal

pub returns-then-not-waits-clause-awaited : goal.returns-then-not-waits-clause-awaited
returns-then-not-waits-clause-awaited c = waits_for_none c.load_word-word.ensures.step (ap awaits (sym c.code.ensures) ∙ (sym c.waits.ensures ∙ c.if-not-waits.true))

pub returns-clause-awaited : goal.returns-clause-awaited
returns-clause-awaited c =
    subst (λ (n : ℕ). AwaitedIn c.args.cpu c.args.slot (known_there c.args.seat.now) (nat_le c.load_ack.result n) (known_there c.load_ack.new.self)) (sym c.issue.ensures.value)
    (waits_for_all c.load_word-word.ensures.step (ap awaits (sym c.code.ensures) ∙ (sym c.waits.ensures ∙ c.if-not-waits.false)) c.load_ack.ensures.step)
