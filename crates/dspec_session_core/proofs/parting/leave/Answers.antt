use Rattle.std.proofs.Common.{◌≡◌, ◌++◌, ◌∙◌, reverse, Option, sym, subst}
use mathlib.Core.List.{IsPrefix}
use Rattle.dspec_session_core.specs.Words.{word_at, own_closed, ConsumerKnows, held_back_of_rest, AreSealed, waiting, Batch}
use Rattle.dspec_session_core.proofs.Leavings.{closing_part, legal_now, sealed_left, shows_before}
use Rattle.dspec_session_core.proofs.parting.leave.Goals as goal

pub settle-requires-clause-some : goal.settle-requires-clause-some
settle-requires-clause-some g c =
    let s = c.requires.some in
    (c.args.end.handed, s.0, s.1, s.3, s.4.shows, closing_part _ _ _ _ s.0 s.1 s.2 s.4)

pub report-report-requires : goal.report-report-requires
report-report-requires g c =
    let s = c.requires.some in
    let rest = c.args.rest in
    let q = own_closed (g.S.Schema.shape_of rest.schema) rest.config (λ n. word_at n s.1) rest.cpu rest.config.nspec s.0 in
    let now = c.settle.ensures.list c.args.end.handed s.0 s.1 s.3 s.4.shows (closing_part _ _ _ _ s.0 s.1 s.2 s.4) in
    (c.args.end.handed, q, s.2, now, legal_now g.S.Schema.shape_of g.S.Schema.accepted g.S.Schema.text rest c.settle.new.self c.settle.ensures.same s.2 q (s.4.legal, s.4.closed))

pub returns : goal.returns
returns g c = λ p log h has is.
    let rest = c.args.rest in
    let after = c.settle.new.self in
    let end = c.args.end in
    let other = c.args.other in
    let q = own_closed (g.S.Schema.shape_of rest.schema) rest.config (λ n. word_at n log) rest.cpu rest.config.nspec p in
    let now = c.settle.ensures.list end.handed p log has is.shows (closing_part _ _ _ _ p log h is) in
    let batches = c.batches-held_back.ensures.sealed end.handed q now in
    let drained = c.drain_beside-drained.result in
    let all : other.taken ++ drained ≡ end.handed = subst (λ (e : ConsumerKnows). e.taken ++ drained ≡ end.handed) c.into_end.ensures.end c.drain_beside-drained.ensures.batches in
    let prefix : IsPrefix end.spares other.given = subst (λ (e : ConsumerKnows). IsPrefix end.spares e.given) c.into_end.ensures.end c.drain_beside-drained.ensures.spares in
    let sealed = sealed_left (g.S.Schema.shape_of after.schema) (g.S.Schema.accepted after.schema) (g.S.Schema.text after.schema) after.config after.cpu q
    c.batches-held_back.result.0 c.next-waiting.result (held_back_of_rest rest) end.handed
    end.spares other.taken other.given drained c.next-waiting.new.self c.requires.few (c.batches-held_back.ensures.rest ∙ c.settle.ensures.same.held_back) prefix
    c.into_end.ensures.order all c.next-waiting.ensures.steps batches.0 in
    shows_before g.S.Schema.shape_of g.S.Schema.accepted g.S.Schema.text rest after c.settle.ensures.same other.taken q _ record {
      sealed = subst (λ (o : Option Batch). AreSealed (g.S.Schema.shape_of after.schema) (g.S.Schema.accepted after.schema) (g.S.Schema.text after.schema) after.config
          after.cpu q (reverse (other.taken ++ waiting o))) (sym c.or.ensures) sealed;
      last = batches.1;
      report = c.report-report.ensures end.handed q h now (legal_now g.S.Schema.shape_of g.S.Schema.accepted g.S.Schema.text rest after c.settle.ensures.same h q (is.legal, is.closed));
    }
