-- What the clauses of the calls say of the probes, the sink and the report.
use Rattle.std.proofs.Common.{◌≡◌, List, [], ◌∷◌, ◌++◌, length, ap, ◌∙◌, sym, subst}
use Rattle.dspec_record.specs.EnablingRows.{EnabledRows}
use Rattle.dspec_record.specs.declared.field.Field.{Field}
use Rattle.dspec_deeds.specs.declared.config.Config.{Config}
use Rattle.dspec_probe.specs.Declarations.{Declared}
use Rattle.dspec_probe.specs.Probes.{IsProbeOf}
use Rattle.tour.specs.Requests.{request_fields, touch_fields}
use Rattle.tour.proofs.Touring.{toured}
use Rattle.tour.proofs.tour.Goals as goal

pub returns : goal.returns
returns g c =
    let e = c.enablings.result in
    let request = c.in_ok-request.request in
    let touch = c.in_ok-touch.touch in
    let one = c.in_ok-request.ensures.declared in
    let both = c.in_ok-touch.ensures.declared in
    let first : c.probe.new.self.schema.rows ≡ request_fields ∷ [] =
    ap (λ (x : EnabledRows). x.rows) one.schema ∙ ap (λ (d : Declared). d.schema.rows ++ request_fields ∷ []) c.unstamped-probes.ensures in
    let second : c.probe-2.new.self.schema.rows ≡ request_fields ∷ touch_fields ∷ [] =
    ap (λ (x : EnabledRows). x.rows) both.schema ∙ ap (λ (xs : List (List Field)). xs ++ touch_fields ∷ []) first in
    let is = sym c.enablings.ensures in
    let request-has = subst (λ (x : EnabledRows). IsProbeOf request_fields request x) is (both.earlier request.header request.epid request_fields one.has) in
    let touch-has = subst (λ (x : EnabledRows). IsProbeOf touch_fields touch x) is both.has in
    let kept = c.in_ok-records.ensures.records in
    let cpus = ap (λ (k : Config). k.cpus) c.of-config.ensures in
    toured e (record { request = request; touch = touch }) c.of-config.result c.new-kept.result c.trace.new.sink c.in_ok-closed.closed
    c.closed_cpu.result.report.now c.in_ok-records.records.items request-has touch-has (one.epid ∙ ap (λ (xs : List (List Field)). length xs) first)
    (both.epid ∙ ap (λ (xs : List (List Field)). length xs) second)
    cpus c.new-kept.ensures kept.1 kept.0 (c.in_ok-closed.ensures.all ∙ cpus) c.closed_cpu.ensures.report c.in_ok-closed.ensures.traced
