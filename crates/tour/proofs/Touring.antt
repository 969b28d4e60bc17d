-- What tour's session gives back, by what `trace` says of it.
use Rattle.std.proofs.Common.{◌≡◌, ◌<◌, List, [], ◌∷◌, ◌++◌, length, Some, None, sym, ap, ◌∙◌, subst, arith}
use Rattle.std.specs.Prelude.{slice_get}
use Rattle.std.proofs.lemmas.List.{append_assoc}
use Rattle.dspec_record.specs.Record.{Record}
use Rattle.dspec_record.specs.EnablingRows.{EnabledRows}
use Rattle.dspec_record.specs.Schemas.{enabled, table_shape, table_accepts, table_text}
use Rattle.dspec_deeds.specs.declared.config.Config.{Config}
use Rattle.dspec_deeds.specs.declared.report.Report.{Report}
use Rattle.dspec_promise.specs.Deeds.{all_did}
use Rattle.dspec_promise.specs.Promise.{Promise}
use Rattle.dspec_cpu.specs.Called.{no_calls}
use Rattle.dspec_cpu.specs.Sealed.{waiting}
use Rattle.dspec_session_core.specs.declared.left.Left.{Left}
use Rattle.dspec_session_core.specs.Promised.{HoldRecords}
use Rattle.dspec_session_core.proofs.PromisedBy.{there_is}
use Rattle.dspec.specs.SinkRecords.{SinkRecords, KeepsBatch, no_records}
use Rattle.dspec.specs.Passed.{AreFrom}
use Rattle.dspec.specs.Serving.{ThenServed}
use Rattle.dspec.specs.Traced.{IsTraced}
use Rattle.dspec.proofs.KeptAll.{kept_all}
use Rattle.dspec.proofs.Serving.{settled_after, settled_by}
use Rattle.tour.specs.declared.Requests.{Requests}
use Rattle.dspec_probe.specs.Probes.{IsProbeOf, epid_of_probe}
use Rattle.tour.specs.Requests.{DoesRequests, MakesRequests, request_fields, touch_fields}
use Rattle.tour.specs.Toured.{IsTour}

module _ (e : EnabledRows) (work : Requests) (k : Config) (old new : SinkRecords) (left : List Left) (report : Report) (records : List Record) where
  pub toured : IsProbeOf request_fields work.request e → IsProbeOf touch_fields work.touch e → epid_of_probe work.request ≡ 1 → epid_of_probe work.touch ≡ 2
      → k.cpus ≡ 1 → old ≡ no_records → new.fault ≡ None → records ≡ new.records
      → length left ≡ 1 → ((l : Left) → slice_get left 0 ≡ Some l → report ≡ l.report)
      → IsTraced (KeepsBatch e) (ThenServed (λ c before after. DoesRequests e work before after)) (table_shape e.header (enabled e.rows)) (table_accepts e.header (enabled e.rows))
      (table_text e.header (enabled e.rows)) k old left new
      → IsTour records report
  toured request-has touch-has request-is touch-is one begun fine kept count told traced =
      let some : 0 < length left = omega arith in
      let first : 0 < k.cpus = omega arith in
      let (l, at) = there_is left 0 some in
      let mine = traced.promised.each 0 l at in
      let hold = subst (λ bs. HoldRecords (table_shape e.header (enabled e.rows)) (table_accepts e.header (enabled e.rows)) (table_text e.header (enabled e.rows)) bs mine.seen)
      (append_assoc (traced.taken 0) (waiting l.rest) (l.last ∷ []) ∙ sym (traced.whole 0 l at)) mine.hold in
      let none = ap (λ (r : SinkRecords). r.fault) begun in
      let all = kept_all e traced.passed old new mine.seen none fine (subst (λ n. AreFrom n traced.passed) one traced.from) traced.got hold in
      let seen : mine.seen ≡ records = sym (kept ∙ (all ∙ ap (λ (r : SinkRecords). r.records ++ mine.seen) begun)) in
      let deeds = traced.promised.deeds in
      let worked = traced.worked 0 first in
      let later = settled_by worked.served.services worked.returned (traced.calls 0) worked.served.serves in
      let closed = traced.promised.closed 0 in
      record {
        calls = worked.returned;
        worked = subst (λ n. MakesRequests 1 n no_calls worked.returned) touch-is
            (subst (λ n. MakesRequests n (epid_of_probe work.touch) no_calls worked.returned) request-is (worked.worked request-has touch-has));
        settled = closed ++ later.settled;
        all = all_did deeds;
        answered = mine.answered ∙ settled_after closed worked.returned (traced.calls 0) later;
        promise = subst (λ r. Promise 1 (all_did deeds) 0 records r) (sym (told l at))
            (subst (λ rs. Promise 1 (all_did deeds) 0 rs l.report) seen (subst (λ n. Promise n (all_did deeds) 0 mine.seen l.report) one mine.promise));
      }
