-- Cited by calls. What the work of tour does, call by call.
use Rattle.std.specs.Prelude.{ℕ, ◌≡◌, List, [], ◌∷◌}
use Rattle.dspec_record.specs.Record.{Record}
use Rattle.dspec_record.specs.EnablingRows.{EnabledRows}
use Rattle.dspec_record.specs.declared.field.Field.{Field}
use Rattle.dspec_record.specs.declared.field.Field.TheVariants.{One, Four, Eight}
use Rattle.dspec_deeds.specs.declared.calls.Decided.{Decided}
use Rattle.dspec_deeds.specs.declared.calls.Opening.{Opening}
use Rattle.dspec_deeds.specs.declared.calls.Spoken.{Spoken}
use Rattle.dspec_deeds.specs.declared.calls.Traced.{Traced}
use Rattle.dspec_deeds.specs.FateAnswers.{id_given}
use Rattle.dspec_promise.specs.Promise.{commit, discard}
use Rattle.dspec_cpu.specs.Called.{CallsMade, with_decision, with_speculate, with_speculation, with_trace}
use Rattle.dspec_cpu.specs.OneCall.{with_values}
use Rattle.dspec_probe.specs.Probes.{IsProbeOf, epid_of_probe}
use Rattle.tour.specs.declared.Requests.{Requests}

-- a request's number; an address, and what was done to it
abbrev pub request_fields : List Field
request_fields = Four ∷ []

abbrev pub touch_fields : List Field
touch_fields = Eight ∷ One ∷ []

-- a record of an EPID without a stamp
abbrev pub plain : ℕ → List ℕ → Record
plain epid values = with_values epid 0 values

-- These calls were made, and no others, by probes of these EPIDs: a path with two records was kept, one with one record was thrown
-- away, and three records were traced. Each was answered somehow.
pub record MakesRequests (request touch : ℕ) (x y : CallsMade) : Type 0 where
  pub failed : Opening
  pub first : Spoken
  pub second : Spoken
  pub kept : Decided
  pub fine : Opening
  pub third : Spoken
  pub thrown : Decided
  pub seventh : Traced
  pub eighth : Traced
  pub ninth : Traced
  pub told :
      let of_failed = with_speculate (id_given failed) (plain touch (8192 ∷ 0 ∷ [])) second
      (with_speculate (id_given failed) (plain touch (4096 ∷ 5 ∷ [])) first (with_speculation failed x)) in
      let of_fine = with_speculate (id_given fine) (plain touch (12288 ∷ 0 ∷ [])) third
      (with_speculation fine (with_decision commit (id_given failed) kept of_failed)) in
      y ≡ with_trace (plain request (9 ∷ [])) ninth (with_trace (plain request (8 ∷ [])) eighth
      (with_trace (plain request (7 ∷ [])) seventh (with_decision discard (id_given fine) thrown of_fine)))

-- where the schema has both probes
abbrev pub DoesRequests : EnabledRows → Requests → CallsMade → CallsMade → Type 0
DoesRequests schema work x y =
    IsProbeOf request_fields work.request schema → IsProbeOf touch_fields work.touch schema
    → MakesRequests (epid_of_probe work.request) (epid_of_probe work.touch) x y
