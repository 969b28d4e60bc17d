-- Cited by calls. What a worker of the server does on its CPU.
use Rattle.std.specs.Prelude.{ℕ, ◌≡◌, ◌+◌, Bool, if◌then◌else◌}
use Rattle.dspec_record.specs.Record.{Record}
use Rattle.dspec_word.specs.SpecId.{Speculation}
use Rattle.dspec_deeds.specs.declared.calls.Decided.{Decided}
use Rattle.dspec_deeds.specs.declared.calls.Opening.{Opening}
use Rattle.dspec_deeds.specs.declared.calls.Served.{Served}
use Rattle.dspec_deeds.specs.declared.calls.Spoken.{Spoken}
use Rattle.dspec_deeds.specs.FateAnswers.{id_given}
use Rattle.dspec_promise.specs.Promise.{commit, discard}
use Rattle.dspec_cpu.specs.Called.{CallsMade, WithService, with_decision, with_speculate, with_speculation}
use Rattle.examples.specs.WatchRequests.{fails_with, request_number}

-- records were offered to the speculation, and nothing else was done
pub data OffersAlone (id : Speculation) (x : CallsMade) : CallsMade → Type 0 where
  nothing : OffersAlone id x x
  one_step : {y : CallsMade} (r : Record) (a : Spoken) (z : CallsMade) → OffersAlone id x y → z ≡ with_speculate id r a y → OffersAlone id x z

-- a path was opened, the request's steps were offered to it, and it was kept where the request fails, and else thrown away
pub record HandlesRequest (fails : Bool) (x y : CallsMade) : Type 0 where
  pub opening : Opening
  pub stepped : CallsMade
  pub steps : OffersAlone (id_given opening) (with_speculation opening x) stepped
  pub answer : Decided
  pub decided : y ≡ with_decision (if fails then commit else discard) (id_given opening) answer stepped

-- The worker's requests of so many rounds were handled since these calls, one after another, and the consumer was served after each. The
-- path of a request was kept where the request of that number fails, by the seed, and nowhere else.
pub data ServesRequests (seed worker : ℕ) (x : CallsMade) : ℕ → CallsMade → Type 0 where
  none_yet : ServesRequests seed worker x 0 x
  one_more : {n : ℕ} {y : CallsMade} (m : ℕ) (z w : CallsMade) (a : Served) → ServesRequests seed worker x n y
      → HandlesRequest (fails_with seed (request_number worker n)) y z → WithService a z w → m ≡ n + 1 → ServesRequests seed worker x m w
