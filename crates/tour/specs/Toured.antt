-- Cited by calls. What tour's session gives back, in the words of the page.
use Rattle.std.specs.Prelude.{ℕ, ◌≡◌, List, ◌++◌}
use Rattle.dspec_record.specs.Record.{Record}
use Rattle.dspec_word.specs.SpecId.{Speculation}
use Rattle.dspec_deeds.specs.declared.deed.DecideFate.{DecideFate}
use Rattle.dspec_deeds.specs.declared.report.Report.{Report}
use Rattle.dspec_promise.specs.Promise.{Did, Promise}
use Rattle.dspec_cpu.specs.Called.{CallsMade, no_calls, settled_did}
use Rattle.tour.specs.Requests.{MakesRequests}

-- The work's calls were made on CPU 0 of a session of one CPU, with probes 1 and 2; these records came out of it, this is its report,
-- and both keep the promise of what those calls did and of what services and the close settled after them.
pub record IsTour (records : List Record) (report : Report) : Type 0 where
  pub calls : CallsMade
  pub worked : MakesRequests 1 2 no_calls calls
  pub settled : List (Speculation × DecideFate)
  pub all : ℕ → List Did
  pub answered : all 0 ≡ settled_did settled ++ calls.done
  pub promise : Promise 1 all 0 records report
