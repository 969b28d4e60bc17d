-- Cited by calls. The calls on what is left of a session.
use Rattle.std.specs.Prelude.{ℕ, ◌≡◌, Bool, Option, Some, None, slice_get, if◌then◌else◌}
use Rattle.dspec_c.specs.{Shows.TellsBatch, Shows.TellsReport, Statuses.bad_handle, Statuses.no_batch, Statuses.no_such_cpu, Words.Outside.Batch, Words.Outside.Left, declared.batches.CBatch.CBatch}
use Rattle.dspec_c.specs.{declared.held.HandleValue.HandleValue, declared.reports.CReport.CReport}
use Rattle.dspec_c.specs.declared.held.HandleValue.TheVariants as held

-- what was left of a CPU: its last buffer, or the batch that it handed on and nobody took
abbrev pub left_of : Bool → Left → Option Batch
left_of last l = if last then Some l.last else l.rest

-- that is told, or there is none
abbrev pub TellsLeft : Option Batch → ℕ → CBatch → CBatch → Type 0
TellsLeft (Some b) status before told = (status ≡ 0) × TellsBatch told b
TellsLeft None status before told = (status ≡ no_batch) × (told ≡ before)

abbrev pub TellsLeftOf : Bool → Option Left → ℕ → CBatch → CBatch → Type 0
TellsLeftOf last (Some l) status before told = TellsLeft (left_of last l) status before told
TellsLeftOf last None status before told = (status ≡ no_such_cpu) × (told ≡ before)

-- the counts of a CPU, to its end, and how many records it refused
abbrev pub TellsCountsOf : Option Left → Option ℕ → ℕ → CReport → CReport → Type 0
TellsCountsOf (Some l) (Some refused) status before told = (status ≡ 0) × TellsReport told l.report refused
TellsCountsOf l refused status before told = (status ≡ no_such_cpu) × (told ≡ before)

-- Neither changes what is held. Where that isn't what is left of a session, the status is BAD_HANDLE, and nothing is told.
abbrev pub RestAnswers : ℕ → Bool → HandleValue → ℕ → CBatch → CBatch → HandleValue → Type 0
RestAnswers c last (held.Closed e) status before told now = (now ≡ held.Closed e) × TellsLeftOf last (slice_get e.closed c) status before told
RestAnswers c last was status before told now = (now ≡ was) × (status ≡ bad_handle) × (told ≡ before)

abbrev pub ClosedReportAnswers : ℕ → HandleValue → ℕ → CReport → CReport → HandleValue → Type 0
ClosedReportAnswers c (held.Closed e) status before told now = (now ≡ held.Closed e) × TellsCountsOf (slice_get e.closed c) (slice_get e.refused.items c) status before told
ClosedReportAnswers c was status before told now = (now ≡ was) × (status ≡ bad_handle) × (told ≡ before)
