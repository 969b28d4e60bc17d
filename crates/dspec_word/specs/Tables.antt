-- Cited by calls. What each call does at the word that it was shown: one line a case.
use Rattle.std.specs.Prelude.{ℕ, ◌==◌, nat_lt, nat_le, Bool, true, false, ◌&&◌, if◌then◌else◌}
use Rattle.dspec_word.specs.{Code.is_inactive, Code.awaits, SpecId.Speculation, Word.SlotState, Word.released, declared.act.Act.Act, declared.act.Act.TheVariants.Void}
use Rattle.dspec_word.specs.{declared.act.Act.TheVariants.Granted, declared.act.Act.TheVariants.Attempt, declared.act.Act.TheVariants.Idle, declared.code.Code.Code}
use Rattle.dspec_word.specs.{declared.code.Code.TheVariants.Inactive, declared.code.Code.TheVariants.Active, declared.code.Code.TheVariants.ActiveOne, declared.code.Code.TheVariants.ActiveMany}
use Rattle.dspec_word.specs.{declared.code.Code.TheVariants.Committing, declared.code.Code.TheVariants.CommittingMany, declared.code.Code.TheVariants.Discarding}

abbrev pub attempt : ℕ → Code → Act
attempt i c = Attempt record { issue = i; code = c }

-- `mine`: the caller is a caller of this speculation
abbrev pub speculate_act : ℕ → Bool → Code → Act
speculate_act i mine Inactive = Void
speculate_act i mine Active = attempt i ActiveOne
speculate_act i true ActiveOne = Granted
speculate_act i false ActiveOne = attempt i ActiveMany
speculate_act i mine ActiveMany = Granted
speculate_act i mine Committing = Void
speculate_act i mine CommittingMany = Void
speculate_act i mine Discarding = Void

abbrev pub commit_act : ℕ → Bool → Code → Act
commit_act i mine Inactive = Void
commit_act i mine Active = attempt i Committing
commit_act i true ActiveOne = attempt i Committing
commit_act i false ActiveOne = attempt i CommittingMany
commit_act i mine ActiveMany = attempt i CommittingMany
commit_act i mine Committing = Void
commit_act i mine CommittingMany = Void
commit_act i mine Discarding = Void

abbrev pub discard_act : ℕ → Bool → Code → Act
discard_act i mine Inactive = Void
discard_act i mine Active = attempt i Discarding
discard_act i true ActiveOne = Attempt (released i)
discard_act i false ActiveOne = attempt i Discarding
discard_act i mine ActiveMany = attempt i Discarding
discard_act i mine Committing = Void
discard_act i mine CommittingMany = Void
discard_act i mine Discarding = Void

-- an identifier of another issue names a speculation that is over, or none yet
abbrev pub speculate_at : SlotState → Speculation → Bool → Act
speculate_at w id mine = if w.issue == id.issue then speculate_act w.issue mine w.code else Void

abbrev pub commit_at : SlotState → Speculation → Bool → Act
commit_at w id mine = if w.issue == id.issue then commit_act w.issue mine w.code else Void

abbrev pub discard_at : SlotState → Speculation → Bool → Act
discard_at w id mine = if w.issue == id.issue then discard_act w.issue mine w.code else Void

abbrev pub open_at : SlotState → ℕ → Act
open_at w max_issues =
    if is_inactive w.code && nat_lt w.issue max_issues then attempt w.issue Active else Void

abbrev pub settle_at : SlotState → ℕ → Act
settle_at w acked = if awaits w.code && nat_le acked w.issue then Granted else Idle

abbrev pub reap_at : SlotState → Bool → Act
reap_at w all_acked = if awaits w.code && all_acked then Attempt (released w.issue) else Idle
