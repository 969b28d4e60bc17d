-- Why there is no picture, and no steps are told.
use Rattle.std.proofs.Common.{ℕ, List, length}
use Rattle.specview.specs.Words.{Outcome, Plan, IsPlayedText, IsTextFault, view_of_schedule, IsPictureFault, IsPlayPictureFault, IsStepsFault, ScheduleFault}
use Rattle.specview.specs.declared.fault.ViewFault.{ViewFault, TheVariants.TooManyDeeds, TheVariants.Memory}
use Rattle.dspec_schedule.specs.declared.fault.ScheduleFault.TheVariants as schedule

-- what the player tells of a text
pub steps_fault : (text : List ℕ) (f : ScheduleFault) → IsTextFault text f → IsStepsFault text (view_of_schedule f)
steps_fault text (schedule.Line line kind) why = why
steps_fault text schedule.Memory why = tt

pub text_fault : (text : List ℕ) (f : ScheduleFault) → IsTextFault text f → IsPictureFault text (view_of_schedule f)
text_fault text (schedule.Line line kind) why = why
text_fault text schedule.Memory why = tt

-- and what is told of its play
pub play_fault_told : (text : List ℕ) (p : Plan) (outcome : Outcome) (fault : ViewFault) → IsPlayedText text p outcome
    → IsPlayPictureFault (length outcome.close.deeds) fault → IsPictureFault text fault
play_fault_told text p outcome TooManyDeeds played why = record { plan = p; outcome = outcome; played = played; many = why }
play_fault_told text p outcome Memory played why = tt
play_fault_told text p outcome fault played why = absurd why
