use Rattle.dspec_deeds.proofs.{OwnReads.alike_other, StayingDecided.waits_stays, StayingFree.free_or_taken, StayingOwn.late_other}
use Rattle.dspec_deeds.proofs.common.others_leave.Goals as goal

pub returns : goal.returns
returns c k cpu d h lt sound other = record {
  own = alike_other k cpu d h other;
  early = late_other cpu d h other;
  free = λ s w inactive was. free_or_taken k cpu s w d h sound other inactive was;
  waits = λ s held. waits_stays k cpu s d h lt sound other held;
}
