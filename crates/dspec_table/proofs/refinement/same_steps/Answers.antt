use Rattle.dspec_table.proofs.{ConsumerMakes.same_cleans, ConsumerMakes.consumer_plays, SameDeeds.same_deeds, SeatsDid.seat_plays, SeatsDid.mine_known}
use Rattle.dspec_table.proofs.refinement.same_steps.Goals as goal

pub returns-clause-cpu : goal.returns-clause-cpu
returns-clause-cpu c shape k cpu h me f doing same = same_deeds shape k cpu h me doing f same

pub returns-clause-consumer : goal.returns-clause-consumer
returns-clause-consumer c = same_cleans

pub returns-clause-cpu_seat : goal.returns-clause-cpu_seat
returns-clause-cpu_seat c = seat_plays

pub returns-clause-consumer_seat : goal.returns-clause-consumer_seat
returns-clause-consumer_seat c = consumer_plays

pub returns-clause-mine : goal.returns-clause-mine
returns-clause-mine c = mine_known
