-- As many lanes as rounds; nothing was said to any, and each has its room.
use Rattle.std.proofs.Common.{◌≡◌, [], length, replicate}
use Rattle.dspec_threads.specs.Words.{rooms_of_lanes, said_to_each}
use Rattle.dspec_threads.proofs.boarding.board.Given as goal

abbrev pub invariant-loop : goal.invariant-loop
invariant-loop g l = record {
  said : said_to_each l.sayers.items ≡ replicate l.counter [];
  rooms : rooms_of_lanes l.sayers.items ≡ replicate l.counter l.room;
  lanes : length l.settlers.items ≡ l.counter;
}
