-- As many lanes as rounds; nothing was said to any, each has its room, and both ends of each are of one ring.
use Rattle.std.proofs.Common.{◌≡◌, [], length, map, replicate}
use Rattle.dspec_threads.specs.Words.{rooms_of_lanes, said_into, said_to_each, settled_from}
use Rattle.dspec_threads.proofs.boarding.settlers.Given as goal

abbrev pub invariant-loop : goal.invariant-loop
invariant-loop g l = record {
  said : said_to_each l.sayers.items ≡ replicate l.counter [];
  rooms : rooms_of_lanes l.sayers.items ≡ replicate l.counter l.room;
  lanes : length l.ends.items ≡ l.counter;
  ends : map settled_from l.ends.items ≡ map said_into l.sayers.items;
}
