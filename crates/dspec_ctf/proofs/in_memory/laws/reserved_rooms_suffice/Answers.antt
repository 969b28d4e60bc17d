use Rattle.dspec_ctf.proofs.InMemory.Rooms.{opens, puts}
use Rattle.dspec_ctf.proofs.in_memory.laws.reserved_rooms_suffice.Goals as goal

pub returns-clause-open : goal.returns-clause-open
returns-clause-open c = opens

pub returns-clause-put : goal.returns-clause-put
returns-clause-put c = puts
