use Rattle.std.proofs.Common.{rules}
use Rattle.dspec_ctf_reading.specs.Words.{front_of}
use Rattle.dspec_ctf_reading.proofs.Shorter.{front-within}
use Rattle.dspec_ctf_reading.proofs.packets.next_packet.Goals as goal

pub overflow_sub-read : goal.overflow_sub-read
overflow_sub-read c =
    front-within c.args.timed c.args.bytes.now (front_of c.in-Some-read_front.front) c.in-Some-read_front.rest.now (search rules)
