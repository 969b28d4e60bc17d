use Rattle.dspec_ctf_reading.specs.Words.{front_of}
use Rattle.dspec_ctf_reading.proofs.Shorter.{front-within}
use Rattle.dspec_ctf_reading.proofs.fronts.split_packet.Goals as goal

pub overflow_sub-read : goal.overflow_sub-read
overflow_sub-read c = front-within c.args.timed c.args.bytes.now (front_of c.in_ok-front.front) c.in_ok-front.rest.now c.in_ok-front.ensures
