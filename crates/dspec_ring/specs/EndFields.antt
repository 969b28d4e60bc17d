-- Serves proofs. How an end's two parts say what it knows.
use Rattle.rtrb.specs.{Ring.sent, Ring.known_free, Ring.received, Ring.known_items, declared.consumer.Consumer.Consumer, declared.producer.Producer.Producer}
use Rattle.dspec_ring.specs.{Known.Ring, Known.CpuKnows, Known.ConsumerKnows, declared.consumer_end.ConsumerEnd.TheInside.Inside as ConsumerInside, declared.cpu_end.CpuEnd.TheInside.Inside}

module _ {T A P : Type 0} where
  abbrev pub pushed_into : Producer T A P → Ring
  pushed_into p = record { words = p.end.words; places = p.end.slots; names = p.end.names }

  abbrev pub popped_from : Consumer T A P → Ring
  popped_from c = record { words = c.end.words; places = c.end.slots; names = c.end.names }

abbrev pub cpu_knows : Inside → CpuKnows
cpu_knows end = record {
  pair = record { batches = pushed_into end.rings.pushing; spares = popped_from end.rings.popping };
  handed = sent end.rings.pushing;
  room = known_free end.rings.pushing;
  spares = received end.rings.popping;
  waiting = known_items end.rings.popping;
  moves = end.rings.moves.count;
}

abbrev pub consumer_knows : ConsumerInside → ConsumerKnows
consumer_knows end = record {
  pair = record { batches = popped_from end.rings.popping; spares = pushed_into end.rings.pushing };
  taken = received end.rings.popping;
  waiting = known_items end.rings.popping;
  given = sent end.rings.pushing;
  room = known_free end.rings.pushing;
  moves = end.rings.moves.count;
}
