use Rattle.std.proofs.{Common.rules, Common.arith, Common.map, lemmas.Grind.common_steps}
use Rattle.dspec_ctf_reading.specs.Words.{read_payload, told_field}
use Rattle.dspec_ctf_reading.proofs.EventLemmas.{payload-begin, payload-on}
use Rattle.dspec_ctf_reading.proofs.events.payload.Goals as goal

pub loop-field-init : goal.loop-field-init
loop-field-init c = record {
  so_far = payload-begin c.args.fields.now c.new-values.result.items (read_payload (map told_field c.args.fields.now) c.args.bytes.now) (search rules);
  count = search rules;
  within = omega arith;
}

pub loop-field-preserved : goal.loop-field-preserved
loop-field-preserved c = record {
  so_far =
      payload-on c.loop-field.field-index c.args.fields.now c.field-item.result c.loop-field.values.items c.push.new.self.items c.in-Some.value
      (read_payload (map told_field c.args.fields.now) c.args.bytes.now) c.loop-field.rest.now c.in-Some.next.now
      (omega arith) c.field-item.is c.loop-field.invariant.count c.loop-field.invariant.so_far (search rules) (search rules);
  count = grind (arith, common_steps);
  within = omega (arith, c.in-Some.ensures.shorter);
}
