use Rattle.std.proofs.Common.{Some, false, refl, ap, ◌∙◌}
use Rattle.dspec_c.specs.Words.{EnabledRows, identity, packed_of, Cpu}
use Rattle.dspec_record.specs.declared.header.Header.TheVariants as header
use Rattle.dspec_c.proofs.{Calls.on_boxed, Homes.stays_out, Putting.put_so}
use Rattle.dspec_c.proofs.out_cpu.OutCpu.put_stamped.Goals as goal

pub invariant_of-self : goal.invariant_of-self
invariant_of-self g c = stays_out _ _ c.self.inside.cpu.value c.trace_recorded.new.self _ _ _ c.self.invariant
    (c.trace_recorded.ensures.same ∙ ap (λ (x : Cpu EnabledRows). identity x) c.deref_mut.ensures.value)

pub returns-in-Some : goal.returns-in-Some
returns-in-Some g c = record {
  answer = Some c.trace_recorded.result;
  numbered = c.of_traced.ensures;
  done = on_boxed false _ _ _ _ _ _ _ c.self.view_is c.deref_mut.ensures.value refl c.trace_recorded.ensures.same (put_so header.Two _ _ _ c.schema.result.now packed_of _ _ _ _ _
      c.in-Some.is c.schema.ensures c.packed.ensures.due.0 c.packed.ensures.holds c.trace_recorded.ensures.does) refl;
}
