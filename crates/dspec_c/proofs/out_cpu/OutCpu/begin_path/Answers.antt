use Rattle.std.proofs.Common.{false, refl, ap, ◌∙◌}
use Rattle.dspec_c.specs.Words.{EnabledRows, identity, Cpu}
use Rattle.dspec_c.proofs.{Calls.on_boxed, Homes.stays_out}
use Rattle.dspec_c.proofs.out_cpu.OutCpu.begin_path.Goals as goal

pub invariant_of-self : goal.invariant_of-self
invariant_of-self c = stays_out _ _ c.self.inside.cpu.value c.begin_on-begun.new.cpu _ _ _ c.self.invariant
    (c.begin_on-begun.ensures.same ∙ ap (λ (x : Cpu EnabledRows). identity x) c.deref_mut.ensures.value)

pub returns : goal.returns
returns c = record {
  answer = c.begin_on-begun.result;
  numbered = c.of_begun.ensures.status;
  tells = c.of_begun.ensures.told;
  done = on_boxed false _ _ _ _ _ _ _ c.self.view_is c.deref_mut.ensures.value refl c.begin_on-begun.ensures.same c.begin_on-begun.ensures.begins refl;
  counted = c.begin_on-begun.ensures.counted;
}
