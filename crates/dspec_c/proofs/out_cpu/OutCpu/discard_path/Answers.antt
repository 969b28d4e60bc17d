use Rattle.std.proofs.Common.{false, refl, ap, ◌∙◌}
use Rattle.dspec_c.specs.Words.{EnabledRows, identity, Cpu}
use Rattle.dspec_c.proofs.{Calls.on_boxed, Homes.stays_out}
use Rattle.dspec_c.proofs.out_cpu.OutCpu.discard_path.Goals as goal

pub invariant_of-self : goal.invariant_of-self
invariant_of-self c = stays_out _ _ c.self.inside.cpu.value c.discard_on.new.cpu _ _ _ c.self.invariant
    (c.discard_on.ensures.same ∙ ap (λ (x : Cpu EnabledRows). identity x) c.deref_mut.ensures.value)

pub returns : goal.returns
returns c = (
  c.key_of.result,
  c.key_of.ensures,
  record {
    answer = c.discard_on.result;
    numbered = c.of_there.ensures;
    done = record {
      done = on_boxed false _ _ _ _ _ _ _ c.self.view_is c.deref_mut.ensures.value refl c.discard_on.ensures.same c.discard_on.ensures.discards refl;
      counted = c.discard_on.ensures.counted;
    };
  },
)
