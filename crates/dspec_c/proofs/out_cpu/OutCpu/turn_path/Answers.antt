use Rattle.std.proofs.Common.{false, refl, ap, ◌∙◌}
use Rattle.dspec_c.specs.Words.{EnabledRows, identity, Cpu}
use Rattle.dspec_c.proofs.{Calls.on_boxed, Homes.stays_out}
use Rattle.dspec_c.proofs.out_cpu.OutCpu.turn_path.Goals as goal

pub invariant_of-self : goal.invariant_of-self
invariant_of-self c = stays_out _ _ c.self.inside.cpu.value c.turn_on-turned.new.cpu _ _ _ c.self.invariant
    (c.turn_on-turned.ensures.same ∙ ap (λ (x : Cpu EnabledRows). identity x) c.deref_mut.ensures.value)

pub returns : goal.returns
returns c = (
  c.key_of.result,
  c.key_of.ensures,
  record {
    answer = c.turn_on-turned.result;
    numbered = c.of_turned.ensures.status;
    tells = c.of_turned.ensures.told;
    done = record {
      done = on_boxed false _ _ _ _ _ _ _ c.self.view_is c.deref_mut.ensures.value refl c.turn_on-turned.ensures.same c.turn_on-turned.ensures.turns refl;
      counted = c.turn_on-turned.ensures.counted;
    };
  },
)
