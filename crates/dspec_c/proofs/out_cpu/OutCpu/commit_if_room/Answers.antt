use Rattle.std.proofs.Common.{false, refl, ap, ◌∙◌}
use Rattle.dspec_c.specs.Words.{EnabledRows, identity, Cpu}
use Rattle.dspec_c.proofs.{Calls.on_boxed, Homes.stays_out}
use Rattle.dspec_c.proofs.out_cpu.OutCpu.commit_if_room.Goals as goal

pub invariant_of-self : goal.invariant_of-self
invariant_of-self c = stays_out _ _ c.self.inside.cpu.value c.commit_if_room.new.self _ _ _ c.self.invariant
    (c.commit_if_room.ensures.same ∙ ap (λ (x : Cpu EnabledRows). identity x) c.deref_mut.ensures.value)

pub returns : goal.returns
returns c = (
  c.from_raw.result,
  record { numbered = c.from_raw.ensures.number; slot = c.from_raw.ensures.slot },
  record {
    answer = c.commit_if_room.result;
    numbered = c.of_committed.ensures.status;
    tells = c.of_committed.ensures.count;
    done = on_boxed false _ _ _ _ _ _ _ c.self.view_is c.deref_mut.ensures.value refl c.commit_if_room.ensures.same c.commit_if_room.ensures.does refl;
  },
)
