use Rattle.std.proofs.Common.{◌∙◌, refl, sym, ap}
use Rattle.dspec_cpu.specs.Words.{Stored}
use Rattle.dspec_cpu_state.proofs.Places.{same_inside}
use Rattle.dspec_cpu.proofs.Makes.{unused_list, unused_steady}
use Rattle.dspec_cpu.proofs.cpu.Cpu.make.Goals as goal

pub returns-clause-list : goal.returns-clause-list
returns-clause-list g c = unused_list _ _ _ _ record {
  seat = c.requires.unused;
  handed = c.requires.end.handed;
  held_back = refl;
  side = c.in_ok-side.ensures.shows c.args.schema c.args.cpu;
}

pub invariant_of-result : goal.invariant_of-result
invariant_of-result g c = unused_steady _ _ _ _ record {
  seat = c.requires.unused;
  handed = c.requires.end.handed;
  held_back = refl;
  side = c.in_ok-side.ensures.shows c.args.schema c.args.cpu;
} c.requires.seat c.requires.fine (λ b e. ap (λ (x : Stored). x.size) (sym (same_inside e)) ∙ c.in_ok-spare.ensures.size)

pub returns-clause-parts : goal.returns-clause-parts
returns-clause-parts g c = (refl, refl, c.in_ok-side.ensures.worn)
