use Rattle.std.proofs.Common.{List, subst}
use Rattle.dspec_cpu.specs.{Words.Deed, Words.HasList, Words.ServesOnce, declared.parts.CpuParts.CpuParts as Cpu}
use Rattle.dspec_cpu.proofs.Telling.{service_tells}
use Rattle.dspec_cpu.proofs.cpu.Cpu.service.Goals as goal

pub returns-clause-does : goal.returns-clause-does
returns-clause-does g c =
    let has : Cpu g.row.S.Denot → List Deed → Type 0 = λ x p. HasList (g.S.Schema.shape_of x.schema) (g.S.Schema.accepted x.schema) (g.S.Schema.text x.schema) x p in
    let before = c.self.inside.parts in
    let after = c.service.new.self in
    let done = c.service.ensures in
    subst (λ (x : Cpu g.row.S.Denot). ServesOnce has c.service.result x after) c.self.view_is
    (record {
      tells = service_tells has before after _ _ _ _ _ c.service.result done.same.number done.serves done.wears;
      wears = done.wears;
      bounded = done.bounded;
      touches = done.touches;
      moves = done.moves;
      serves = done.serves;
    })
