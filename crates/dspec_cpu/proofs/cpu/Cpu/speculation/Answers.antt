use Rattle.std.proofs.Common.{List, subst}
use Rattle.dspec_cpu.specs.{Words.Deed, Words.HasList, Words.OpensOne, declared.parts.CpuParts.CpuParts as Cpu}
use Rattle.dspec_cpu.proofs.Telling.{opens_one}
use Rattle.dspec_cpu.proofs.cpu.Cpu.speculation.Goals as goal

pub returns-clause-does : goal.returns-clause-does
returns-clause-does g c =
    let has : Cpu g.row.S.Denot → List Deed → Type 0 = λ x p. HasList (g.S.Schema.shape_of x.schema) (g.S.Schema.accepted x.schema) (g.S.Schema.text x.schema) x p in
    let before = c.self.inside.parts in
    let after = c.speculation.new.self in
    let done = c.speculation.ensures in
    subst (λ (x : Cpu g.row.S.Denot). OpensOne has c.speculation.result x after) c.self.view_is
    (opens_one has before after done.same.number c.speculation.result done.leaves done.opens)
