use Rattle.std.proofs.Common.{◌≡◌, List, sym, subst}
use Rattle.dspec_cpu.specs.{Words.Deed, Words.report, Words.HasList, Words.words_of, Words.Belongs, Words.identity, declared.parts.CpuParts.CpuParts as Cpu}
use Rattle.dspec_cpu.proofs.Ready.{belonging, fated_within, told}
use Rattle.dspec_cpu.proofs.cpu.Cpu.report.Goals as goal

pub report-requires : goal.report-requires
report-requires g c =
    let words = words_of c.args._shared.now in
    let cpu = c.self.inside.parts in
    let of = subst (λ (x : Cpu g.row.S.Denot). Belongs words (identity x)) (sym c.self.view_is) c.requires.of in
    record { enough = fated_within _ _ _ words cpu (belonging _ _ _ words cpu of c.self.invariant) }

pub returns : goal.returns
returns g c =
    let words = words_of c.args._shared.now in
    let cpu = c.self.inside.parts in
    let of = subst (λ (x : Cpu g.row.S.Denot). Belongs words (identity x)) (sym c.self.view_is) c.requires.of in
    subst (λ (x : Cpu g.row.S.Denot). (p : List Deed) → HasList (g.S.Schema.shape_of x.schema) (g.S.Schema.accepted x.schema) (g.S.Schema.text x.schema) x p
    → c.report.result ≡ report x.config x.cpu x.side.counts.worn p) c.self.view_is
    (λ p had. told _ _ _ words cpu (belonging _ _ _ words cpu of c.self.invariant) p had c.report.result c.report.ensures)
