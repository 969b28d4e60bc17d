-- A CPU's part of a legal list balances.
use Rattle.std.proofs.Common.{◌≡◌, ℕ, List, Option, sym, ap, ◌∙◌, subst}
use Rattle.dspec_cpu.specs.Words.{Shape, Config, CpuActor, Deed, part, offers, report, records_of_report, IsLegalPart}
use Rattle.dspec_deeds.proofs.{Headlines.headline, OwnReads.reads}

pub part_balanced : (shape : ℕ → Option Shape) (k : Config) (c : ℕ) (g p : List Deed) → IsLegalPart shape k c g p → offers c p ≡ records_of_report (report k c 0 p)
part_balanced shape k c g p its =
    let alike = (reads k c g).apart in
    let whole : offers c (part (CpuActor c) g) ≡ records_of_report (report k c 0 (part (CpuActor c) g)) =
    alike.offering ∙ ((headline shape k c g its.0.0).fates.sum ∙ sym (ap records_of_report (alike.reporting 0))) in
    subst (λ l. offers c l ≡ records_of_report (report k c 0 l)) its.1 whole
