use Rattle.std.proofs.Common.{refl}
use Rattle.dspec_c.proofs.Tends.{served_boxed}
use Rattle.dspec_c.proofs.home_cpu.HomeCpu.serve.Goals as goal

pub returns : goal.returns
returns c = served_boxed _ c.service.result _ _ _ _ _ c.self.view_is c.deref_mut.ensures.value refl (record { same = c.service.ensures.same; does = c.service.ensures.does }) refl
