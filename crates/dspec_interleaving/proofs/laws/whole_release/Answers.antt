use Rattle.std.proofs.Common.{subst, sym, ◌<◌}
use Rattle.dspec_interleaving.specs.Words.{at_start, AreCalls}
use Rattle.dspec_interleaving.proofs.{WholeRelease.whole_release, WholeStates.start_rests, WholeStates.rest_all, WholeStates.config_all}
use Rattle.dspec_interleaving.proofs.laws.whole_release.Goals as goal

pub returns : goal.returns
returns c shape k id ws xs ys fine all_ws all_xs all_ys ruled each =
    let same = sym (config_all shape ws (at_start k)) in
    whole_release shape id _ (rest_all shape ws (at_start k) all_ws (start_rests shape k fine)) ruled xs ys
    (subst (λ m. AreCalls m xs) same all_xs) (subst (λ m. AreCalls m ys) same all_ys) (λ cpu lt. each cpu (subst (λ m. cpu < m.cpus) (sym same) lt))
