use Rattle.dspec_ctf.proofs.Spreading.{runs-cover}
use Rattle.dspec_ctf.proofs.laws.runs_have_all.Goals as goal

pub returns : goal.returns
returns c = λ lasts new rs from to runs are.
    let covers = runs-cover lasts rs from runs to new are in
    (covers.records, covers.goes)
