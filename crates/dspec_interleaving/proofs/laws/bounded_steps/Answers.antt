use Rattle.std.proofs.Common.{subst}
use Rattle.dspec_interleaving.specs.Words.{StandsProgress, StandsState, progress_of}
use Rattle.dspec_interleaving.proofs.Bounded.{cpu_below, clean_below}
use Rattle.dspec_deeds.proofs.SetUp.{set_up}
use Rattle.dspec_interleaving.proofs.laws.bounded_steps.Goals as goal

pub returns-clause-cpu : goal.returns-clause-cpu
returns-clause-cpu c shape st cpu f ok lt is =
    let me = progress_of st.progresses cpu in
    cpu_below st.config cpu st.deeds me (set_up st.config ok.ranges).1 f (subst (StandsProgress st.config cpu st.deeds me) is (ok.stands cpu lt).flight)

pub returns-clause-consumer : goal.returns-clause-consumer
returns-clause-consumer c shape st f ok is =
    clean_below st.config st.deeds st.side (set_up st.config ok.ranges).1 f (subst (StandsState st.config st.deeds st.side) is ok.side)
