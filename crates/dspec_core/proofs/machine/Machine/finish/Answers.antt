-- One CPU more is collected, and in the end all of them are.
use Rattle.std.proofs.{Common.◌∙◌, Common.arith, lemmas.Bool.Decides.nat_tests}
use Rattle.dspec_core.specs.Words.{progress_of, history, state_of, stream, report}
use Rattle.dspec_core.proofs.{Collected.one_more_cpu, Collected.streams_there, Collected.reports_there, MachineReads.cpu_read}
use Rattle.dspec_core.proofs.machine.Machine.finish.Goals as goal

pub loop-cpu-preserved : goal.loop-cpu-preserved
loop-cpu-preserved g c =
    let n = c.close.new.self in
    let a = c.loop-cpu.cpu in
    let h = history n in
    let own = cpu_read g.B.TraceBuffer.has g.B.TraceBuffer.capacity n c.in_ok-close.ensures.closable.shown a c.index.result.now c.loop-cpu-test.true c.index.ensures in (
      one_more_cpu (λ b. stream b h) a c.loop-cpu.accepted c.push.new.self _ c.loop-cpu.invariant.0 c.in_ok-push.ensures.ok (c.in_ok-copied.ensures ∙ (c.as_slice.ensures ∙ own.accepted)),
      one_more_cpu (λ b. report n.config b (progress_of (state_of n).progresses b).worn h) a c.loop-cpu.reports c.push-in-loop-cpu.new.self _ c.loop-cpu.invariant.1
          c.in_ok-push-2.ensures.ok c.report.ensures,
    )

pub returns-clause-accepted : goal.returns-clause-accepted
returns-clause-accepted g c = grind (arith, nat_tests, streams_there, c.loop-cpu-test.false, c.in_ok-close.ensures.settled, c.loop-cpu.invariant.0)

pub returns-clause-reports : goal.returns-clause-reports
returns-clause-reports g c = grind (arith, nat_tests, reports_there, c.loop-cpu-test.false, c.in_ok-close.ensures.settled, c.loop-cpu.invariant.1)
