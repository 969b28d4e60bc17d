use Rattle.std.proofs.Common.{◌∙◌, sym, ap, subst, reverse, length, slice_index_or, All, arith, slice_get}
use Rattle.std.proofs.lemmas.Option.{slice_get-get_or}
use Rattle.specview.specs.Words.{Accepts, stream, TellsCounts, AreStreams, TellsSmall, Report}
use Rattle.specview.proofs.AllFiles.{mapped_long, stream_at, no_trace}
use Rattle.specview.proofs.trace.files_of.Goals as goal

pub bounds-accepted-cpu : goal.bounds-accepted-cpu
bounds-accepted-cpu c =
    let long = mapped_long (λ a. stream a (reverse c.args.close.now.deeds)) c.args.cpus c.args.close.now.accepted c.requires.accepted in
    let same = ap length c.as_slice-accepted.ensures in
    omega arith

pub file_of-requires-clause-accepted : goal.file_of-requires-clause-accepted
file_of-requires-clause-accepted c =
    c.as_slice-records.ensures
    ∙ (stream_at c.args.cpus c.loop-cpu.cpu c.args.close.now.deeds c.as_slice-accepted.result.now c.index-accepted-cpu.result
    (subst (AreStreams c.args.cpus c.args.close.now.deeds) (sym c.as_slice-accepted.ensures) c.requires.accepted) c.loop-cpu-test.true c.index-accepted-cpu.is
    ∙ ap (λ ds. stream c.loop-cpu.cpu (reverse ds)) (sym c.as_slice-deeds.ensures))

pub file_of-requires-clause-small : goal.file_of-requires-clause-small
file_of-requires-clause-small c = λ known.
    let e = c.args.events.now in
    let cpu = c.loop-cpu.cpu in
    let reports = c.as_slice-reports.result.now in
    let none : Report =
    record { offered = 0; accepted = 0; dropped = 0; specdropped = 0; lost = 0; discarded = 0; void = 0; held = 0; drops = 0; unavailable = 0; busy = 0; stopped = 0; worn = 0 } in
    let report = slice_index_or reports cpu none in
    let same = ap length c.as_slice-reports.ensures in
    let long = c.requires.reports in
    let own = c.as_slice-records.ensures
    ∙ stream_at c.args.cpus cpu c.args.close.now.deeds c.as_slice-accepted.result.now c.index-accepted-cpu.result
    (subst (AreStreams c.args.cpus c.args.close.now.deeds) (sym c.as_slice-accepted.ensures) c.requires.accepted) c.loop-cpu-test.true c.index-accepted-cpu.is in
    let at = ap (λ reps. slice_get reps cpu) (sym c.as_slice-reports.ensures) ∙ slice_get-get_or reports cpu none (omega arith) in
    subst (λ ds. TellsSmall e cpu (reverse ds) report) (sym c.as_slice-deeds.ensures)
    (c.requires.small cpu report at (subst (All (Accepts e)) own known))

pub file_of-requires-clause-told : goal.file_of-requires-clause-told
file_of-requires-clause-told c = subst (λ ds. TellsCounts c.loop-cpu.cpu (reverse ds)) (sym c.as_slice-deeds.ensures) (c.requires.told c.loop-cpu.cpu)

pub returns-in-Err-clause-fault : goal.returns-in-Err-clause-fault
returns-in-Err-clause-fault c =
    let accepted = c.args.close.now.accepted in
    let same = c.as_slice-accepted.ensures in
    let long = mapped_long (λ a. stream a (reverse c.args.close.now.deeds)) c.args.cpus accepted c.requires.accepted in
    no_trace c.args.form c.args.events.now accepted c.as_slice-records.result.now c.loop-cpu.cpu c.in-Err.fault (omega arith)
    (c.as_slice-records.ensures ∙ (c.index-accepted-cpu.is ∙ (ap (λ l. slice_index_or l c.loop-cpu.cpu c.index-accepted-cpu.result) same
    ∙ ap (slice_index_or accepted c.loop-cpu.cpu) (sym c.as_slice-records.ensures))))
    c.in-Err.ensures.fault
