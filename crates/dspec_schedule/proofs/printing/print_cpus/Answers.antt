use Rattle.std.proofs.{Common.◌++◌, Common.string_bytes, Common.◌∙◌, Common.ap, Common.sym, Common.refl, lemmas.Iterator.YieldsList-from_slice, lemmas.Iterator.YieldsList-from_zip}
use Rattle.std.proofs.{lemmas.Iterator.Consumers.YieldsList-at, lemmas.Iterator.Consumers.YieldsList-from_enumerate, lemmas.Iterator.Consumers.YieldsList-end, lemmas.List.Folds.flat_map-map}
use Rattle.std.specs.List.{flat_map}
use Rattle.dspec_schedule.proofs.Growing.{flat_map-two_more}
use Rattle.dspec_schedule.specs.Words.{cpu_lines}
use Rattle.dspec_schedule.proofs.printing.print_cpus.Goals as goal

pub returns : goal.returns
returns c =
    let road = YieldsList-at c.into_iter-cpu-iterator.ensures.into_iter_gives
    (YieldsList-from_enumerate (YieldsList-at c.enumerate-cpu-items.ensures.source (YieldsList-from_zip
    (YieldsList-at c.zip.ensures.first (YieldsList-from_slice c.args.reports.now c.iter.ensures.rest))
    (YieldsList-from_slice c.args.streams.now c.zip.ensures.second.0))) c.enumerate-cpu-items.ensures.count) in
    let whole = YieldsList-end road c.loop-cpu.yielded c.loop-cpu.cpu-iterator c.loop-cpu.yielded_by c.next.result c.next.new.self c.in-None.is c.next.ensures.steps in
    let cpus = sym (flat_map-map (cpu_lines c.args.header) _ c.loop-cpu.yielded) ∙ ap (flat_map (cpu_lines c.args.header)) whole.0 in
    c.loop-cpu.invariant ∙ ap (λ lines. string_bytes c.args.text.now ++ lines) cpus

pub loop-cpu-preserved : goal.loop-cpu-preserved
loop-cpu-preserved c = flat_map-two_more (λ cpu. cpu_lines c.args.header (cpu.0, (cpu.1.0.now, cpu.1.1.now))) (string_bytes c.args.text.now) _ _ _ _ _
    c.loop-cpu.yielded (c.in-Some.cpu, (c.in-Some.report, c.in-Some.stream))
    c.loop-cpu.invariant c.in_ok-print_report.ensures c.in_ok-print_stream.ensures refl
