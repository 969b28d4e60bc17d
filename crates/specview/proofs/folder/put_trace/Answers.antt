use Rattle.specview.proofs.Files.{next_file}
use Rattle.specview.proofs.folder.put_trace.Goals as goal

pub loop-cpu-preserved : goal.loop-cpu-preserved
loop-cpu-preserved g c =
    next_file (λ f. f.items) (g.F.TraceFiles.files c.args.folder.now) (g.F.TraceFiles.files c.loop-cpu.folder) (g.F.TraceFiles.files c.put_file.new.folder)
    c.deref-file-items.result.now c.loop-cpu.cpu c.file-item.result c.as_slice.result.now c.loop-cpu.invariant c.in_ok-put_file.ensures.put c.loop-cpu-test.true c.file-item.is c.as_slice.ensures.value
