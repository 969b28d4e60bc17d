use Rattle.std.proofs.Common.{map, take}
use Rattle.specview.specs.Words.{AddsFiles, cpu_files}
use Rattle.specview.proofs.folder.put_trace.Given as goal

abbrev pub invariant-loop-cpu : goal.invariant-loop-cpu
invariant-loop-cpu g l = AddsFiles (g.F.TraceFiles.files l.initial.folder) (g.F.TraceFiles.files l.folder) (cpu_files 0 (map (λ f. f.items) (take l.cpu l.file-items)))
