use Rattle.std.proofs.Common.{◌≡◌, length, map, reverse}
use Rattle.specview.specs.Words.{AreFiles}
use Rattle.specview.proofs.trace.files_of.Given as goal

abbrev pub invariant-loop-cpu : goal.invariant-loop-cpu
invariant-loop-cpu l = record {
  count : length l.files.items ≡ l.cpu;
  files : AreFiles l.uuid l.events l.form (reverse l.close.deeds) l.close.reports (map (λ f. f.items) l.files.items) l.cpu;
}
