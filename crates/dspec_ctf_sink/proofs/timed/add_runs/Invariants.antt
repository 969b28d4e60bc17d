use Rattle.std.proofs.Common.{◌≤◌, ◌-◌, ℕ, List, length}
use Rattle.std.specs.Prelude.{Option}
use Rattle.dspec_ctf_sink.specs.{Words.FileWrite, Words.AddsAll, Words.StopsRuns, declared.losing.Loss.Loss}
use Rattle.dspec_ctf_sink.proofs.timed.add_runs.Given as goal

abbrev pub invariant-loop-place : goal.invariant-loop-place
invariant-loop-place g l = record {
  within : l.place ≤ length l.records;
  adds : (after : List ℕ) (new : Option (List FileWrite))
      → AddsAll l.stream.uuid l.stream.enablings.now l.stream.missed l.stream.cpu l.records l.place l.rows (g.F.Folder.written l.folder) after new
      → AddsAll l.stream.uuid l.stream.enablings.now l.stream.missed l.stream.cpu l.records 0 l.fn.rows (g.F.Folder.written l.fn.folder) after new;
  stops : (after : List ℕ) (new : Option (List FileWrite)) (loss : Loss)
      → StopsRuns l.stream.uuid l.stream.enablings.now l.stream.missed l.stream.cpu l.records l.place l.rows (g.F.Folder.written l.folder) after new loss
      → StopsRuns l.stream.uuid l.stream.enablings.now l.stream.missed l.stream.cpu l.records 0 l.fn.rows (g.F.Folder.written l.fn.folder) after new loss;
}

abbrev pub decreases-loop-place : goal.decreases-loop-place
decreases-loop-place g l = length l.records - l.place
