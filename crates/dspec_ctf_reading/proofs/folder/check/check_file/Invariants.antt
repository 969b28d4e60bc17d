-- The file is sound where what is left of it is.
use Rattle.std.proofs.Common.{length}
use Rattle.dspec_ctf_reading.specs.Words.{told_layout, IsSoundFrom}
use Rattle.dspec_ctf_reading.proofs.folder.check.check_file.Given as goal

abbrev pub invariant-loop-rest : goal.invariant-loop-rest
invariant-loop-rest l = record {
  on : IsSoundFrom (told_layout l.metadata) l.whose.uuid l.whose.cpu 0 l.bytes → IsSoundFrom (told_layout l.metadata) l.whose.uuid l.whose.cpu l.last l.rest;
  back : IsSoundFrom (told_layout l.metadata) l.whose.uuid l.whose.cpu l.last l.rest → IsSoundFrom (told_layout l.metadata) l.whose.uuid l.whose.cpu 0 l.bytes;
}

abbrev pub decreases-loop-rest : goal.decreases-loop-rest
decreases-loop-rest l = length l.rest
