use Rattle.std.proofs.Common.{◌≡◌, ◌≤◌, length, drop}
use Rattle.dspec_record.specs.Words.{signature_of}
use Rattle.dspec_record.proofs.packing.signature.Given as goal

-- the word of the fields from there on
abbrev pub invariant-loop-rest : goal.invariant-loop-rest
invariant-loop-rest l = record {
  within : l.rest ≤ length l.fields;
  word : l.word ≡ signature_of (drop l.rest l.fields);
}

abbrev pub decreases-loop-rest : goal.decreases-loop-rest
decreases-loop-rest l = l.rest
