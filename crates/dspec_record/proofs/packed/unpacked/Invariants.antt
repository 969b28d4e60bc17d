use Rattle.std.proofs.Common.{◌≡◌}
use Rattle.dspec_record.specs.Words.{number_of_words}
use Rattle.dspec_record.proofs.CutWords.{AreCut}
use Rattle.dspec_record.proofs.packed.unpacked.Given as goal

-- the values so far are the first ones
abbrev pub invariant-loop-i : goal.invariant-loop-i
invariant-loop-i l = record {
  epid_is : l.rec.epid ≡ l.epid;
  stamp_is : l.rec.stamp ≡ l.stamp;
  cut : AreCut l.i l.end l.rec.values l.fields (number_of_words l.words);
}
