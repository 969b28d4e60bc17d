use Rattle.std.proofs.Common.{◌≡◌, drop, length}
use Rattle.dspec_record.proofs.ReadBack.{IsReading}
use Rattle.dspec_record.proofs.codec.read_record.Given as goal

abbrev pub invariant-loop-field : goal.invariant-loop-field
invariant-loop-field l = record {
  epid_is : l.rec.epid ≡ l.epid;
  reading : IsReading l.fn.header l.fields l.epid l.rec.stamp l.text l.end l.rec.values l.field-index (drop l.field-index l.fields);
  many : length l.rec.values ≡ l.field-index;
}
