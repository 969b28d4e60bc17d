use Rattle.std.proofs.Common.{◌≡◌, length, take, Some}
use Rattle.dspec_c.specs.Words.{fields_of_widths}
use Rattle.dspec_c.proofs.schema_calls.fields_of.Given as goal

-- the fields so far are those of the widths so far
abbrev pub invariant-loop-place : goal.invariant-loop-place
invariant-loop-place l = record {
  eight : length l.fields ≡ 8;
  are : fields_of_widths (take l.place l.widths) ≡ Some (take l.place l.fields);
}
