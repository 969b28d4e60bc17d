use Rattle.std.proofs.Common.{◌≡◌, ◌≤◌, ◌+◌, ◌*◌, drop}
use Rattle.dspec_record.specs.Words.{fields_start, fields_end}
use Rattle.dspec_record.proofs.laid_out.laid_shape.Given as goal

-- the fields that are left end, laid from `end` on, where all end
abbrev pub invariant-loop-field : goal.invariant-loop-field
invariant-loop-field l =
    (fields_end l.end (drop l.field-index l.fields) ≡ fields_end (fields_start l.fn.header) l.fields) × (l.end ≤ 12 + 15 * l.field-index)
