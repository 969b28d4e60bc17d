use Rattle.std.proofs.Common.{◌≡◌, drop}
use Rattle.dspec_record.specs.Words.{fits}
use Rattle.dspec_record.proofs.codec.fits_fields.Given as goal

-- the answer is that for what is left
abbrev pub invariant-loop-i : goal.invariant-loop-i
invariant-loop-i l = fits (drop l.i l.fields) (drop l.i l.values) ≡ fits l.fields l.values
