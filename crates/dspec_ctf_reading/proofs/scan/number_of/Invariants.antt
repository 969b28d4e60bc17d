use Rattle.std.proofs.Common.{◌≡◌, drop}
use Rattle.dspec_ctf_reading.specs.Words.{digits_number}
use Rattle.dspec_ctf_reading.proofs.scan.number_of.Given as goal

abbrev pub invariant-loop-digit : goal.invariant-loop-digit
invariant-loop-digit l = digits_number 0 l.digits ≡ digits_number l.number (drop l.digit-index l.digits)
