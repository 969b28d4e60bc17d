use Rattle.std.proofs.Common.{arith, ◌≤◌, ◌<◌, ◌^◌, ◌+◌, ◌*◌, ◌-◌, ℕ, drop, get_or, length}
use Rattle.dspec_ctf_reading.proofs.ScanLemmas.{digits_number-step, digits_number-grows}
use Rattle.dspec_ctf_reading.proofs.scan.number_of.Goals as goal

pub returns-in_default : goal.returns-in_default
returns-in_default c =
    let i : ℕ = c.loop-digit.digit-index in
    let next : ℕ = 10 * c.loop-digit.number + (get_or c.args.digits.now i 0 - 48) in
    let below : i < length c.args.digits.now = omega arith in
    let step = digits_number-step c.loop-digit.number i c.args.digits.now below in
    let grows = digits_number-grows next (drop (i + 1) c.args.digits.now) in
    let large : 2 ^ 64 ≤ next = c.in_default.ensures in
    omega (arith, step, grows, large, c.loop-digit.invariant)
