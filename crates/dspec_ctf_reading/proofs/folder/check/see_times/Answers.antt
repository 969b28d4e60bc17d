use Rattle.std.proofs.Common.{◌≡◌, Some, rules}
use Rattle.dspec_ctf_reading.specs.Words.{told_layout}
use Rattle.dspec_ctf_reading.proofs.Folders.Checking.{falls-end, falls-within, rises-whole}
use Rattle.dspec_ctf_reading.proofs.folder.check.see_times.Goals as goal

pub returns-then-end-from-clause-falls : goal.returns-then-end-from-clause-falls
returns-then-end-from-clause-falls c =
    let is : c.args.packet.now.front.span ≡ Some (c.in-Some.begin, c.in-Some.end) = search rules in
    falls-end (told_layout c.args.metadata.now) c.args.packet.now c.as_slice.result.now c.in-Some.begin c.in-Some.end c.args.last is c.as_slice.ensures.value
    c.in-Ok.from c.in-Ok.ensures.rises.1 c.if-end-from.true

pub returns-else-end-from-clause-rises : goal.returns-else-end-from-clause-rises
returns-else-end-from-clause-rises c =
    let is : c.args.packet.now.front.span ≡ Some (c.in-Some.begin, c.in-Some.end) = search rules in
    rises-whole (told_layout c.args.metadata.now) c.args.packet.now c.as_slice.result.now c.in-Some.begin c.in-Some.end c.args.last is c.as_slice.ensures.value
    c.in-Ok.from c.if-begin-last.false c.in-Ok.ensures.rises.0 c.in-Ok.ensures.rises.1 c.if-end-from.false

pub returns-in-Err-clause-falls : goal.returns-in-Err-clause-falls
returns-in-Err-clause-falls c =
    let is : c.args.packet.now.front.span ≡ Some (c.in-Some.begin, c.in-Some.end) = search rules in
    falls-within (told_layout c.args.metadata.now) c.args.packet.now c.as_slice.result.now c.in-Some.begin c.in-Some.end c.args.last is c.as_slice.ensures.value
    c.in-Err.ensures.falls
