-- Each deed is entered as what is asked of it.
use Rattle.std.proofs.{Common.arith, Common.refl, lemmas.Bool.Decides.nat_tests}
use Rattle.dspec_core.specs.Words.{history}
use Rattle.dspec_core.proofs.Entries.{few_calls, few_takes, may_next, may_next_on, one_comes, opened_slot, passes, released_slot}
use Rattle.dspec_core.proofs.OwnSlots.{settled_slot}
use Rattle.dspec_core.proofs.machine.Machine.enter.Goals as goal

pub enter_trace-requires : goal.enter_trace-requires
enter_trace-requires g c =
    let next = one_comes c.args.cpu c.args.entry c.in-One.deed c.in-One.is c.requires.next in
    let is = c.in-Trace.is in
    record { may = may_next_on next is _ refl; few = few_calls next is _ refl; accepted = passes next is }

pub enter_scan-requires : goal.enter_scan-requires
enter_scan-requires g c =
    let next = one_comes c.args.cpu c.args.entry c.in-One.deed c.in-One.is c.requires.next in
    let is = c.in-Scan.is in
    record { may = may_next_on next is _ refl; few = few_calls next is _ refl }

pub enter_opened-requires : goal.enter_opened-requires
enter_opened-requires g c =
    let m = c.args.self.now in
    let may = may_next_on (one_comes c.args.cpu c.args.entry c.in-One.deed c.in-One.is c.requires.next) c.in-Opened.is c.in-Opened.cpu refl in
    record { may = may; slot = (may.legal.0.1.1.1, opened_slot m.config (history m) may.ranges c.in-Opened.cpu c.in-Opened.id may.legal.0) }

pub enter_miss-requires : goal.enter_miss-requires
enter_miss-requires g c =
    let next = one_comes c.args.cpu c.args.entry c.in-One.deed c.in-One.is c.requires.next in
    let is = c.in-Miss.is in
    record { may = may_next_on next is _ refl; few = few_calls next is _ refl }

pub enter_speculate-requires : goal.enter_speculate-requires
enter_speculate-requires g c =
    let next = one_comes c.args.cpu c.args.entry c.in-One.deed c.in-One.is c.requires.next in
    let is = c.in-Speculate.is in
    record { may = may_next_on next is _ refl; few = few_calls next is _ refl; accepted = passes next is }

pub enter_decision-requires : goal.enter_decision-requires
enter_decision-requires g c = grind (arith, nat_tests, one_comes, may_next_on, few_calls, c.in-One.is, c.requires.next, c.in-Commit.is)

pub enter_decision-requires-in-Discard : goal.enter_decision-requires-in-Discard
enter_decision-requires-in-Discard g c = grind (arith, nat_tests, one_comes, may_next_on, few_calls, c.in-One.is, c.requires.next, c.in-Discard.is)

pub enter_settle-requires : goal.enter_settle-requires
enter_settle-requires g c =
    let m = c.args.self.now in
    let may = may_next_on (one_comes c.args.cpu c.args.entry c.in-One.deed c.in-One.is c.requires.next) c.in-Settle.is c.in-Settle.cpu refl in
    record { may = may; slot = settled_slot m.config c.in-Settle.cpu c.in-Settle.id c.in-Settle.fate (history m) may.ranges may.legal.0 }

pub enter_seal-requires : goal.enter_seal-requires
enter_seal-requires g c =
    let next = one_comes c.args.cpu c.args.entry c.in-One.deed c.in-One.is c.requires.next in
    let is = c.in-Seal.is in
    record { may = may_next_on next is _ refl; takes = few_takes next is _ refl }

pub enter_release-requires : goal.enter_release-requires
enter_release-requires g c =
    let m = c.args.self.now in
    let may = may_next (one_comes c.args.cpu c.args.entry c.in-One.deed c.in-One.is c.requires.next) c.in-Release.is in
    record { may = may; slot = released_slot m.config (history m) may.ranges c.in-Release.slot may.legal.0 }

pub enter_halt-requires : goal.enter_halt-requires
enter_halt-requires g c = record { may = may_next (one_comes c.args.cpu c.args.entry c.in-One.deed c.in-One.is c.requires.next) c.in-Halt.is }

pub enter_solo_discard-requires : goal.enter_solo_discard-requires
enter_solo_discard-requires g c = grind (arith, nat_tests, c.in-Alone.is, c.requires.next, c.requires.cpu)
