-- The acknowledgement that was read is the CPU's.
use Rattle.std.proofs.{Common.◌≡◌, Common.ℕ, Common.◌+◌, Common.◌<◌, Common.◌≤◌, Common.true, Common.false, Common.arith, lemmas.Bool.eq-eqb, lemmas.Bool.le-ltb, lemmas.Bool.lt-ltb}
use Rattle.std.specs.Prelude.{nat_lt}
use Rattle.dspec_deeds.proofs.TestLemmas.{other_number}
use Rattle.dspec_core.proofs.AckReads.{ack_place, ack_told, few_steps}
use Rattle.dspec_core.proofs.machine.Machine.step_clean_ack.Goals as goal

-- an acknowledgement of the issue or of a later one, and one that is still to come
acknowledged : (read told issue acked : ℕ) → read ≡ acked → told ≡ issue → read ≤ told → nat_lt issue acked ≡ false
acknowledged read told issue acked is says most = le-ltb issue acked (omega arith)

waited_for : (read told issue acked : ℕ) → read ≡ acked → told ≡ issue → told < read → nat_lt issue acked ≡ true
waited_for read told issue acked is says more = lt-ltb issue acked (omega arith)

pub index-requires-2 : goal.index-requires-2
index-requires-2 g c = ack_place c.requires.stands c.index.ensures

pub clean_next-requires-clause-steps : goal.clean_next-requires-clause-steps
clean_next-requires-clause-steps g c = few_steps c.requires.stands

pub keep_on-requires-clause-steps : goal.keep_on-requires-clause-steps
keep_on-requires-clause-steps g c = few_steps c.requires.stands

pub keep_on-requires-2-clause-steps : goal.keep_on-requires-2-clause-steps
keep_on-requires-2-clause-steps g c = few_steps c.requires.stands

pub returns-then-index-issue : goal.returns-then-index-issue
returns-then-index-issue g c =
    rw (acknowledged _ _ _ _ (ack_told c.requires.stands c.index.ensures c.index-2.ensures) c.issue.ensures.value c.if-index-issue.true) c.clean_next.ensures

pub returns-then-cpu-self : goal.returns-then-cpu-self
returns-then-cpu-self g c =
    let waits = waited_for _ _ _ _ (ack_told c.requires.stands c.index.ensures c.index-2.ensures) c.issue.ensures.value c.if-index-issue.false in
    rw (waits, (eq-eqb (c.args.cpu + 1) c.args.self.now.config.cpus c.if-cpu-self.true)) c.keep_on.ensures

pub returns : goal.returns
returns g c =
    let waits = waited_for _ _ _ _ (ack_told c.requires.stands c.index.ensures c.index-2.ensures) c.issue.ensures.value c.if-index-issue.false in
    rw (waits, (other_number (c.args.cpu + 1) c.args.self.now.config.cpus c.if-cpu-self.false)) c.keep_on-2.ensures
