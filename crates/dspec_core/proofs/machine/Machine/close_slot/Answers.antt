-- What is read, and the settlement that the table grants.
use Rattle.std.proofs.Common.{◌≡◌, refl, sym, subst}
use Rattle.dspec_core.specs.Words.{Speculation, CanBeReleased, issue, IsAllowed, history}
use Rattle.dspec_core.proofs.{MachineReads.acks_place, Settlings.named_present, Settlings.none_due, Settlings.one_due, Settlings.closes_still, Settlings.closes_bare, Settlings.closes_settled}
use Rattle.dspec_core.proofs.{SlotReads.slot_read}
use Rattle.dspec_interleaving.proofs.StepReads.{can_be_released}
use Rattle.dspec_core.proofs.machine.Machine.close_slot.Goals as goal

pub index-requires-2 : goal.index-requires-2
index-requires-2 g c = acks_place _ _ _ c.requires.closable.shown c.args.cpu c.args.slot _ c.requires.cpu c.requires.slot c.index.ensures

pub settle_at-requires : goal.settle_at-requires
settle_at-requires g c =
    let reads = slot_read c.requires.closable.shown c.args.cpu c.args.slot c.requires.cpu c.requires.slot c.index.ensures c.index-word.ensures c.index-2.ensures in
    subst CanBeReleased (sym reads.word) (can_be_released c.args.self.now.config c.args.slot _ c.requires.closable.fine c.requires.closable.can_close.legal.0)

pub returns-in_default : goal.returns-in_default
returns-in_default g c =
    let m = c.args.self.now in
    let reads = slot_read c.requires.closable.shown c.args.cpu c.args.slot c.requires.cpu c.requires.slot c.index.ensures c.index-word.ensures c.index-2.ensures in
    closes_bare c.requires.closable c.args.cpu c.args.slot c.requires.cpu c.requires.slot (none_due reads (g.S.Schema.shape_of m.schema) m.config c.settle_at.ensures c.in_default.not-Granted)

pub settle_fate-fate-requires-clause-present : goal.settle_fate-fate-requires-clause-present
settle_fate-fate-requires-clause-present g c =
    let reads = slot_read c.requires.closable.shown c.args.cpu c.args.slot c.requires.cpu c.requires.slot c.index.ensures c.index-word.ensures c.index-2.ensures in
    subst (λ (id : Speculation). id.issue ≡ issue id.slot (history c.args.self.now)) (sym (named_present reads c.of-id.ensures c.issue.ensures.value)) refl

pub enter_settle-requires-clause-may : goal.enter_settle-requires-clause-may
enter_settle-requires-clause-may g c =
    let m = c.args.self.now in
    let reads = slot_read c.requires.closable.shown c.args.cpu c.args.slot c.requires.cpu c.requires.slot c.index.ensures c.index-word.ensures c.index-2.ensures in
    let due = one_due reads (g.S.Schema.shape_of m.schema) m.config c.settle_at.ensures c.in-Granted.is c.of-id.ensures c.issue.ensures.value c.code.ensures c.settle_fate-fate.ensures in
    record {
      shown = c.requires.closable.shown;
      ranges = c.requires.closable.fine;
      legal = subst (IsAllowed (g.S.Schema.shape_of m.schema) m.config) (sym due) (closes_still c.requires.closable c.args.cpu c.args.slot c.requires.cpu c.requires.slot).legal;
      cpu = c.requires.cpu;
    }

pub returns : goal.returns
returns g c =
    let m = c.args.self.now in
    let reads = slot_read c.requires.closable.shown c.args.cpu c.args.slot c.requires.cpu c.requires.slot c.index.ensures c.index-word.ensures c.index-2.ensures in
    let due = one_due reads (g.S.Schema.shape_of m.schema) m.config c.settle_at.ensures c.in-Granted.is c.of-id.ensures c.issue.ensures.value c.code.ensures c.settle_fate-fate.ensures in
    closes_settled c.requires.closable c.args.cpu c.args.slot c.requires.cpu c.requires.slot c.enter_settle.result c.enter_settle.new.self due
    c.enter_settle.ensures.shown c.enter_settle.ensures.entered
