use Rattle.std.proofs.Common.{false, ◌∙◌, refl, sym, ap}
use Rattle.dspec_cpu.specs.Words.{is_granted, known, HasList, serving}
use Rattle.dspec_cpu.proofs.Services.{due, loaded_ready, not_awaiting, not_granted, passed, passed_early, slot_done}
use Rattle.dspec_cpu.proofs.parts.CpuParts.settle_slot.Goals as goal

pub settle_due-requires : goal.settle_due-requires
settle_due-requires g c = record {
  ready = loaded_ready _ _ _ c.args.words.now c.args.self.now c.requires.ready c.args.slot c.requires.slot.0 c.requires.slot.1 c.load_word-word.new.self
      c.load_word-word.result (serving false 0 false) refl c.load_word-word.ensures.step c.load_word-word.ensures.seat;
  slot = c.requires.slot;
  due = due _ _ _ c.args.words.now c.args.self.now c.requires.ready c.args.slot c.requires.slot.0 c.requires.slot.1 c.load_word-word.new.self c.load_word-word.result
      (serving false 0 false) refl c.load_word-word.ensures.step c.index.result.now c.index.ensures c.load_word-word.ensures.limit (sym c.in-Granted.ensures);
}

pub returns-in-Granted-clause-settled : goal.returns-in-Granted-clause-settled
returns-in-Granted-clause-settled g c =
    let new = c.settle_due.new.self in
    let is_due = due _ _ _ c.args.words.now c.args.self.now c.requires.ready c.args.slot c.requires.slot.0 c.requires.slot.1 c.load_word-word.new.self
    c.load_word-word.result (serving false 0 false) refl c.load_word-word.ensures.step c.index.result.now c.index.ensures c.load_word-word.ensures.limit (sym c.in-Granted.ensures) in
    slot_done _ _ _ c.args.words.now c.args.self.now c.requires.ready c.args.slot c.requires.slot.0 c.requires.slot.1 c.load_word-word.new.self
    c.load_word-word.result (serving false 0 false) refl c.load_word-word.ensures.step
    (λ p. HasList (g.S.Schema.shape_of new.schema) (g.S.Schema.accepted new.schema) (g.S.Schema.text new.schema) new p) (known new.seat) is_due c.settle_due.ensures.settled

pub returns-in_default : goal.returns-in_default
returns-in_default g c =
    let none = ap is_granted (sym c.settle_at.ensures) ∙ not_granted c.settle_at.result c.in_default.not-Granted in
    record {
      ready = loaded_ready _ _ _ c.args.words.now c.args.self.now c.requires.ready c.args.slot c.requires.slot.0 c.requires.slot.1 c.load_word-word.new.self
          c.load_word-word.result (serving false 0 false) refl c.load_word-word.ensures.step c.load_word-word.ensures.seat;
      same = (record { schema = refl; config = refl; number = refl; pair = refl }, refl);
      leaves = record { end = refl; spare = refl; held_back = refl; seals = refl };
      settled = passed _ _ _ c.args.words.now c.args.self.now c.requires.ready c.args.slot c.requires.slot.0 c.requires.slot.1 c.load_word-word.new.self
          c.load_word-word.result (serving false 0 false) refl c.load_word-word.ensures.step c.index.result.now c.index.ensures none;
    }

pub returns-then-not-is_decided : goal.returns-then-not-is_decided
returns-then-not-is_decided g c =
    let none = not_awaiting c.load_word-word.result.code (sym c.is_decided.ensures ∙ c.if-not-is_decided.true) in
    record {
      ready = loaded_ready _ _ _ c.args.words.now c.args.self.now c.requires.ready c.args.slot c.requires.slot.0 c.requires.slot.1 c.load_word-word.new.self
          c.load_word-word.result (serving false 0 false) refl c.load_word-word.ensures.step c.load_word-word.ensures.seat;
      same = (record { schema = refl; config = refl; number = refl; pair = refl }, refl);
      leaves = record { end = refl; spare = refl; held_back = refl; seals = refl };
      settled = passed_early _ _ _ c.args.words.now c.args.self.now c.requires.ready c.args.slot c.requires.slot.0 c.requires.slot.1 c.load_word-word.new.self
          c.load_word-word.result (serving false 0 false) refl c.load_word-word.ensures.step none;
    }
