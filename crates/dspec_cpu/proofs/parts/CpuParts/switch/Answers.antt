use Rattle.std.proofs.Common.{List, length, sym, ap, ◌∙◌, subst}
use Rattle.dspec_cpu.specs.{Words.Deed, Words.HasList, Words.IsReady, Words.buffers_of, Words.never, Words.with_seal, declared.parts.CpuParts.CpuParts as Cpu}
use Rattle.dspec_cpu.proofs.{RingMoves.switched_moves, Seals.batch_count, Seals.few_batches, Switches.passed, Switches.switched_by, Switches.switched_is, Switches.switched_list}
use Rattle.dspec_cpu.proofs.{Switches.switched_ready, Switches.switched_same}
use Rattle.dspec_cpu.proofs.parts.CpuParts.switch.Goals as goal

pub returns-then-is_fill-clause-switches : goal.returns-then-is_fill-clause-switches
returns-then-is_fill-clause-switches g c = never (sym c.is_fill.ensures ∙ c.if-is_fill.true)

pub hand_on-requires : goal.hand_on-requires
hand_on-requires g c = record { few = few_batches _ _ _ c.args.words.now c.args.self.now c.requires.ready }

pub heed-requires-clause-count : goal.heed-requires-clause-count
heed-requires-clause-count g c =
    let cpu = c.args.self.now in
    ap length (passed cpu.end cpu.held_back c.hand_on.new.end c.hand_on.new.held_back c.hand_on.ensures).batches ∙ batch_count _ _ _ c.args.words.now cpu c.requires.ready

pub returns-clause-ready : goal.returns-clause-ready
returns-clause-ready g c =
    let cpu = c.args.self.now in
    subst (λ (x : Cpu g.row.S.Denot). IsReady (g.S.Schema.shape_of x.schema) (g.S.Schema.accepted x.schema) (g.S.Schema.text x.schema) c.args.words.now x)
    (sym (switched_is cpu c.load_ask-ask.new.self c.heed.new.self c.heed.ensures.beside))
    (switched_ready _ _ _ c.args.words.now cpu c.requires.ready (sym c.is_fill.ensures ∙ c.if-is_fill.false) c.hand_on.new.end c.hand_on.new.held_back c.hand_on.ensures c.load_ask-ask.result
    c.load_ask-ask.new.self c.load_ask-ask.ensures.seat.0 c.load_ask-ask.ensures.seat.1 c.load_ask-ask.ensures.step c.heed.new.self c.heed.ensures.beside c.heed.result c.heed.ensures.heeds)

pub returns-clause-list : goal.returns-clause-list
returns-clause-list g c =
    let cpu = c.args.self.now in
    subst (λ (x : Cpu g.row.S.Denot). (p : List Deed) → HasList (g.S.Schema.shape_of cpu.schema) (g.S.Schema.accepted cpu.schema) (g.S.Schema.text cpu.schema) cpu p
    → HasList (g.S.Schema.shape_of x.schema) (g.S.Schema.accepted x.schema) (g.S.Schema.text x.schema) x (with_seal c.heed.result cpu.cpu p))
    (sym (switched_is cpu c.load_ask-ask.new.self c.heed.new.self c.heed.ensures.beside))
    (switched_list _ _ _ c.args.words.now cpu c.requires.ready (sym c.is_fill.ensures ∙ c.if-is_fill.false) c.hand_on.new.end c.hand_on.new.held_back c.hand_on.ensures c.load_ask-ask.result
    c.load_ask-ask.new.self c.load_ask-ask.ensures.seat.0 c.load_ask-ask.ensures.seat.1 c.load_ask-ask.ensures.step c.heed.new.self c.heed.ensures.beside c.heed.result c.heed.ensures.heeds)

pub returns-clause-same : goal.returns-clause-same
returns-clause-same g c =
    let cpu = c.args.self.now in
    switched_same _ _ _ c.args.words.now cpu c.requires.ready (sym c.is_fill.ensures ∙ c.if-is_fill.false) c.hand_on.new.end c.hand_on.new.held_back c.hand_on.ensures c.load_ask-ask.result
    c.load_ask-ask.new.self c.load_ask-ask.ensures.seat.0 c.load_ask-ask.ensures.seat.1 c.load_ask-ask.ensures.step c.heed.new.self c.heed.ensures.beside c.heed.result c.heed.ensures.heeds

pub returns-clause-switches : goal.returns-clause-switches
returns-clause-switches g c =
    let cpu = c.args.self.now in
    switched_by _ _ _ c.args.words.now cpu c.requires.ready (sym c.is_fill.ensures ∙ c.if-is_fill.false) c.hand_on.new.end c.hand_on.new.held_back c.hand_on.ensures c.load_ask-ask.result
    c.load_ask-ask.new.self c.load_ask-ask.ensures.seat.0 c.load_ask-ask.ensures.seat.1 c.load_ask-ask.ensures.step c.heed.new.self c.heed.ensures.beside c.heed.result c.heed.ensures.heeds

pub returns-clause-moves : goal.returns-clause-moves
returns-clause-moves g c =
    let cpu = c.args.self.now in
    switched_moves _ _ _ (buffers_of cpu) c.heed.result _ (buffers_of c.heed.new.self)
    (switched_by _ _ _ c.args.words.now cpu c.requires.ready (sym c.is_fill.ensures ∙ c.if-is_fill.false) c.hand_on.new.end c.hand_on.new.held_back c.hand_on.ensures c.load_ask-ask.result
    c.load_ask-ask.new.self c.load_ask-ask.ensures.seat.0 c.load_ask-ask.ensures.seat.1 c.load_ask-ask.ensures.step c.heed.new.self c.heed.ensures.beside c.heed.result c.heed.ensures.heeds)
