use Rattle.std.proofs.Common.{ℕ, ◌∙◌, ap, subst, arith}
use Rattle.dspec_cpu.specs.{Words.CpuKnows, Words.known, Words.SettledSlots, Words.words_of, Words.buffers_of, Words.Config, declared.parts.CpuParts.CpuParts as Cpu}
use Rattle.dspec_cpu.proofs.{Ready.holder, Ready.set_up_is, Touching.service_touches}
use Rattle.dspec_cpu.proofs.parts.CpuParts.service.Goals as goal

pub returns-clause-same : goal.returns-clause-same
returns-clause-same g c =
    let first = c.switch-sealed.ensures.same in
    let then_same = c.settle_slots-settled.ensures.same.0 in
    record { schema = then_same.schema ∙ first.schema; config = then_same.config ∙ first.config; number = then_same.number ∙ first.number; pair = then_same.pair ∙ first.pair }

pub returns-clause-wears : goal.returns-clause-wears
returns-clause-wears g c = c.settle_slots-settled.ensures.same.1 ∙ ap (λ (x : Cpu g.row.S.Denot). x.side.counts.worn) c.switch-sealed.ensures.beside

pub returns-clause-bounded : goal.returns-clause-bounded
returns-clause-bounded g c =
    let slots = ap (λ (k : Config). k.nspec) c.switch-sealed.ensures.same.config in
    let first = c.switch-sealed.ensures.bounded in
    let after = c.settle_slots-settled.ensures.settled.bounded in
    omega arith

pub returns-clause-moves : goal.returns-clause-moves
returns-clause-moves g c =
    let first = c.switch-sealed.ensures.moves in
    let same = ap (λ (e : CpuKnows). e.moves) c.settle_slots-settled.ensures.leaves.end in
    omega arith

pub returns-clause-serves : goal.returns-clause-serves
returns-clause-serves g c =
    let mid = c.switch-sealed.new.self in
    let new = c.settle_slots-settled.new.self in
    let same = c.switch-sealed.ensures.same in
    let settled = c.settle_slots-settled.ensures.settled in
    let leaves = c.settle_slots-settled.ensures.leaves in
    record {
      between = known mid.seat;
      passed = buffers_of mid;
      switches = c.switch-sealed.ensures.switches;
      settles = settled.settles;
      slots = subst (λ (x : ℕ × Config). SettledSlots x.0 (known mid.seat) x.1.nspec settled.settles (known new.seat)) (λ i. (same.number i, same.config i)) settled.slots;
      goes = settled.goes;
      number = settled.number;
      leaves = record { end = leaves.end; held_back = leaves.held_back; spare = leaves.spare; seals = leaves.seals };
      list = λ p had. settled.list _ (c.switch-sealed.ensures.list p had);
    }

pub returns-clause-touches : goal.returns-clause-touches
returns-clause-touches g c =
    let cpu = c.args.self.now in
    let ready = c.requires.ready in
    service_touches cpu.config cpu.cpu _ _ (known cpu.seat) _ _ (known c.settle_slots-settled.new.self.seat) _ (set_up_is _ _ _ (words_of c.args.shared.now) cpu ready)
    (holder _ _ _ (words_of c.args.shared.now) cpu ready) (returns-clause-serves g c)
