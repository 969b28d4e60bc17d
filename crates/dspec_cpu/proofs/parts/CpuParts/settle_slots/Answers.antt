use Rattle.std.proofs.Common.{◌≡◌, ◌+◌, ◌-◌, ◌∙◌, ℕ, List, if◌then◌else◌, refl, sym, ap, subst, arith}
use Rattle.dspec_cpu.specs.Words.{Deed, known, Settled, SlotDone, HasList}
use Rattle.dspec_cpu.proofs.ServedSlots.{few_settles, none_settled, slot_more}
use Rattle.dspec_cpu.proofs.parts.CpuParts.settle_slots.Goals.{then-settle_slot, else-settle_slot}
use Rattle.dspec_cpu.proofs.parts.CpuParts.settle_slots.Goals as goal

pub loop-slot-init : goal.loop-slot-init
loop-slot-init g c =
    let cpu = c.args.self.now in
    record {
      from = omega arith;
      ready = c.requires.ready;
      same = (record { schema = refl; config = refl; number = refl; pair = refl }, refl);
      leaves = record { end = refl; spare = refl; held_back = refl; seals = refl };
      settled = none_settled cpu.cpu (λ p. HasList (g.S.Schema.shape_of cpu.schema) (g.S.Schema.accepted cpu.schema) (g.S.Schema.text cpu.schema) cpu p) (known cpu.seat);
    }

pub settle_slot-requires : goal.settle_slot-requires
settle_slot-requires g c =
    let same = ap (λ (k : Rattle.dspec_deeds.specs.declared.config.Config.Config). k.nspec) c.loop-slot.invariant.same.0.config in
    let lt = c.loop-slot-test.true in
    record { ready = c.loop-slot.invariant.ready; slot = (c.loop-slot.invariant.from, omega arith) }

pub overflow_add-settled : goal.overflow_add-settled
overflow_add-settled g c =
    let cpu = c.args.self.now in
    let was = c.loop-slot.invariant.settled in
    let few = few_settles cpu.cpu (known cpu.seat) (c.loop-slot.slot - 1) was.settles (known c.loop-slot.self.seat) was.slots in
    let counted = was.number in
    let lt = c.loop-slot-test.true in
    omega arith

pub loop-slot-preserved : goal.loop-slot-preserved
loop-slot-preserved g c =
    let cpu = c.args.self.now in
    let mid = c.loop-slot.self in
    let new = c.settle_slot.new.self in
    let was = c.loop-slot.invariant in
    let now = c.settle_slot.ensures in
    let hit = c.settle_slot.result in
    let had : List Deed → Type 0 = λ p. HasList (g.S.Schema.shape_of cpu.schema) (g.S.Schema.accepted cpu.schema) (g.S.Schema.text cpu.schema) cpu p in
    let half : List Deed → Type 0 = λ p. HasList (g.S.Schema.shape_of mid.schema) (g.S.Schema.accepted mid.schema) (g.S.Schema.text mid.schema) mid p in
    let has : List Deed → Type 0 = λ p. HasList (g.S.Schema.shape_of new.schema) (g.S.Schema.accepted new.schema) (g.S.Schema.text new.schema) new p in
    let counted : c.if-settle_slot.settled ≡ (if hit then c.loop-slot.settled + 1 else c.loop-slot.settled) = elim c.if-settle_slot.branch [
      | then-settle_slot w ↦ w.settled-is ∙ ap (λ b. if b then c.loop-slot.settled + 1 else c.loop-slot.settled) (sym w.if-settle_slot.true)
      | else-settle_slot w ↦ w.settled-is ∙ ap (λ b. if b then c.loop-slot.settled + 1 else c.loop-slot.settled) (sym w.if-settle_slot.false)
    ] in
    let done = subst (λ (n : ℕ). SlotDone n c.loop-slot.slot hit half (known mid.seat) has (known new.seat)) was.same.0.number now.settled in
    let back : c.loop-slot.slot ≡ c.loop-slot.slot - 1 + 1 = omega (arith, was.from) in
    let there : c.loop-slot.slot - 1 + 1 ≡ c.loop-slot.slot + 1 - 1 = omega (arith, was.from) in
    let done_there = subst (λ (n : ℕ). SlotDone cpu.cpu n hit half (known mid.seat) has (known new.seat)) back done in
    let more = slot_more cpu.cpu (c.loop-slot.slot - 1) c.loop-slot.settled had half has (known cpu.seat) (known mid.seat) (known new.seat) hit was.settled done_there in
    record {
      from = omega arith;
      ready = now.ready;
      same = (
        record {
          schema = now.same.0.schema ∙ was.same.0.schema;
          config = now.same.0.config ∙ was.same.0.config;
          number = now.same.0.number ∙ was.same.0.number;
          pair = now.same.0.pair ∙ was.same.0.pair;
        },
        now.same.1 ∙ was.same.1,
      );
      leaves = record {
        end = now.leaves.end ∙ was.leaves.end;
        spare = now.leaves.spare ∙ was.leaves.spare;
        held_back = now.leaves.held_back ∙ was.leaves.held_back;
        seals = now.leaves.seals ∙ was.leaves.seals;
      };
      settled = subst (λ (m : ℕ). Settled cpu.cpu m c.if-settle_slot.settled had (known cpu.seat) has (known new.seat)) there
          (subst (λ (n : ℕ). Settled cpu.cpu (c.loop-slot.slot - 1 + 1) n had (known cpu.seat) has (known new.seat)) (sym counted) more);
    }

pub returns-clause-settled : goal.returns-clause-settled
returns-clause-settled g c =
    let cpu = c.args.self.now in
    let end = c.loop-slot.self in
    let least = c.loop-slot-test.false in
    let most = c.loop-slot.auto.slot-end in
    let from = c.loop-slot.invariant.from in
    let all : c.loop-slot.slot - 1 ≡ cpu.config.nspec = omega arith in
    subst (λ (n : ℕ). Settled cpu.cpu n c.loop-slot.settled (λ p. HasList (g.S.Schema.shape_of cpu.schema) (g.S.Schema.accepted cpu.schema) (g.S.Schema.text cpu.schema) cpu p) (known cpu.seat)
    (λ p. HasList (g.S.Schema.shape_of end.schema) (g.S.Schema.accepted end.schema) (g.S.Schema.text end.schema) end p) (known end.seat)) all c.loop-slot.invariant.settled
