use Rattle.std.proofs.Common.{◌∙◌, Some, ap, arith, refl, subst, sym}
use Rattle.dspec_cpu.specs.Words.{Stored, HandsOn, not_asked, worn_out, buffers_of, CpuState}
use Rattle.dspec_cpu.proofs.Heeding.{left_held_back, none_found, none_of, sealed_now}
use Rattle.dspec_cpu.proofs.parts.CpuParts.heed.Goals.{then-ask-self-via-then-ask-self, then-ask-self-via-else-ask-self+then-self}
use Rattle.dspec_cpu.proofs.parts.CpuParts.heed.Goals as goal

pub returns-then-ask-self-clause-heeds : goal.returns-then-ask-self-clause-heeds
returns-then-ask-self-clause-heeds g c =
    elim c.then-ask-self.branch [ then-ask-self-via-then-ask-self w ↦ not_asked w.if-ask-self.true | then-ask-self-via-else-ask-self+then-self w ↦ worn_out w.if-ask-self.false w.if-self.true ]

pub returns-then-is_some-clause-heeds : goal.returns-then-is_some-clause-heeds
returns-then-is_some-clause-heeds g c =
    let cpu = c.args.self.now in
    left_held_back cpu.config cpu.cpu c.args.ask (buffers_of cpu) c.if-ask-self.false c.if-self.false c.take_spare-found.new.end c.take_spare-found.result
    c.take_spare-found.ensures.found (sym c.is_some.ensures ∙ c.if-is_some.true) c.requires.few c.take_spare-found.result refl

pub returns-in_default-clause-heeds : goal.returns-in_default-clause-heeds
returns-in_default-clause-heeds g c =
    let cpu = c.args.self.now in
    none_found cpu.config cpu.cpu c.args.ask (buffers_of cpu) c.if-ask-self.false c.if-self.false c.take_spare-found.new.end c.take_spare-found.result c.take_spare-found.ensures.found
    c.take_spare-found.new.spare c.in_default.is c.take_spare-found.ensures.taken

pub seal-batch-requires : goal.seal-batch-requires
seal-batch-requires g c =
    let most = c.requires.most in
    let lt = c.if-self.false in
    record { seals = omega arith }

pub returns-in-Some-hand_over-clause-heeds : goal.returns-in-Some-hand_over-clause-heeds
returns-in-Some-hand_over-clause-heeds g c =
    let cpu = c.args.self.now in
    sealed_now cpu.config cpu.cpu c.args.ask (buffers_of cpu) c.if-ask-self.false c.if-self.false c.take_spare-found.new.end c.take_spare-found.result c.take_spare-found.ensures.found
    c.in-Some.spare c.take_spare-found.new.spare c.seal-batch.new.side.active c.seal-batch.new.side.drops c.seal-batch.new.side.seals
    c.seal-batch.result c.hand_over.new.end (Some c.in-Some-hand_over.back)
    c.in-Some.is (sym c.is_some.ensures ∙ c.if-is_some.false) c.take_spare-found.ensures.taken c.seal-batch.ensures.batch
    (ap (λ (x : CpuState Stored). x.active) c.seal-batch.ensures.side) (ap (λ (x : CpuState Stored). x.drops) c.seal-batch.ensures.side)
    (ap (λ (x : CpuState Stored). x.seals) c.seal-batch.ensures.side) (subst (HandsOn c.take_spare-found.new.end (Some c.seal-batch.result) c.hand_over.new.end) c.in-Some-hand_over.is
    c.hand_over.ensures)

pub returns-in_default-hand_over-clause-heeds : goal.returns-in_default-hand_over-clause-heeds
returns-in_default-hand_over-clause-heeds g c =
    let cpu = c.args.self.now in
    sealed_now cpu.config cpu.cpu c.args.ask (buffers_of cpu) c.if-ask-self.false c.if-self.false c.take_spare-found.new.end c.take_spare-found.result c.take_spare-found.ensures.found
    c.in-Some.spare c.take_spare-found.new.spare c.seal-batch.new.side.active c.seal-batch.new.side.drops c.seal-batch.new.side.seals
    c.seal-batch.result c.hand_over.new.end cpu.held_back
    c.in-Some.is (sym c.is_some.ensures ∙ c.if-is_some.false) c.take_spare-found.ensures.taken c.seal-batch.ensures.batch
    (ap (λ (x : CpuState Stored). x.active) c.seal-batch.ensures.side) (ap (λ (x : CpuState Stored). x.drops) c.seal-batch.ensures.side)
    (ap (λ (x : CpuState Stored). x.seals) c.seal-batch.ensures.side)
    (subst (HandsOn c.take_spare-found.new.end (Some c.seal-batch.result) c.hand_over.new.end) (c.in_default-hand_over.is ∙ sym (none_of cpu.held_back (sym c.is_some.ensures ∙
    c.if-is_some.false))) c.hand_over.ensures)
