use Rattle.std.proofs.Common.{◌≡◌, ◌+◌, ◌-◌, ap}
use Rattle.std.specs.Prelude.{slice_set}
use Rattle.dspec_cpu_state.proofs.EndedBlocks.{settle_shown}
use Rattle.dspec_cpu_state.proofs.cpu_state.CpuState.settle.Goals as goal

pub returns-clause-shows : goal.returns-clause-shows
returns-clause-shows g c = λ s k cpu p shown caller ends allows.
    let self = c.args.self.now in
    let place : c.slot.result - 1 ≡ c.args.id.slot - 1 = ap (λ n. n - 1) c.slot.ensures.value in
    settle_shown _ _ (g.S.Schema.shape_of s) p shown c.args.id c.args.mine c.requires.slot.0 c.requires.slot.1 caller c.args.fate c.decide.new.self c.decide.ensures
    c.is_copy.result c.is_copy.ensures _ place c.end_block.new.buffers (λ b at. let t = c.end_block.ensures.buffer b at in (t.0, t.1, t.2, λ ps h. t.3 s ps h))
    c.end_block.new.active c.end_block.ensures.size (λ ps rs b at. c.end_block.ensures.active s ps rs b at)
    (self.drops + c.drops_of.result) (ap (λ n. self.drops + n) c.drops_of.ensures) ends allows _ (λ i. slice_set self.acks.items (place i) (c.issue.ensures.value i + 1))
