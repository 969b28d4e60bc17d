use Rattle.std.proofs.Common.{◌∙◌, ◌≤◌, ◌<◌, ◌+◌, ◌^◌, refl, sym, arith}
use Rattle.dspec_deeds.specs.declared.deed.SpeculateFate.TheVariants as spoken
use Rattle.dspec_cpu_state.specs.Words.{calls}
use Rattle.dspec_cpu_state.proofs.{Drops.kept_drops, Drops.more_drops, Grants.as_granted, Grants.granted_shown}
use Rattle.dspec_cpu_state.proofs.cpu_state.CpuState.grant.Goals as goal

pub returns-then-not-mark_and_keep-clause-answer : goal.returns-then-not-mark_and_keep-clause-answer
returns-then-not-mark_and_keep-clause-answer g c = λ k cpu p shown caller.
    sym c.if-not-mark_and_keep.true
    ∙ as_granted _ _ (g.S.Schema.shape_of c.args.schema.now) p shown c.args.id (g.R.Recorded.as_record c.args.rec) c.args.mine c.requires.slot.0 c.requires.slot.1 caller c.mark_and_keep.result
    c.mark_and_keep.new.buffers c.mark_and_keep.ensures.buffer

pub returns-then-not-mark_and_keep-clause-shows : goal.returns-then-not-mark_and_keep-clause-shows
returns-then-not-mark_and_keep-clause-shows g c = λ k cpu p shown caller.
    let high : c.args.id.slot ≤ k.nspec = let count = shown.parts.buffer_count in omega (arith, c.requires.slot.1) in
    let few : calls cpu p + 1 < 2 ^ 64 = let called = shown.parts.called in omega (arith, c.requires.calls) in
    granted_shown _ _ (g.S.Schema.shape_of c.args.schema.now) p shown c.args.id (g.R.Recorded.as_record c.args.rec) c.args.mine c.requires.slot.0 c.requires.slot.1 caller c.mark_and_keep.result
    spoken.Dropped refl (sym c.if-not-mark_and_keep.true)
    c.mark_and_keep.new.buffers c.mark_and_keep.ensures.buffer c.mark_and_keep.new.marks c.mark_and_keep.ensures.marks c.count_specdrop.new.specdrops
    (more_drops p c.args.id c.requires.slot.0 high c.args.mine caller.marked (g.R.Recorded.as_record c.args.rec) c.args.self.now.specdrops.items c.count_specdrop.new.specdrops.items
    (record { count = shown.parts.specdrop_count; each = shown.parts.specdrops })
    c.mark_and_keep.new.specdrops.items c.mark_and_keep.ensures.specdrops few c.count_specdrop.ensures)
    c.speculate.new.self c.speculate.ensures

pub returns-clause-answer : goal.returns-clause-answer
returns-clause-answer g c = λ k cpu p shown caller.
    sym c.if-not-mark_and_keep.false
    ∙ as_granted _ _ (g.S.Schema.shape_of c.args.schema.now) p shown c.args.id (g.R.Recorded.as_record c.args.rec) c.args.mine c.requires.slot.0 c.requires.slot.1 caller c.mark_and_keep.result
    c.mark_and_keep.new.buffers c.mark_and_keep.ensures.buffer

pub returns-clause-shows : goal.returns-clause-shows
returns-clause-shows g c = λ k cpu p shown caller.
    let high : c.args.id.slot ≤ k.nspec = let count = shown.parts.buffer_count in omega (arith, c.requires.slot.1) in
    granted_shown _ _ (g.S.Schema.shape_of c.args.schema.now) p shown c.args.id (g.R.Recorded.as_record c.args.rec) c.args.mine c.requires.slot.0 c.requires.slot.1 caller c.mark_and_keep.result
    spoken.Kept refl (sym c.if-not-mark_and_keep.false)
    c.mark_and_keep.new.buffers c.mark_and_keep.ensures.buffer c.mark_and_keep.new.marks c.mark_and_keep.ensures.marks c.mark_and_keep.new.specdrops
    (kept_drops p c.args.id c.requires.slot.0 high c.args.mine caller.marked (g.R.Recorded.as_record c.args.rec) c.args.self.now.specdrops.items c.mark_and_keep.new.specdrops.items
    (record { count = shown.parts.specdrop_count; each = shown.parts.specdrops }) c.mark_and_keep.ensures.specdrops)
    c.speculate-2.new.self c.speculate-2.ensures
