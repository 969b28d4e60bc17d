use Rattle.std.proofs.Common.{◌≡◌, ◌≤◌, ◌-◌, ◌+◌, ◌∙◌, Some, slice_get, get_or, ap, sym, arith}
use Rattle.std.proofs.lemmas.Option.{get_or_from_slice_get}
use Rattle.dspec_cpu_state.specs.Words.{mark, dropped_in}
use Rattle.dspec_deeds.proofs.{Dropping.unmarked_drops, TestLemmas.same_number}
use Rattle.dspec_cpu_state.proofs.Drops.{counted_here}
use Rattle.dspec_cpu_state.proofs.cpu_state.CpuState.dropped_in.Goals as goal

pub returns-then-not-is_mine : goal.returns-then-not-is_mine
returns-then-not-is_mine g c = λ s k cpu p shown.
    let id = c.args.id in
    let high : id.slot ≤ k.nspec = let count = shown.parts.mark_count in omega (arith, c.requires.slot.1) in
    sym (unmarked_drops cpu id p (sym (c.is_mine.ensures.tells (mark cpu id.slot p) (shown.parts.marks id.slot c.requires.slot.0 high)) ∙ c.if-not-is_mine.true))

pub returns : goal.returns
returns g c = λ s k cpu p shown.
    let id = c.args.id in
    let high : id.slot ≤ k.nspec = let count = shown.parts.mark_count in omega (arith, c.requires.slot.1) in
    let place : c.slot.result - 1 ≡ id.slot - 1 = ap (λ n. n - 1) c.slot.ensures.value in
    let marked : mark cpu id.slot p ≡ id.issue + 1 =
    same_number (mark cpu id.slot p) (id.issue + 1) (sym (c.is_mine.ensures.tells (mark cpu id.slot p) (shown.parts.marks id.slot c.requires.slot.0 high)) ∙ c.if-not-is_mine.false) in
    let drops = c.args.self.now.specdrops.items in
    let at : slice_get drops (id.slot - 1) ≡ Some (dropped_in cpu id p) =
    counted_here {k = k} p id c.requires.slot.0 high drops (record { count = shown.parts.specdrop_count; each = shown.parts.specdrops }) marked in
    c.index.ensures ∙ (ap (λ n. get_or drops n c.index.result.now) place ∙ get_or_from_slice_get drops (id.slot - 1) (dropped_in cpu id p) c.index.result.now at)
