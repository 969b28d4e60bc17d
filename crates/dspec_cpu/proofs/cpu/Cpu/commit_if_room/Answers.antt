use Rattle.std.proofs.Common.{◌≡◌, ◌∙◌, ◌||◌, true, List, refl, sym, ap}
use Rattle.dspec_cpu.specs.Words.{Deed, cpu_block_fits, made_all_calls}
use Rattle.dspec_deeds.proofs.TestLemmas.{or_true}
use Rattle.dspec_cpu.proofs.Rooms.{has, none_lost}
use Rattle.dspec_cpu.proofs.cpu.Cpu.commit_if_room.Goals.{else-not-is_worn-via-then-not-is_worn+else-not-has_room_for, else-not-is_worn-via-else-not-is_worn}
use Rattle.dspec_cpu.proofs.cpu.Cpu.commit_if_room.Goals as goal

pub returns-clause-does : goal.returns-clause-does
returns-clause-does g c =
    let old = c.args.self.now in
    let steady = c.invariant.ensures.steady in
    let has_it = has g.S.Schema.shape_of g.S.Schema.accepted g.S.Schema.text in
    let due : (p : List Deed) → has_it old p → (made_all_calls old || cpu_block_fits (g.S.Schema.shape_of old.schema) old c.args.id p) ≡ true = λ p had.
    let fits = cpu_block_fits (g.S.Schema.shape_of old.schema) old c.args.id p in
    elim c.else-not-is_worn.branch [
      | else-not-is_worn-via-then-not-is_worn+else-not-has_room_for w ↦
          ap (λ b. made_all_calls old || b) (sym (w.has_room_for.ensures p had) ∙ w.if-not-has_room_for.false) ∙ or_true (made_all_calls old)
      | else-not-is_worn-via-else-not-is_worn w ↦ ap (λ b. b || fits) (sym c.is_worn.ensures ∙ w.if-not-is_worn.false)
    ] in
    record {
      due = λ p had. (λ t. due p had, λ t. refl);
      refused = tt;
      kept = none_lost g.S.Schema.shape_of g.S.Schema.accepted g.S.Schema.text old c.commit.new.self c.args.id c.commit.result c.commit.ensures.same c.commit.ensures.does
          steady.list steady.listed (due steady.list steady.listed);
      one = c.commit.ensures.does;
    }
