use Rattle.std.proofs.Common.{ℕ, ◌≤◌, ◌^◌, sym, ◌∙◌, subst}
use Rattle.dspec_table.specs.Words.{SlotState, LoadedNumber, LoadedWord, known, Config}
use Rattle.dspec_word.proofs.Numbers.{one_word}
use Rattle.dspec_table.proofs.{Limits.finds_word, Limits.finds_limit, Loads.loads_word, Places.slot_within, Places.slot_there}
use Rattle.dspec_table.proofs.seats.CpuSeat.load_word.Goals as goal

pub load-found-requires : goal.load-found-requires
load-found-requires g c =
    let words = c.args.words.now in
    let seat = c.args.self.now in (
      c.requires.seat.0,
      rw (c.slot_place.ensures.place, words.words_is) (slot_within words.config c.args.slot c.requires.slot.1),
      rw (c.slot_place.ensures.place, slot_there c.args.slot) (loads_word words.board.shared.key words.board.shared.table_id.slots seat.seat.id seat.cpu c.args.slot
          seat.seat.me g.J.HasDoing.doing c.requires.slot.0 (rw words.key_is c.requires.slot.1) seat.who_is seat.joins_none (rw words.key_is c.requires.call)),
    )

pub of_number-requires : goal.of_number-requires
of_number-requires g c =
    let step = subst (λ (s : ℕ). LoadedNumber g.J.HasDoing.doing s (known c.args.self.now) c.load-found.result c.load-found.new.seat.me.0) c.slot_place.ensures.slot c.load-found.ensures.2.0 in
    let few = subst (λ (k : Config). k.max_issues ≤ 2 ^ 57) (sym c.requires.seat.1) c.args.words.now.issues in
    finds_word (known c.args.self.now) step.2.0 c.args.slot c.load-found.result step.0 few step.2.1 step.1 step.2.2

pub returns-clause-step : goal.returns-clause-step
returns-clause-step g c =
    let step = subst (λ (s : ℕ). LoadedNumber g.J.HasDoing.doing s (known c.args.self.now) c.load-found.result c.load-found.new.seat.me.0) c.slot_place.ensures.slot c.load-found.ensures.2.0 in
    subst (λ (w : SlotState). LoadedWord g.J.HasDoing.doing c.args.slot (known c.args.self.now) w c.load-found.new.seat.me.0)
    (one_word step.0 c.of_number.result (sym step.1 ∙ sym c.of_number.ensures)) step.2

pub returns-clause-limit : goal.returns-clause-limit
returns-clause-limit g c =
    let step = subst (λ (s : ℕ). LoadedNumber g.J.HasDoing.doing s (known c.args.self.now) c.load-found.result c.load-found.new.seat.me.0) c.slot_place.ensures.slot c.load-found.ensures.2.0 in
    let few = subst (λ (k : Config). k.max_issues ≤ 2 ^ 57) (sym c.requires.seat.1) c.args.words.now.issues in
    finds_limit (known c.args.self.now) step.2.0 c.args.slot c.load-found.result step.0 few step.2.1 step.1 step.2.2 c.of_number.result c.of_number.ensures
