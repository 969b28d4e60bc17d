use Rattle.std.proofs.Common.{ℕ, ◌≡◌, true, ◌≤◌, ◌^◌, subst, sym, refl, ◌∙◌}
use Rattle.dspec_table.specs.Words.{SlotState, Holder, same_holder, LookedWord, LookedNumber, known_there, Config}
use Rattle.dspec_table.proofs.{Limits.finds_word, Limits.finds_limit, Looking.looks_word, Places.slot_within, Places.slot_there}
use Rattle.dspec_word.proofs.Numbers.{one_word}
use Rattle.dspec_table.proofs.seats.ConsumerSeat.load_word.Goals as goal

pub load-found-requires : goal.load-found-requires
load-found-requires c =
    let words = c.args.words.now in
    let seat = c.args.self.now in (
      c.requires.seat.0,
      rw (c.slot_place.ensures.place, words.words_is) (slot_within words.config c.args.slot c.requires.slot.1),
      rw (c.slot_place.ensures.place, slot_there c.args.slot) (looks_word words.board.shared.key words.board.shared.table_id.slots seat.seat.id seat.seat.me
          (subst (λ (x : Holder). same_holder x x ≡ true) (sym seat.who_is) refl) seat.joins_none c.args.slot c.requires.slot.0 (rw words.key_is c.requires.slot.1)),
    )

pub of_number-requires : goal.of_number-requires
of_number-requires c =
    let step = subst (λ (s : ℕ). LookedNumber s (known_there c.args.self.now) c.load-found.result c.load-found.new.seat.me.0) c.slot_place.ensures.slot c.load-found.ensures.2.0 in
    let few = subst (λ (k : Config). k.max_issues ≤ 2 ^ 57) (sym c.requires.seat.1) c.args.words.now.issues in
    finds_word (known_there c.args.self.now) step.2.0 c.args.slot c.load-found.result step.0 few step.2.1 step.1 step.2.2

pub returns-clause-step : goal.returns-clause-step
returns-clause-step c =
    let step = subst (λ (s : ℕ). LookedNumber s (known_there c.args.self.now) c.load-found.result c.load-found.new.seat.me.0) c.slot_place.ensures.slot c.load-found.ensures.2.0 in
    subst (λ (w : SlotState). LookedWord c.args.slot (known_there c.args.self.now) w c.load-found.new.seat.me.0)
    (one_word step.0 c.of_number.result (sym step.1 ∙ sym c.of_number.ensures)) step.2

pub returns-clause-limit : goal.returns-clause-limit
returns-clause-limit c =
    let step = subst (λ (s : ℕ). LookedNumber s (known_there c.args.self.now) c.load-found.result c.load-found.new.seat.me.0) c.slot_place.ensures.slot c.load-found.ensures.2.0 in
    let few = subst (λ (k : Config). k.max_issues ≤ 2 ^ 57) (sym c.requires.seat.1) c.args.words.now.issues in
    finds_limit (known_there c.args.self.now) step.2.0 c.args.slot c.load-found.result step.0 few step.2.1 step.1 step.2.2 c.of_number.result c.of_number.ensures
