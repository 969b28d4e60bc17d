use Rattle.std.proofs.Common.{ℕ, ◌==◌, ◌≤◌, ◌^◌, ◌≡◌, true, ap, sym, subst, ◌∙◌, arith}
use Rattle.dspec_table.specs.Words.{awaits, SlotState, ReapedNumber, word_number, released, known_there, Config}
use Rattle.dspec_table.proofs.{Answered.reaped_hit, Limits.finds_word, Places.slot_within, Places.slot_there, Reaping.reaps, Reaping.awaited_below, Waiting.reaped_found}
use Rattle.dspec_table.proofs.seats.ConsumerSeat.reap_word.Goals as goal

pub compare_exchange-found-requires : goal.compare_exchange-found-requires
compare_exchange-found-requires c =
    let words = c.args.words.now in
    let seat = c.args.self.now in
    let to = c.raw-new.ensures ∙ ap word_number (c.of.ensures ∙ ap released c.issue.ensures.value) in (
      c.requires.seat.0,
      rw (c.slot_place.ensures.place, words.words_is) (slot_within words.config c.args.slot c.requires.call.high),
      rw (c.slot_place.ensures.place, slot_there c.args.slot, c.raw-old.ensures, to) (reaps words.board.shared.key words.board.shared.table_id.slots seat.seat.id c.args.slot
          seat.seat.me c.args.from seat.who_is seat.joins_none (rw words.key_is c.requires.call)),
    )

pub of_number-requires : goal.of_number-requires
of_number-requires c =
    let step = (subst (λ (s : ℕ). ReapedNumber s (known_there c.args.self.now) c.compare_exchange-found.result
    (c.compare_exchange-found.result == c.raw-old.result) c.compare_exchange-found.new.seat.me.0) c.slot_place.ensures.slot c.compare_exchange-found.ensures.2.0) in
    let few = subst (λ (k : Config). k.max_issues ≤ 2 ^ 57) (sym c.requires.seat.1) c.args.words.now.issues in
    finds_word (known_there c.args.self.now) step.2.0 c.args.slot c.compare_exchange-found.result step.0 few step.2.1 step.1 step.2.2

pub of-requires : goal.of-requires
of-requires c =
    let less = awaited_below c.args.from c.requires.limit c.requires.call.waits in
    let same = c.issue.ensures.value in
    omega arith

pub returns-then-found-old-clause-step : goal.returns-then-found-old-clause-step
returns-then-found-old-clause-step c = reaped_hit c.args.slot (known_there c.args.self.now) c.compare_exchange-found.new.seat.me.0 c.compare_exchange-found.result
    c.raw-old.result c.args.from c.if-found-old.true c.raw-old.ensures (subst (λ (s : ℕ). ReapedNumber s (known_there c.args.self.now) c.compare_exchange-found.result
    (c.compare_exchange-found.result == c.raw-old.result) c.compare_exchange-found.new.seat.me.0) c.slot_place.ensures.slot c.compare_exchange-found.ensures.2.0)

pub returns-clause-always : goal.returns-clause-always
returns-clause-always c =
    let seat = c.args.self.now in
    let waits = subst (λ (w : SlotState). awaits w.code ≡ true) c.requires.last c.requires.call.waits in
    let here = reaped_found seat.seat.me.0 c.compare_exchange-found.new.seat.me.0 c.args.slot c.compare_exchange-found.result _ seat.who_is waits
    (subst (λ (s : ℕ). ReapedNumber s (known_there c.args.self.now) c.compare_exchange-found.result
    (c.compare_exchange-found.result == c.raw-old.result) c.compare_exchange-found.new.seat.me.0) c.slot_place.ensures.slot c.compare_exchange-found.ensures.2.0) in
    absurd (c.if-found-old.false (here ∙ sym (c.raw-old.ensures ∙ ap word_number c.requires.last)))
