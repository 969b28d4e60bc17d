use Rattle.std.proofs.Common.{ℕ, ◌≡◌, ◌==◌, true, ◌≤◌, ◌^◌, sym, ap, subst, ◌∙◌}
use Rattle.dspec_table.specs.Words.{word_number, OpenedNumber, known, as_active, Config}
use Rattle.dspec_table.proofs.{Answered.left_word, Grows.shown_greater, Limits.finds_word, Limits.finds_limit, Opens.opens_word, Places.slot_within, Places.slot_there}
use Rattle.dspec_word.proofs.Numbers.{one_word}
use Rattle.dspec_table.proofs.seats.CpuSeat.open_word.Goals as goal

pub compare_exchange-found-requires : goal.compare_exchange-found-requires
compare_exchange-found-requires c =
    let words = c.args.words.now in
    let seat = c.args.self.now in
    let from = c.args.from in
    let to = c.raw-new.ensures ∙ ap word_number (c.of.ensures ∙ ap (λ (i : ℕ). as_active record { issue = i; code = from.code }) c.issue.ensures.value) in (
      c.requires.seat.0,
      rw (c.slot_place.ensures.place, words.words_is) (slot_within words.config c.args.slot c.requires.slot.1),
      rw (c.slot_place.ensures.place, slot_there c.args.slot, c.raw-old.ensures, to) (opens_word words.board.shared.key words.board.shared.table_id.slots seat.seat.id seat.cpu
          c.args.slot seat.seat.me from (as_active from) c.requires.slot.0 (rw words.key_is c.requires.slot.1) seat.who_is seat.joins_none (rw words.key_is c.requires.call)),
    )

pub of_number-requires : goal.of_number-requires
of_number-requires c =
    let step = (subst (λ (s : ℕ). OpenedNumber s (known c.args.self.now) c.raw-new.result c.compare_exchange-found.result
    (c.compare_exchange-found.result == c.raw-old.result) c.compare_exchange-found.new.seat.me.0) c.slot_place.ensures.slot c.compare_exchange-found.ensures.2.0) in
    let few = subst (λ (k : Config). k.max_issues ≤ 2 ^ 57) (sym c.requires.seat.1) c.args.words.now.issues in
    finds_word (known c.args.self.now) step.2.0 c.args.slot c.compare_exchange-found.result step.0 few step.2.1 step.1 step.2.2

pub returns-else-found-old-clause-greater : goal.returns-else-found-old-clause-greater
returns-else-found-old-clause-greater c =
    let step = (subst (λ (s : ℕ). OpenedNumber s (known c.args.self.now) c.raw-new.result c.compare_exchange-found.result
    (c.compare_exchange-found.result == c.raw-old.result) c.compare_exchange-found.new.seat.me.0) c.slot_place.ensures.slot c.compare_exchange-found.ensures.2.0) in
    let got = c.of_number.result in
    let same = one_word got step.0 (c.of_number.ensures ∙ step.1) in
    shown_greater (known c.args.self.now) step.2.0 c.args.slot c.args.from got c.requires.call.1 step.2.1 (same ∙ step.2.2)
    (λ e. c.if-found-old.false (sym c.of_number.ensures ∙ (ap word_number e ∙ sym c.raw-old.ensures)))

pub returns-then-found-old-clause-word : goal.returns-then-found-old-clause-word
returns-then-found-old-clause-word c =
    let to = c.raw-new.ensures ∙ ap word_number (c.of.ensures ∙ ap (λ (i : ℕ). as_active record { issue = i; code = c.args.from.code }) c.issue.ensures.value) in
    left_word c.compare_exchange-found.result c.args.from (as_active c.args.from) _ (c.if-found-old.true ∙ c.raw-old.ensures)
    (λ hit. sym to ∙ (subst (λ (s : ℕ). OpenedNumber s (known c.args.self.now) c.raw-new.result c.compare_exchange-found.result
    (c.compare_exchange-found.result == c.raw-old.result) c.compare_exchange-found.new.seat.me.0) c.slot_place.ensures.slot c.compare_exchange-found.ensures.2.0).3
    (subst (λ (m : ℕ). (c.compare_exchange-found.result == m) ≡ true) (sym c.raw-old.ensures) hit))

pub returns-else-found-old-clause-limit : goal.returns-else-found-old-clause-limit
returns-else-found-old-clause-limit c =
    let step = (subst (λ (s : ℕ). OpenedNumber s (known c.args.self.now) c.raw-new.result c.compare_exchange-found.result
    (c.compare_exchange-found.result == c.raw-old.result) c.compare_exchange-found.new.seat.me.0) c.slot_place.ensures.slot c.compare_exchange-found.ensures.2.0) in
    let few = subst (λ (k : Config). k.max_issues ≤ 2 ^ 57) (sym c.requires.seat.1) c.args.words.now.issues in
    finds_limit (known c.args.self.now) step.2.0 c.args.slot c.compare_exchange-found.result step.0 few step.2.1 step.1 step.2.2 c.of_number.result c.of_number.ensures
