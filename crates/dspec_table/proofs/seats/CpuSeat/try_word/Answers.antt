use Rattle.std.proofs.Common.{ℕ, ◌≡◌, ◌==◌, ◌≤◌, ◌^◌, refl, sym, ap, subst, ◌∙◌}
use Rattle.dspec_table.specs.{Words.word_number, Words.known, Words.TriedNumber, Words.Config, declared.doing.Doing.Doing, declared.rule.View.View}
use Rattle.dspec_word.proofs.Numbers.{one_word}
use Rattle.dspec_table.proofs.{Answered.tried_hit, Answered.tried_miss, Answered.left_word, Commits.releases_next, Grows.shown_greater, Limits.finds_word, Limits.finds_limit, Places.slot_within}
use Rattle.dspec_table.proofs.{Places.slot_there, Tries.tries_word}
use Rattle.dspec_table.proofs.seats.CpuSeat.try_word.Goals as goal

pub compare_exchange-found-requires : goal.compare_exchange-found-requires
compare_exchange-found-requires g c =
    let words = c.args.words.now in
    let seat = c.args.self.now in
    let from = c.args.from in (
      c.requires.seat.0,
      rw (c.slot_place.ensures.place, words.words_is) (slot_within words.config c.args.slot c.requires.slot.1),
      rw (c.slot_place.ensures.place, slot_there c.args.slot, c.raw.ensures, c.raw-2.ensures) (tries_word words.board.shared.key words.board.shared.table_id.slots seat.seat.id
          seat.cpu c.args.slot seat.seat.me g.J.HasDoing.doing from c.args.to c.requires.slot.0 (rw words.key_is c.requires.slot.1) seat.who_is seat.joins_none
          (rw words.key_is c.requires.call)),
    )

-- the step, by the words that were given
stepped : (doing : Doing) (v : View) (n : ℕ) (w : View) {s slot m to f from : ℕ} → s ≡ slot → m ≡ to → f ≡ from → TriedNumber doing s v m n (n == f) w
    → TriedNumber doing slot v to n (n == from) w
stepped doing v n w a b c t = subst (λ (x : ℕ × ℕ × ℕ). TriedNumber doing x.0 v x.1 n (n == x.2) w) (λ i. (a i, b i, c i)) t

pub of_number-requires : goal.of_number-requires
of_number-requires g c =
    let step = stepped g.J.HasDoing.doing (known c.args.self.now) c.compare_exchange-found.result c.compare_exchange-found.new.seat.me.0
    c.slot_place.ensures.slot c.raw-2.ensures c.raw.ensures c.compare_exchange-found.ensures.2.0 in
    let few = subst (λ (k : Config). k.max_issues ≤ 2 ^ 57) (sym c.requires.seat.1) c.args.words.now.issues in
    finds_word (known c.args.self.now) step.2.0 c.args.slot c.compare_exchange-found.result step.0 few step.2.1 step.1 step.2.2

pub returns-then-found-raw-clause-tried : goal.returns-then-found-raw-clause-tried
returns-then-found-raw-clause-tried g c =
    let step = stepped g.J.HasDoing.doing (known c.args.self.now) c.compare_exchange-found.result c.compare_exchange-found.new.seat.me.0
    c.slot_place.ensures.slot c.raw-2.ensures c.raw.ensures c.compare_exchange-found.ensures.2.0 in
    let hit = c.if-found-raw.true ∙ c.raw-3.ensures in
    record {
      seat = ((c.compare_exchange-found.ensures.0 ∙ c.requires.seat.0, ap (λ (x : View). x.config) step.2.3.view ∙ c.requires.seat.1), refl);
      step = tried_hit g.J.HasDoing.doing c.args.slot (known c.args.self.now) c.compare_exchange-found.new.seat.me.0 (word_number c.args.to) c.compare_exchange-found.result c.args.from hit step;
      word = left_word c.compare_exchange-found.result c.args.from c.args.to _ hit step.3;
      greater = tt;
      limit = tt;
    }

pub returns-then-found-raw-clause-release : goal.returns-then-found-raw-clause-release
returns-then-found-raw-clause-release g c =
    let seat = c.args.self.now in
    let new = c.compare_exchange-found.new.seat.me.0 in
    let step = stepped g.J.HasDoing.doing (known c.args.self.now) c.compare_exchange-found.result c.compare_exchange-found.new.seat.me.0
    c.slot_place.ensures.slot c.raw-2.ensures c.raw.ensures c.compare_exchange-found.ensures.2.0 in
    let hit = c.if-found-raw.true ∙ c.raw-3.ensures in
    let found = tried_hit g.J.HasDoing.doing c.args.slot (known seat) new (word_number c.args.to) c.compare_exchange-found.result c.args.from hit step in
    releases_next c.args.words.now.config seat.cpu c.args.slot (known seat) new g.J.HasDoing.doing c.args.from c.args.to found.0
    seat.who_is c.requires.seat.1 (left_word c.compare_exchange-found.result c.args.from c.args.to _ hit step.3)
    g.J.HasDoing.doing.op found.3 c.requires.call.0 c.requires.call.1

pub returns-clause-tried : goal.returns-clause-tried
returns-clause-tried g c =
    let step = stepped g.J.HasDoing.doing (known c.args.self.now) c.compare_exchange-found.result c.compare_exchange-found.new.seat.me.0
    c.slot_place.ensures.slot c.raw-2.ensures c.raw.ensures c.compare_exchange-found.ensures.2.0 in
    let few = subst (λ (k : Config). k.max_issues ≤ 2 ^ 57) (sym c.requires.seat.1) c.args.words.now.issues in
    let got = c.of_number.result in
    let same = one_word got step.0 (c.of_number.ensures ∙ step.1) in
    record {
      seat = ((c.compare_exchange-found.ensures.0 ∙ c.requires.seat.0, ap (λ (x : View). x.config) step.2.3.view ∙ c.requires.seat.1), refl);
      step = tried_miss g.J.HasDoing.doing c.args.slot (known c.args.self.now) c.compare_exchange-found.new.seat.me.0 (word_number c.args.to) c.compare_exchange-found.result c.args.from got
          (λ e. c.if-found-raw.false (e ∙ sym c.raw-3.ensures)) c.of_number.ensures step;
      word = tt;
      greater = shown_greater (known c.args.self.now) step.2.0 c.args.slot c.args.from got c.requires.call.2 step.2.1 (same ∙ step.2.2)
          (λ e. c.if-found-raw.false (sym c.of_number.ensures ∙ (ap word_number e ∙ sym c.raw-3.ensures)));
      limit = finds_limit (known c.args.self.now) step.2.0 c.args.slot c.compare_exchange-found.result step.0 few step.2.1 step.1 step.2.2 got c.of_number.ensures;
    }
