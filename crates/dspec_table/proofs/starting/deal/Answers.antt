use Rattle.std.proofs.Common.{◌≡◌, ◌+◌, ◌<◌, ◌∙◌, [], length, length-append, ap, sym, subst, arith}
use Rattle.dspec_table.specs.{Words.dealing, Words.fresh_seat, Words.DealtSeats, Words.dealt, Words.without, declared.rule.View.View}
use Rattle.dspec_table.proofs.Dealing.{dealt_one, dealt_rest, deals_next, dealt_push}
use Rattle.dspec_table.proofs.starting.deal.Goals as goal

pub split_seat-seat-requires : goal.split_seat-seat-requires
split_seat-seat-requires c =
    let at = c.loop-cpu.invariant.dealer in
    let k = c.args.config.now in (
      at.0 ∙ c.requires.dealer.0,
      (let count = c.requires.key.1 in omega arith),
      deals_next c.args.board.now.shared.key k c.loop-cpu.dealer.id c.loop-cpu.cpu
          c.loop-cpu.dealer.me.0 (ap (λ m. m.0) at.1) c.loop-cpu-test.true,
    )

pub invariant_of-push : goal.invariant_of-push
invariant_of-push c =
    let at = c.loop-cpu.invariant.dealer in
    let k = c.args.config.now in
    let new : c.split_seat-seat.result.me ≡ (fresh_seat k c.loop-cpu.cpu, []) =
    c.split_seat-seat.ensures.4 ∙ ap (λ v. (v, [])) (ap (λ m. dealt m.0) at.1 ∙ dealt_one k c.loop-cpu.cpu c.loop-cpu-test.true) in
    record {
      bare = ap (λ m. m.1) new;
      who_is = ap (λ m. m.0.who) new;
      is_one = subst (λ (v : View). c.loop-cpu.cpu < v.config.cpus) (sym (ap (λ m. m.0) new)) c.loop-cpu-test.true;
      joins_none = ap (λ m. m.0.also) new;
      told_none = ap (λ m. m.0.told) new;
    }

pub loop-cpu-preserved : goal.loop-cpu-preserved
loop-cpu-preserved c =
    let at = c.loop-cpu.invariant.dealer in
    let k = c.args.config.now in
    let new : c.split_seat-seat.result.me ≡ (fresh_seat k c.loop-cpu.cpu, []) =
    c.split_seat-seat.ensures.4 ∙ ap (λ v. (v, [])) (ap (λ m. dealt m.0) at.1 ∙ dealt_one k c.loop-cpu.cpu c.loop-cpu-test.true) in
    let z = c.args.dealer.now.table_id in
    let step = c.split_seat-seat.ensures in
    let rest : c.split_seat-seat.new.seat.me ≡ (dealing k (c.loop-cpu.cpu + 1), []) =
    step.2 ∙ (ap (λ m. (without m.0, m.1)) at.1 ∙ ap (λ v. (v, [])) (dealt_rest k c.loop-cpu.cpu c.loop-cpu-test.true)) in
    let count = c.loop-cpu.invariant.count in
    record {
      dealer = (step.0 ∙ at.0, rest);
      count = ap length c.in_ok-push.ensures.items ∙ (length-append c.loop-cpu.seats.items _ ∙ ap (λ n. n + 1) count);
      dealt = subst (DealtSeats z k) (sym c.in_ok-push.ensures.items)
          (dealt_push z k c.loop-cpu.seats.items _ c.loop-cpu.invariant.dealt (step.3 ∙ at.0) (sym count) (ap (λ m. m.0) new ∙ ap (λ m. fresh_seat k m) (sym count)));
    }
