use Rattle.std.proofs.Common.{rules, ◌≡◌, ◌==◌, ◌+◌, arith, length, [], ◌∷◌, map, length-append, None, option_map, drop, suc}
use Rattle.std.proofs.lemmas.{Iterator.Consumers.YieldsList-at, Iterator.Consumers.YieldsList-so_far, Iterator.Consumers.YieldsList-turn, Iterator.Consumers.YieldsList-end}
use Rattle.std.proofs.lemmas.{Iterator.Splits.YieldsList-from_slice_split, List.map-append, List.length-map, Result.err_from_is_err_and}
use Rattle.std.specs.List.{slice_split}
use Rattle.dspec_schedule.specs.Words.{plan_of}
use Rattle.dspec_schedule.proofs.{EndLemmas.after-more, EndLemmas.cut_at, LineLemmas.lines_read-more, LineLemmas.schedule_of-fault, LineLemmas.schedule_of-end}
use Rattle.dspec_schedule.proofs.schedule.read_schedule.Goals as goal

pub loop-bytes-preserved : goal.loop-bytes-preserved
loop-bytes-preserved c =
    let so_far = map (λ bytes. bytes.now) c.loop-bytes.yielded in
    let count : c.loop-bytes.line ≡ length so_far = omega (arith, c.loop-bytes.invariant.2, length-map c.loop-bytes.yielded (λ bytes. bytes.now)) in (
      search rules,
      search rules,
      omega (arith, c.loop-bytes.invariant.2, length-append c.loop-bytes.yielded (c.in-Some.bytes ∷ [])),
      rw map-append (lines_read-more so_far c.in-Some.bytes.now None (option_map plan_of c.loop-bytes.schedule) (option_map plan_of c.in_ok-schedule.schedule)
          1 (c.loop-bytes.line + 1) (omega arith) c.loop-bytes.invariant.3 c.in_ok-schedule.ensures.read),
      rw map-append (after-more so_far c.in-Some.bytes.now c.is_empty-is_open.result (c.loop-bytes.line + 1) (search rules) (search rules) (omega arith)),
      c.in_ok-schedule.ensures.one_header,
    )

pub returns-in_err-schedule-clause-refused : goal.returns-in_err-schedule-clause-refused
returns-in_err-schedule-clause-refused c =
    let so_far = map (λ bytes. bytes.now) c.loop-bytes.yielded in
    let count : c.loop-bytes.line ≡ length so_far = omega (arith, c.loop-bytes.invariant.2, length-map c.loop-bytes.yielded (λ bytes. bytes.now)) in
    let pieces = slice_split (λ byte. byte == 10) c.args.text.now in
    let road = YieldsList-at c.into_iter-bytes-iterator.ensures.into_iter_gives (YieldsList-from_slice_split _ (λ byte. byte == 10) c.args.text.now
    c.split-bytes-items.ensures.rest c.split-bytes-items.ensures.done c.split-bytes-items.ensures.closure (λ x b q k. grind (arith, k))) in
    let front = YieldsList-so_far road c.loop-bytes.yielded c.loop-bytes.bytes-iterator c.loop-bytes.yielded_by in
    let turn = YieldsList-turn road c.loop-bytes.yielded c.loop-bytes.bytes-iterator c.loop-bytes.yielded_by c.next.result c.next.new.self c.in-Some.bytes c.in-Some.is c.next.ensures.steps in
    let p = err_from_is_err_and c.from_residual.result c.from_residual.ensures.1 in
    rw (p.1, p.2) (schedule_of-fault c.args.text.now so_far c.in-Some.bytes.now (drop (suc (length c.loop-bytes.yielded)) pieces) (option_map plan_of c.loop-bytes.schedule) (c.loop-bytes.line + 1) _
    (cut_at pieces so_far c.in-Some.bytes.now (length c.loop-bytes.yielded) front turn.0 turn.1) c.loop-bytes.invariant.3 (omega arith) c.in_err-schedule.ensures.refused)

pub returns-clause-read : goal.returns-clause-read
returns-clause-read c =
    let so_far = map (λ bytes. bytes.now) c.loop-bytes.yielded in
    let road = YieldsList-at c.into_iter-bytes-iterator.ensures.into_iter_gives (YieldsList-from_slice_split _ (λ byte. byte == 10) c.args.text.now
    c.split-bytes-items.ensures.rest c.split-bytes-items.ensures.done c.split-bytes-items.ensures.closure (λ x b q k. grind (arith, k))) in
    let whole = YieldsList-end road c.loop-bytes.yielded c.loop-bytes.bytes-iterator c.loop-bytes.yielded_by c.next.result c.next.new.self c.in-None.is c.next.ensures.steps in
    (schedule_of-end c.args.text.now so_far c.loop-bytes.schedule _ c.ok_or.result c.ok_or.ensures.value whole.0 c.loop-bytes.invariant.3 (search rules)).0

pub returns-clause-refused : goal.returns-clause-refused
returns-clause-refused c =
    let so_far = map (λ bytes. bytes.now) c.loop-bytes.yielded in
    let road = YieldsList-at c.into_iter-bytes-iterator.ensures.into_iter_gives (YieldsList-from_slice_split _ (λ byte. byte == 10) c.args.text.now
    c.split-bytes-items.ensures.rest c.split-bytes-items.ensures.done c.split-bytes-items.ensures.closure (λ x b q k. grind (arith, k))) in
    let whole = YieldsList-end road c.loop-bytes.yielded c.loop-bytes.bytes-iterator c.loop-bytes.yielded_by c.next.result c.next.new.self c.in-None.is c.next.ensures.steps in
    (schedule_of-end c.args.text.now so_far c.loop-bytes.schedule _ c.ok_or.result c.ok_or.ensures.value whole.0 c.loop-bytes.invariant.3 (search rules)).1
