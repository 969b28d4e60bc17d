use Rattle.std.proofs.Common.{ℕ, Bool, ◌≢◌, ◌+◌, ◌==◌, ◌<◌, ◌^◌, ◌∙◌, true, false, if◌then◌else◌, arith, refl, sym, ap, subst, true≢false}
use Rattle.dspec_cpu.specs.Words.{Committing, Config, CpuOp, count_of, in_range, mark, CommitsNow, known, set_up, cpu_of, rests, words_of, act_of, TakesTurn, Speculation}
use Rattle.dspec_cpu.specs.declared.reaching.SlotTurn.{SlotTurn}
use Rattle.dspec_deeds.specs.declared.calls.CpuOp.TheVariants as op
use Rattle.dspec_cpu.specs.declared.reaching.Reach.TheVariants as reach
use Rattle.dspec_cpu.specs.declared.reaching.SlotTurn.TheVariants as turn
use Rattle.dspec_cpu.proofs.{Commits.left, Commits.left_open, Commits.released, Decided.deciding, Decided.five_steps, Decided.reached_here, Decided.undecided, Decisions.commits_now}
use Rattle.dspec_cpu.proofs.{Decisions.fate_tells, Decisions.worn_shown, Discards.thrown, Leaves.worn_leaves, Leaves.reached_leaves, Leaves.released_leaves, Leaves.copied_leaves, Limits.has_room}
use Rattle.dspec_cpu.proofs.{Limits.limits, Marked.marked_is, ReachDeeds.decision_grants_none, Reaches.slot_inside, Ready.roomy, Ready.few_drops, Speculates.own_mark}
use Rattle.dspec_cpu.proofs.parts.CpuParts.decide.Goals as goal

pub returns-then-self-clause-decides : goal.returns-then-self-clause-decides
returns-then-self-clause-decides g c = record {
  alone = false;
  did = rests;
  waits = λ d e. absurd (true≢false (sym d));
  list = λ p had. record
      { own = had.own; shown = worn_shown _ _ _ c.args.self.now p had.shown _ c.wear.new.self c.wear.ensures };
}

pub returns-then-self-clause-leaves : goal.returns-then-self-clause-leaves
returns-then-self-clause-leaves g c = worn_leaves c.args.self.now 5 c.wear.new.self c.if-self.true c.wear.ensures

-- it is such a call at every word
takes : (commits : Bool) (id : Speculation) (fit mine : Bool) (n : ℕ) → TakesTurn (if commits then turn.Commit else turn.Discard) id mine (deciding commits id fit n mine)
takes true id fit mine n = λ w. refl
takes false id fit mine n = λ w. refl

pub go_on_as-reached-requires-clause-turn : goal.go_on_as-reached-requires-clause-turn
go_on_as-reached-requires-clause-turn g c =
    subst (λ (x : SlotTurn × CpuOp). TakesTurn x.0 c.args.id c.has-mine.result
    record { op = x.1; fits = c.measure_slot-fits.result.0; count = c.measure_slot-fits.result.1; mine = c.has-mine.result }) (λ i. (sym c.turn_of-turn.ensures i, sym c.op_of-op.ensures i))
    (takes c.args.commits c.args.id c.measure_slot-fits.result.0 c.has-mine.result c.measure_slot-fits.result.1)

pub go_on_as-reached-requires-clause-mine : goal.go_on_as-reached-requires-clause-mine
go_on_as-reached-requires-clause-mine g c = λ within.
    let cpu = c.args.self.now in
    let ready = c.requires.ready in
    marked_is cpu.config c.args.id _ _ c.has-mine.ensures.tells (sym c.is_inside-inside.ensures ∙ within) cpu.cpu ready.steady.list ready.steady.listed.shown.side.marks
    ∙ (ap (λ m. m == c.args.id.issue + 1) (own_mark cpu.cpu c.args.id.slot (known cpu.seat).own ready.steady.list cpu.config ready.steady.listed.own)
    ∙ ap (λ n. mark n c.args.id.slot (known cpu.seat).own == c.args.id.issue + 1) (sym ready.steady.seat))

pub leave_undecided-requires : goal.leave_undecided-requires
leave_undecided-requires g c =
    let most = (limits c.args.self.now.config c.requires.ready.steady.checked).calls in
    let lt = c.if-self.false in
    record { nothing = refl; calls = omega arith; counts = roomy _ _ _ (words_of c.args.shared.now) c.args.self.now c.requires.ready c.if-self.false }

pub leave_undecided-requires-in-Void : goal.leave_undecided-requires-in-Void
leave_undecided-requires-in-Void g c =
    let most = (limits c.args.self.now.config c.requires.ready.steady.checked).calls in
    let lt = c.if-self.false in
    record { nothing = refl; calls = omega arith; counts = roomy _ _ _ (words_of c.args.shared.now) c.args.self.now c.requires.ready c.if-self.false }

pub returns-in-Stopped : goal.returns-in-Stopped
returns-in-Stopped g c =
    let words = words_of c.args.shared.now in
    let cpu = c.args.self.now in
    let ready = c.requires.ready in
    let id = c.args.id in
    let seat = c.go_on_as-reached.new.seat in
    let side = c.leave_undecided in
    let got = reached_here _ _ _ words cpu ready c.op_of-op.ensures c.in-Stopped.ensures.reached in
    let ended = undecided _ _ _ words cpu ready seat side.new.self c.go_on_as-reached.ensures.seat c.args.commits true got
    (λ p. side.ensures.commits cpu.schema cpu.config cpu.cpu p id) (λ p. side.ensures.discards cpu.schema cpu.config cpu.cpu p id) in
    record {
      ready = ended.ready;
      same = record { schema = refl; config = refl; number = refl; pair = refl };
      leaves = reached_leaves cpu c.if-self.false seat side.new.self _ side.ensures.rest refl refl reach.Stopped 5 got (five_steps c.args.commits id) refl;
      decides = ended.decides;
    }

pub returns-in-Void : goal.returns-in-Void
returns-in-Void g c =
    let words = words_of c.args.shared.now in
    let cpu = c.args.self.now in
    let ready = c.requires.ready in
    let id = c.args.id in
    let seat = c.go_on_as-reached.new.seat in
    let side = c.leave_undecided-in-Void in
    let got = reached_here _ _ _ words cpu ready c.op_of-op.ensures c.in-Void.ensures.reached in
    let ended = undecided _ _ _ words cpu ready seat side.new.self c.go_on_as-reached.ensures.seat c.args.commits false got
    (λ p. side.ensures.commits cpu.schema cpu.config cpu.cpu p id) (λ p. side.ensures.discards cpu.schema cpu.config cpu.cpu p id) in
    record {
      ready = ended.ready;
      same = record { schema = refl; config = refl; number = refl; pair = refl };
      leaves = reached_leaves cpu c.if-self.false seat side.new.self _ side.ensures.rest refl refl reach.Void 5 got (five_steps c.args.commits id) refl;
      decides = ended.decides;
    }

pub decide-requires : goal.decide-requires
decide-requires g c =
    let words = words_of c.args.shared.now in
    let cpu = c.args.self.now in
    let ready = c.requires.ready in
    let few = few_drops _ _ _ words cpu ready c.if-self.false in
    let most = (limits cpu.config ready.steady.checked).calls in
    let lt = c.if-self.false in
    let inside = slot_inside cpu.config c.args.id (ap (λ (k : Config). in_range k c.args.id) (sym ready.config) ∙ (c.in-Done.ensures.reached.present refl).1) in
    let count = ready.steady.listed.shown.side.buffer_count in
    let small : c.measure_slot-fits.result.1 < 2 ^ 32 = omega arith in
    record { slot = (inside.0, omega arith); calls = omega arith; drops = omega arith; room = has_room _ _ (roomy _ _ _ words cpu ready c.if-self.false) small }

pub decide-requires-in-Done : goal.decide-requires-in-Done
decide-requires-in-Done g c =
    let words = words_of c.args.shared.now in
    let cpu = c.args.self.now in
    let ready = c.requires.ready in
    let few = few_drops _ _ _ words cpu ready c.if-self.false in
    let most = (limits cpu.config ready.steady.checked).calls in
    let lt = c.if-self.false in
    let inside = slot_inside cpu.config c.args.id (ap (λ (k : Config). in_range k c.args.id) (sym ready.config) ∙ (c.in-Done.ensures.reached.present refl).1) in
    let count = ready.steady.listed.shown.side.buffer_count in
    let n = c.measure_slot-fits.result.1 in
    let small : n < 2 ^ 32 = omega arith in
    let records : count_of c.committed_as.result < 2 ^ 32 = subst (λ m. m < 2 ^ 32) (sym (ap count_of c.committed_as.ensures ∙ (fate_tells c.measure_slot-fits.result.0 n).2)) small in
    record { slot = (inside.0, omega arith); calls = omega arith; drops = omega arith; room = has_room _ _ (roomy _ _ _ words cpu ready c.if-self.false) records }

pub returns-then-not-commits : goal.returns-then-not-commits
returns-then-not-commits g c =
    let words = words_of c.args.shared.now in
    let cpu = c.args.self.now in
    let ready = c.requires.ready in
    let seat = c.go_on_as-reached.new.seat in
    let side = c.decide in
    let got = reached_here _ _ _ words cpu ready (c.op_of-op.ensures ∙ ap (λ b. if b then op.Commit c.args.id else op.Discard c.args.id) c.if-not-commits.true) c.in-Done.ensures.reached in
    let within = c.is_inside-inside.ensures ∙ (got.present refl).1 in
    let ended = thrown _ _ _ words cpu ready seat got c.go_on_as-reached.ensures.seat c.in-Done.ensures.release
    (λ p shown. marked_is cpu.config c.args.id _ _ c.has-mine.ensures.tells (got.present refl).1 cpu.cpu p shown.side.marks)
    (c.measure_slot-fits.ensures.count within) side.new.self (side.ensures.discards cpu.schema cpu.config cpu.cpu) c.args.commits c.if-not-commits.true in
    record {
      ready = ended.ready;
      same = record { schema = refl; config = refl; number = refl; pair = refl };
      leaves = reached_leaves cpu c.if-self.false seat side.new.self _ side.ensures.rest refl refl (reach.Done c.in-Done.to) 5 got refl refl;
      decides = ended.decides;
    }

pub release_word-requires-clause-call : goal.release_word-requires-clause-call
release_word-requires-clause-call g c =
    let words = words_of c.args.shared.now in
    let cpu = c.args.self.now in
    let ready = c.requires.ready in
    let id = c.args.id in
    let seat = c.go_on_as-reached.new.seat in
    let to = c.in-Done.to in
    let op_is = c.op_of-op.ensures ∙ ap (λ b. if b then op.Commit id else op.Discard id) c.if-not-commits.false in
    let got = reached_here _ _ _ words cpu ready op_is c.in-Done.ensures.reached in
    subst (λ (o : CpuOp). CommitsNow (set_up words) (known seat) (cpu_of seat) c.slot.result o) (sym op_is)
    (commits_now (set_up words) (cpu_of seat) c.slot.result id (known seat) to c.slot.ensures.value
    (left _ _ _ words cpu ready seat c.args.commits c.if-not-commits.false got) (sym c.code.ensures ∙ c.in-Committing.is) c.in-Done.ensures.release)

pub returns-in_default : goal.returns-in_default
returns-in_default g c =
    let words = words_of c.args.shared.now in
    let cpu = c.args.self.now in
    let ready = c.requires.ready in
    let seat = c.go_on_as-reached.new.seat in
    let to = c.in-Done.to in
    let side = c.decide-in-Done in
    let answer = c.answer_of-answer in
    let got = reached_here _ _ _ words cpu ready (c.op_of-op.ensures ∙ ap (λ b. if b then op.Commit c.args.id else op.Discard c.args.id) c.if-not-commits.false) c.in-Done.ensures.reached in
    let within = c.is_inside-inside.ensures ∙ (got.present refl).1 in
    let several : to.code ≢ Committing = λ e. absurd (c.in_default.not-Committing (c.code.ensures ∙ e)) in
    let ended = left_open _ _ _ words cpu ready seat c.args.commits c.if-not-commits.false got c.go_on_as-reached.ensures.seat side.new.self
    answer.result answer.ensures (λ p shown. marked_is cpu.config c.args.id _ _ c.has-mine.ensures.tells (got.present refl).1 cpu.cpu p shown.side.marks)
    (c.measure_slot-fits.ensures.fits within) (c.measure_slot-fits.ensures.count within)
    c.committed_as.result c.committed_as.ensures (side.ensures.commits cpu.schema cpu.config cpu.cpu) c.in-Done.ensures.release several in
    record {
      ready = ended.ready;
      same = record { schema = refl; config = refl; number = refl; pair = refl };
      leaves = copied_leaves answer.result c.measure_slot-fits.result.0 c.measure_slot-fits.result.1 5 cpu _ answer.ensures
          (reached_leaves cpu c.if-self.false seat side.new.self _ side.ensures.rest refl refl (reach.Done to) 5 got refl refl);
      decides = ended.decides;
    }

pub returns-in-Committing : goal.returns-in-Committing
returns-in-Committing g c =
    let words = words_of c.args.shared.now in
    let cpu = c.args.self.now in
    let ready = c.requires.ready in
    let seat = c.go_on_as-reached.new.seat in
    let side = c.decide-in-Done in
    let answer = c.answer_of-answer in
    let got = reached_here _ _ _ words cpu ready (c.op_of-op.ensures ∙ ap (λ b. if b then op.Commit c.args.id else op.Discard c.args.id) c.if-not-commits.false) c.in-Done.ensures.reached in
    let within = c.is_inside-inside.ensures ∙ (got.present refl).1 in
    let ended = released _ _ _ words cpu ready seat c.args.commits c.if-not-commits.false got c.go_on_as-reached.ensures.seat side.new.self
    answer.result answer.ensures (λ p shown. marked_is cpu.config c.args.id _ _ c.has-mine.ensures.tells (got.present refl).1 cpu.cpu p shown.side.marks)
    (c.measure_slot-fits.ensures.fits within) (c.measure_slot-fits.ensures.count within)
    c.committed_as.result c.committed_as.ensures (side.ensures.commits cpu.schema cpu.config cpu.cpu) c.release_word.new.self c.slot.result c.slot.ensures.value
    c.release_word.ensures.step c.release_word.ensures.seat in
    record {
      ready = ended.ready;
      same = record { schema = refl; config = refl; number = refl; pair = refl };
      leaves = copied_leaves answer.result c.measure_slot-fits.result.0 c.measure_slot-fits.result.1 5 cpu _ answer.ensures
          (released_leaves cpu c.if-self.false c.release_word.new.self side.new.self _ side.ensures.rest refl refl c.in-Done.to (known seat) c.slot.result 5 got
          (sym c.code.ensures ∙ c.in-Committing.is) c.release_word.ensures.step refl refl c.slot.ensures.value);
      decides = ended.decides;
    }

pub unreachable-requires : goal.unreachable-requires
unreachable-requires g c =
    let acts = c.in-Granted.ensures.reached.acts refl in
    decision_grants_none c.args.commits c.args.id acts.0 c.has-mine.result (ap (λ (o : CpuOp). act_of o acts.0 c.has-mine.result) (sym c.op_of-op.ensures) ∙ acts.1)
