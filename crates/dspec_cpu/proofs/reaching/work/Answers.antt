use Rattle.std.proofs.Common.{◌≡◌, ◌∙◌, ℕ, true, false, sym, ap, subst, arith}
use Rattle.dspec_cpu.specs.Words.{MayTry, known, set_up, cpu_of, Shown, act_by}
use Rattle.dspec_cpu.proofs.Retries.{loaded, loaded_steps, may_try, tried, fewer_left, hit_steps, loads, step_made, no_attempt, no_release, none_owned}
use Rattle.dspec_cpu.proofs.reaching.work.Goals.{in-Speculate, in-Commit, in-Discard}
use Rattle.dspec_cpu.proofs.reaching.work.Goals as goal

pub load_word-word-requires : goal.load_word-word-requires
load_word-word-requires g c = record {
  seat = c.requires.seat;
  slot = c.requires.slot;
  call = loads (set_up c.args.words.now) (known c.args.seat.now)
      (cpu_of c.args.seat.now) c.args.slot g.J.HasDoing.doing c.args.id c.requires.on c.requires.call;
}

pub loop-act-init : goal.loop-act-init
loop-act-init g c =
    let seat = c.args.seat.now in
    let doing = g.J.HasDoing.doing in
    record {
      seat = c.load_word-word.ensures.seat;
      shown = loaded c.requires.seat.1 seat.who_is c.load_word-word.result
          (known c.load_word-word.new.self) c.requires.on c.requires.call c.load_word-word.ensures.step;
      bounded = loaded_steps doing c.args.id c.args.slot (known seat) c.load_word-word.result
          (known c.load_word-word.new.self) c.load_word-word.ensures.step;
      limit = c.load_word-word.ensures.limit;
    }

pub speculate_at-act-requires : goal.speculate_at-act-requires
speculate_at-act-requires g c = c.loop-act.invariant.limit

pub commit_at-act-requires : goal.commit_at-act-requires
commit_at-act-requires g c = c.loop-act.invariant.limit

pub discard_at-act-requires : goal.discard_at-act-requires
discard_at-act-requires g c = c.loop-act.invariant.limit

pub returns-in_default : goal.returns-in_default
returns-in_default g c =
    let acted : c.match-turn.act ≡ act_by c.args.turn c.args.id c.loop-act.word c.args.mine = elim c.match-turn.branch [
      | in-Speculate w ↦ w.act-is ∙ (w.speculate_at-act.ensures ∙ ap (λ t. act_by t c.args.id c.loop-act.word c.args.mine) (sym w.in-Speculate.is))
      | in-Commit w ↦ w.act-is ∙ (w.commit_at-act.ensures ∙ ap (λ t. act_by t c.args.id c.loop-act.word c.args.mine) (sym w.in-Commit.is))
      | in-Discard w ↦ w.act-is ∙ (w.discard_at-act.ensures ∙ ap (λ t. act_by t c.args.id c.loop-act.word c.args.mine) (sym w.in-Discard.is))
    ] in
    let words = c.args.words.now in
    let seat = c.args.seat.now in
    let doing = g.J.HasDoing.doing in
    record {
      seat = c.loop-act.invariant.seat;
      ended = record {
        word = c.loop-act.word;
        acts = c.requires.turn c.loop-act.word ∙ sym acted;
        last = subst (λ b. Shown (set_up words) (cpu_of seat) doing c.args.id c.args.slot (known seat) c.loop-act.word b (known c.loop-act.seat))
            (sym (no_attempt c.match-turn.act c.in_default.not-Attempt)) c.loop-act.invariant.shown;
        bounded = let none = no_release c.match-turn.act c.in_default.not-Attempt in let le = c.loop-act.invariant.bounded in omega arith;
      };
      release = none_owned (set_up words) (cpu_of c.loop-act.seat) c.args.slot (known c.loop-act.seat) c.match-turn.act c.in_default.not-Attempt;
    }

pub try_word-requires-clause-seat : goal.try_word-requires-clause-seat
try_word-requires-clause-seat g c = c.loop-act.invariant.seat.0

pub try_word-requires-clause-call : goal.try_word-requires-clause-call
try_word-requires-clause-call g c =
    let words = c.args.words.now in
    let seat = c.args.seat.now in
    let doing = g.J.HasDoing.doing in
    let acted : c.match-turn.act ≡ act_by c.args.turn c.args.id c.loop-act.word c.args.mine = elim c.match-turn.branch [
      | in-Speculate w ↦ w.act-is ∙ (w.speculate_at-act.ensures ∙ ap (λ t. act_by t c.args.id c.loop-act.word c.args.mine) (sym w.in-Speculate.is))
      | in-Commit w ↦ w.act-is ∙ (w.commit_at-act.ensures ∙ ap (λ t. act_by t c.args.id c.loop-act.word c.args.mine) (sym w.in-Commit.is))
      | in-Discard w ↦ w.act-is ∙ (w.discard_at-act.ensures ∙ ap (λ t. act_by t c.args.id c.loop-act.word c.args.mine) (sym w.in-Discard.is))
    ] in
    let e = c.requires.turn c.loop-act.word ∙ (sym acted ∙ c.in-Attempt.is) in
    subst (λ (n : ℕ). MayTry (set_up words) (known c.loop-act.seat) n doing c.args.slot c.loop-act.word c.in-Attempt.to) (sym c.loop-act.invariant.seat.1)
    (may_try c.requires.seat.1 seat.who_is c.requires.on c.loop-act.invariant.shown e)

pub returns-in-Ok-clause-seat : goal.returns-in-Ok-clause-seat
returns-in-Ok-clause-seat g c = (c.try_word.ensures.tried.seat.0, c.try_word.ensures.tried.seat.1 ∙ c.loop-act.invariant.seat.1)

pub returns-in-Ok-clause-ended : goal.returns-in-Ok-clause-ended
returns-in-Ok-clause-ended g c =
    let seat = c.args.seat.now in
    let acted : c.match-turn.act ≡ act_by c.args.turn c.args.id c.loop-act.word c.args.mine = elim c.match-turn.branch [
      | in-Speculate w ↦ w.act-is ∙ (w.speculate_at-act.ensures ∙ ap (λ t. act_by t c.args.id c.loop-act.word c.args.mine) (sym w.in-Speculate.is))
      | in-Commit w ↦ w.act-is ∙ (w.commit_at-act.ensures ∙ ap (λ t. act_by t c.args.id c.loop-act.word c.args.mine) (sym w.in-Commit.is))
      | in-Discard w ↦ w.act-is ∙ (w.discard_at-act.ensures ∙ ap (λ t. act_by t c.args.id c.loop-act.word c.args.mine) (sym w.in-Discard.is))
    ] in
    let e = c.requires.turn c.loop-act.word ∙ (sym acted ∙ c.in-Attempt.is) in
    record {
      word = c.loop-act.word;
      acts = e;
      last = tried c.requires.seat.1 seat.who_is c.requires.on c.loop-act.invariant.shown e c.loop-act.word true (known c.try_word.new.self) c.in-Ok.ensures.tried.step;
      bounded = hit_steps c.requires.seat.1 seat.who_is c.requires.on c.loop-act.invariant.shown e (known c.try_word.new.self) c.in-Ok.ensures.tried.step c.loop-act.invariant.bounded;
    }

pub loop-act-smaller : goal.loop-act-smaller
loop-act-smaller g c =
    let seat = c.args.seat.now in
    let acted : c.match-turn.act ≡ act_by c.args.turn c.args.id c.loop-act.word c.args.mine = elim c.match-turn.branch [
      | in-Speculate w ↦ w.act-is ∙ (w.speculate_at-act.ensures ∙ ap (λ t. act_by t c.args.id c.loop-act.word c.args.mine) (sym w.in-Speculate.is))
      | in-Commit w ↦ w.act-is ∙ (w.commit_at-act.ensures ∙ ap (λ t. act_by t c.args.id c.loop-act.word c.args.mine) (sym w.in-Commit.is))
      | in-Discard w ↦ w.act-is ∙ (w.discard_at-act.ensures ∙ ap (λ t. act_by t c.args.id c.loop-act.word c.args.mine) (sym w.in-Discard.is))
    ] in
    let e = c.requires.turn c.loop-act.word ∙ (sym acted ∙ c.in-Attempt.is) in
    let less = fewer_left c.requires.seat.1 seat.who_is c.requires.on c.loop-act.invariant.shown e c.in-Err.shown c.in-Err.ensures.tried.greater in
    omega arith

pub loop-act-preserved : goal.loop-act-preserved
loop-act-preserved g c =
    let seat = c.args.seat.now in
    let doing = g.J.HasDoing.doing in
    let acted : c.match-turn.act ≡ act_by c.args.turn c.args.id c.loop-act.word c.args.mine = elim c.match-turn.branch [
      | in-Speculate w ↦ w.act-is ∙ (w.speculate_at-act.ensures ∙ ap (λ t. act_by t c.args.id c.loop-act.word c.args.mine) (sym w.in-Speculate.is))
      | in-Commit w ↦ w.act-is ∙ (w.commit_at-act.ensures ∙ ap (λ t. act_by t c.args.id c.loop-act.word c.args.mine) (sym w.in-Commit.is))
      | in-Discard w ↦ w.act-is ∙ (w.discard_at-act.ensures ∙ ap (λ t. act_by t c.args.id c.loop-act.word c.args.mine) (sym w.in-Discard.is))
    ] in
    let e = c.requires.turn c.loop-act.word ∙ (sym acted ∙ c.in-Attempt.is) in
    record {
      seat = (c.try_word.ensures.tried.seat.0, c.try_word.ensures.tried.seat.1 ∙ c.loop-act.invariant.seat.1);
      shown = tried c.requires.seat.1 seat.who_is c.requires.on c.loop-act.invariant.shown e c.in-Err.shown false (known c.try_word.new.self) c.in-Err.ensures.tried.step;
      bounded =
          let less = fewer_left c.requires.seat.1 seat.who_is c.requires.on c.loop-act.invariant.shown e c.in-Err.shown c.in-Err.ensures.tried.greater in
          let one = step_made doing c.args.slot (known c.loop-act.seat) c.in-Err.shown (known c.try_word.new.self) c.in-Err.ensures.tried.step in
          let le = c.loop-act.invariant.bounded in
          omega arith;
      limit = c.in-Err.ensures.tried.limit;
    }
