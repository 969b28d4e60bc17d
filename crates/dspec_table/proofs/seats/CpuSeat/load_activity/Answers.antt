-- The load answers whether the session runs, and the step says whether it is stopped.
use Rattle.std.proofs.Common.{◌≡◌, ◌==◌, Bool, true, false, not, refl, sym, subst, arith}
use Rattle.dspec_table.specs.Words.{known, LoadedActivity}
use Rattle.dspec_table.proofs.Activity.{loads_activity}
use Rattle.dspec_table.proofs.seats.CpuSeat.load_activity.Goals as goal

pub load-stopped-requires : goal.load-stopped-requires
load-stopped-requires g c =
    let words = c.args.words.now in
    let seat = c.args.self.now in (
      c.requires.seat.0,
      let count = words.words_is in omega arith,
      rw (words.key_is)
          (loads_activity words.config words.board.shared.table_id.slots seat.seat.id seat.cpu seat.seat.me g.J.HasDoing.doing words.some_slot seat.who_is seat.joins_none c.requires.idle),
    )

twice : (b : Bool) → not (not b) ≡ b
twice true = refl
twice false = refl

pub returns-clause-step : goal.returns-clause-step
returns-clause-step g c =
    subst (λ b. LoadedActivity g.J.HasDoing.doing (known c.args.self.now) b c.load-stopped.new.seat.me.0) (sym (twice (c.load-stopped.result == 1))) c.load-stopped.ensures.2.0
