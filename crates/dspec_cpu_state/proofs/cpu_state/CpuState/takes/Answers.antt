use Rattle.std.proofs.Common.{◌≡◌, ◌≢◌, ◌∙◌, ◌&&◌, ◌||◌, Bool, true, not, List, [], ◌∷◌, length, refl, sym, ap}
use Rattle.dspec_cpu_state.specs.Words.{Record, block, piece_fits, is_closed, is_empty, active}
use Rattle.dspec_cpu_state.proofs.cpu_state.CpuState.takes.Goals as goal

open_to : (rs : List Record) (room closed : Bool) → length rs ≢ 0 → room ≡ true → not closed ≡ (room && (is_empty (block rs) || not closed))
open_to [] room closed some t = absurd (some refl)
open_to (r ∷ rs) room closed some t = ap (λ b. b && not closed) (sym t)

pub returns-else-count-eq0 : goal.returns-else-count-eq0
returns-else-count-eq0 g c = λ shape cpu worn p rs counted count room.
    ap not (c.is_closed-closed.ensures cpu worn p counted)
    ∙ open_to rs (piece_fits shape (active cpu p) (block rs) c.args.config.now.bufsize) (is_closed c.args.config.now cpu p) (λ e. c.if-count-eq0.false (count ∙ e)) (sym room ∙ c.if-room.true)
