-- What a call of commit or discard left, and a call of either that decided nothing.
use Rattle.std.proofs.Common.{◌≡◌, ℕ, ◌+◌, Bool, true, false, List, ◌∷◌, Option, None, if◌then◌else◌, refl, sym, ◌∙◌, subst, true≢false}
use Rattle.dspec_cpu.specs.Words.{Record, Stored, HasPieces, Speculation, solo, known, set_up, IsAt, cpu_of, ShowsList, decided_deeds, Decides, HasList, IsReady, Reached, turns, is_decision, Shape}
use Rattle.dspec_cpu.specs.Words.{Config, CpuOp, Decided, DecideFate, Deed, Commit, Discard, Doing, View, CpuSeat, CpuState}
use Rattle.dspec_cpu.specs.declared.{parts.CpuParts.CpuParts as Cpu, reaching.Reach.Reach}
use Rattle.dspec_deeds.specs.declared.calls.CpuOp.TheVariants as op
use Rattle.dspec_deeds.specs.declared.calls.Decided.TheVariants as decided
use Rattle.dspec_deeds.specs.declared.deed.DecideFate.TheVariants as fated
use Rattle.dspec_deeds.proofs.TestLemmas.{number_is_itself}
use Rattle.dspec_table.specs.declared.seats.Words.{Words}
use Rattle.dspec_cpu.specs.declared.reaching.Reach.TheVariants as reach
use Rattle.dspec_cpu.proofs.DeedsAfter.{DeedsAfter, one_after}

-- the deed of the call, and the call, by whether it commits
abbrev pub deed_of : Bool → ℕ → Speculation → DecideFate → Deed
deed_of commits c id = if commits then Commit c id else Discard c id

abbrev pub deciding : Bool → Speculation → Bool → ℕ → Bool → Doing
deciding commits id fit n mine = record { op = if commits then op.Commit id else op.Discard id; fits = fit; count = n; mine = mine }

pub five_steps : (commits : Bool) (id : Speculation) → 5 ≡ 1 + turns (if commits then op.Commit id else op.Discard id)
five_steps true id = refl
five_steps false id = refl

-- the fate of a speculation that the call didn't decide
abbrev pub fate_left : Bool → DecideFate
fate_left stopped = if stopped then fated.Stopped else fated.Void

module _ (shape : ℕ → Option Shape) (accepted : Record → Bool) (text : Record → List ℕ) {S : Type 0} (words : Words) (cpu : Cpu S) where
  -- the CPU can be called again, and did the deeds of its answer
  pub record Ended (of : DecideFate → Deed) (id : Speculation) (a : Decided) (new : Cpu S) : Type 0 where
    pub ready : IsReady shape accepted text words new
    pub decides : Decides of id a (HasList shape accepted text cpu) (known cpu.seat) (HasList shape accepted text new) (known new.seat)

  -- so far it came, as the session's words and the seat have it
  pub reached_here : IsReady shape accepted text words cpu → {id : Speculation} {fit mine : Bool} {n : ℕ} {o p : CpuOp} → o ≡ p → {r : Reach} {w : View}
      → Reached (set_up words) (cpu_of cpu.seat) record { op = o; fits = fit; count = n; mine = mine } id (known cpu.seat) r w
      → Reached cpu.config cpu.cpu record { op = p; fits = fit; count = n; mine = mine } id (known cpu.seat) r w
  reached_here ready {id} {fit} {mine} {n} is {r} {w} got =
      subst (λ (x : Config × ℕ × CpuOp). Reached x.0 x.1 record { op = x.2; fits = fit; count = n; mine = mine } id (known cpu.seat) r w) (λ i. (ready.config i, ready.steady.seat i, is i)) got

  -- the same of a call whose marker says so
  pub reached_as : IsReady shape accepted text words cpu → {id : Speculation} {d e : Doing} → d ≡ e → {r : Reach} {w : View}
      → Reached (set_up words) (cpu_of cpu.seat) d id (known cpu.seat) r w → Reached cpu.config cpu.cpu e id (known cpu.seat) r w
  reached_as ready {id} is {r} {w} got = subst (λ (x : Config × ℕ × Doing). Reached x.0 x.1 x.2 id (known cpu.seat) r w) (λ i. (ready.config i, ready.steady.seat i, is i)) got

  -- these deeds are those of its answer
  pub ended : {of by : DecideFate → Deed} → of ≡ by → (id : Speculation) (a : Decided) (alone : Bool) (new : Cpu S)
      → (is_decision a ≡ true → alone ≡ false → solo id (known new.seat).seen ≡ None) → DeedsAfter shape accepted text words cpu (decided_deeds of id.slot alone a) new → Ended by id a new
  ended is id a alone new waits l =
      subst (λ f. Ended f id a new) is record { ready = l.ready; decides = record { alone = alone; did = l.did; waits = waits; list = l.list } }

  module _ (ready : IsReady shape accepted text words cpu) (seat : CpuSeat) (now : CpuState Stored)
      (at : IsAt words seat × (cpu_of seat ≡ cpu_of cpu.seat)) where
    abbrev Shows : List Deed → CpuState Stored → Type 0
    Shows p side = ShowsList (HasPieces shape accepted text) (λ b. b.size) cpu.config cpu.cpu p side

    abbrev new : Cpu S
    new = record cpu { seat = seat; side = now }

    -- by one deed that has no part in a block
    left : (id : Speculation) (of : DecideFate → Deed) (a : Decided) → is_decision a ≡ false → DeedsAfter shape accepted text words cpu (decided_deeds of id.slot false a) new → Ended of id a new
    left id of a none l = ended refl id a false new (λ d e. absurd (true≢false (sym d ∙ none))) l

    -- the session was stopped, or the identifier wasn't open
    pub undecided : {id : Speculation} {fit mine : Bool} {n : ℕ} (commits stopped : Bool)
        → Reached cpu.config cpu.cpu (deciding commits id fit n mine) id (known cpu.seat) (if stopped then reach.Stopped else reach.Void) (known seat)
        → ((p : List Deed) → Shows p cpu.side → Shows (Commit cpu.cpu id (fate_left stopped) ∷ p) now)
        → ((p : List Deed) → Shows p cpu.side → Shows (Discard cpu.cpu id (fate_left stopped) ∷ p) now)
        → Ended (deed_of commits cpu.cpu id) id (if stopped then decided.Stopped else decided.Void) new
    undecided {id = id} true true got side other = left id (Commit cpu.cpu id) decided.Stopped refl
        (one_after shape accepted text words cpu ready seat at now _ got.goes got.stands refl (number_is_itself cpu.cpu) ready.steady.idle refl (λ p had was. (tt, side p was)))
    undecided {id = id} true false got side other = left id (Commit cpu.cpu id) decided.Void refl
        (one_after shape accepted text words cpu ready seat at now _ got.goes got.stands refl (number_is_itself cpu.cpu) ready.steady.idle refl (λ p had was. (tt, side p was)))
    undecided {id = id} false true got other side = left id (Discard cpu.cpu id) decided.Stopped refl
        (one_after shape accepted text words cpu ready seat at now _ got.goes got.stands refl (number_is_itself cpu.cpu) ready.steady.idle refl (λ p had was. (tt, side p was)))
    undecided {id = id} false false got other side = left id (Discard cpu.cpu id) decided.Void refl
        (one_after shape accepted text words cpu ready seat at now _ got.goes got.stands refl (number_is_itself cpu.cpu) ready.steady.idle refl (λ p had was. (tt, side p was)))
