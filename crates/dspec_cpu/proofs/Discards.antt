-- A call of discard that decided: the list and the deeds after it.
use Rattle.std.proofs.Common.{arith, ◌≡◌, ℕ, ◌+◌, ◌==◌, Bool, true, false, List, ◌∷◌, ◌++◌, length, Option, None, refl, sym, ap, subst, true≢false}
use Rattle.std.proofs.lemmas.Bool.Decides.{nat_tests}
use Rattle.dspec_cpu.specs.Words.{Record, Stored, HasPieces, Speculation, SlotState, is_inactive, discard_act, discard_at, scan, is_discard, CpuLegal, mark, held, bare, flight_after, known, set_up}
use Rattle.dspec_cpu.specs.Words.{IsAt, cpu_of, decision, IsCaller, ShowsList, IsReady, IsShown, Reached, OwnsCommit, Shape, Code, Active, ActiveOne, ActiveMany, Discarding, Attempt, Deed, Discard}
use Rattle.dspec_cpu.specs.Words.{View, CpuSeat, CpuState}
use Rattle.dspec_cpu.specs.declared.parts.CpuParts.{CpuParts as Cpu}
use Rattle.dspec_deeds.specs.declared.calls.Decided.TheVariants as decided
use Rattle.dspec_deeds.specs.declared.deed.DecideFate.TheVariants as fated
use Rattle.dspec_deeds.proofs.TestLemmas.{number_is_itself, same_number}
use Rattle.dspec_table.specs.declared.seats.Words.{Words}
use Rattle.dspec_cpu.specs.declared.reaching.Reach.TheVariants as reach
use Rattle.dspec_cpu.proofs.{Decided.Ended, Decided.deciding, Decided.deed_of, Decided.ended, Decisions.waits_at, Decisions.released_shown, DeedsAfter.deeds_after, Ready.few, Retries.here_or_void}
use Rattle.dspec_cpu.proofs.{Retries.attempt_is, Retries.to_is, Shown.shows, Shown.shown_after, Speculates.caller_of}

-- an exchange of discard releases the slot, or leaves the issue and a discard that waits
pub record IsDiscardWord (i : ℕ) (to : SlotState) : Type 0 where
  pub issue : is_inactive to.code ≡ false → to.issue ≡ i
  pub code : is_inactive to.code ≡ false → to.code ≡ Discarding

word_of : (i : ℕ) (a b : SlotState) → Attempt a ≡ Attempt b → IsDiscardWord i a → IsDiscardWord i b
word_of i a b e w = subst (λ x. IsDiscardWord i x) (to_is e) w

discard_leaves : (i : ℕ) (mine : Bool) (code : Code) (to : SlotState) → discard_act i mine code ≡ Attempt to → IsDiscardWord i to
discard_leaves i mine Active to e = word_of i _ to e record { issue = λ n. refl; code = λ n. refl }
discard_leaves i true ActiveOne to e = word_of i _ to e record { issue = λ n. absurd (true≢false n); code = λ n. absurd (true≢false n) }
discard_leaves i false ActiveOne to e = word_of i _ to e record { issue = λ n. refl; code = λ n. refl }
discard_leaves i mine ActiveMany to e = word_of i _ to e record { issue = λ n. refl; code = λ n. refl }
discard_leaves i mine code to e = absurd (cc (e))

left_by_discard : (id : Speculation) (mine : Bool) (word to : SlotState) → discard_at word id mine ≡ Attempt to → IsDiscardWord id.issue to
left_by_discard id mine word to e = grind (arith, nat_tests, here_or_void, attempt_is, same_number, discard_leaves)

module _ (shape : ℕ → Option Shape) (accepted : Record → Bool) (text : Record → List ℕ) {S : Type 0} (words : Words) (cpu : Cpu S)
    (ready : IsReady shape accepted text words cpu) {id : Speculation} {fit mine : Bool} {n : ℕ} {to : SlotState} (seat : CpuSeat)
    (got : Reached cpu.config cpu.cpu (deciding false id fit n mine) id (known cpu.seat) (reach.Done to) (known seat)) where
  abbrev v : View
  v = known cpu.seat

  abbrev d : Deed
  d = Discard cpu.cpu id (fated.Thrown n)

  -- the deeds: the release among them where the exchange left the slot inactive
  abbrev deeds : List Deed
  deeds = decision (is_inactive to.code) id.slot d

  released_too : (new : Cpu S) (p : List Deed) (b : Bool) → IsShown shape accepted text new (d ∷ p) → IsShown shape accepted text new (decision b id.slot d ++ p)
  released_too new p true shown = released_shown shape accepted text new (d ∷ p) shown id.slot refl new.seat
  released_too new p false shown = shown

  bare_too : (p : List Deed) (b : Bool) → bare (decision b id.slot d ++ p) ≡ decision b id.slot d ++ bare p
  bare_too p true = refl
  bare_too p false = refl

  -- no scan is under way after them, nor is a call in flight
  still_idle : (b : Bool) → scan cpu.config cpu.cpu (decision b id.slot d ++ v.own) ≡ 0
  still_idle true = ready.steady.idle
  still_idle false = ready.steady.idle

  none_flies : (b : Bool) → flight_after cpu.config v.flight (decision b id.slot d) ≡ None
  none_flies true = refl
  none_flies false = refl

  -- the block was thrown away, as the call measured it
  pub thrown : IsAt words seat × (cpu_of seat ≡ cpu_of cpu.seat) → OwnsCommit (set_up words) (cpu_of seat) id.slot (known seat) (Attempt to)
      → ((p : List Deed) → IsShown shape accepted text cpu p → mine ≡ (mark cpu.cpu id.slot p == id.issue + 1))
      → ((p : List Deed) → IsShown shape accepted text cpu p → IsCaller cpu.cpu id mine p → n ≡ length (held cpu.cpu id p)) → (now : CpuState Stored)
      → ((p : List Deed) → ShowsList (HasPieces shape accepted text) (λ b. b.size) cpu.config cpu.cpu p cpu.side → IsCaller cpu.cpu id mine p → is_discard (fated.Thrown n) ≡ true
      → CpuLegal shape cpu.config p d → ShowsList (HasPieces shape accepted text) (λ b. b.size) cpu.config cpu.cpu (d ∷ p) now)
      → (commits : Bool) → commits ≡ false
      → Ended shape accepted text words cpu (deed_of commits cpu.cpu id) id (decided.Thrown n) (record cpu { seat = seat; side = now })
  thrown at owns marked counting now shown commits is =
      let new = record cpu { seat = seat; side = now } in
      let a = got.acts refl in
      let left = left_by_discard id mine a.0 to a.1 in
      ended shape accepted text words cpu (ap (λ b. deed_of b cpu.cpu id) (sym is)) id (decided.Thrown n) (is_inactive to.code) new
      (λ d e. waits_at cpu.config id (known seat).seen to Discarding got.stands.sound got.stands.rests owns.0 (left.issue e) (left.code e) refl)
      (deeds_after shape accepted text words cpu ready seat at now deeds got.goes got.stands (λ p. bare_too p (is_inactive to.code)) (still_idle (is_inactive to.code))
      (none_flies (is_inactive to.code)) (λ p had.
      let caller = caller_of cpu.config cpu.cpu id v.own mine (few shape accepted text words cpu ready) (got.present refl).0 p had.own (marked p had.shown) in
      let count = counting p had.shown caller in
      released_too new p (is_inactive to.code) (shown_after shape accepted text cpu.side p had.shown d refl (number_is_itself cpu.cpu) count now
      (shown p (shows shape accepted text cpu.side p had.shown) caller refl count))))
