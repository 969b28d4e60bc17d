-- What the relations of the steps at the words say, place by place, is the list of deeds that the places name.
use Rattle.std.proofs.Common.{◌≡◌, arith, ℕ, Bool, true, false, List, [], ◌∷◌, ◌++◌, Option, inl, inr, refl, sym, ap, ◌∙◌, subst}
use Rattle.std.proofs.lemmas.Bool.Decides.{nat_tests}
use Rattle.dspec_table.specs.Words.{Shape, SlotState, halted, word_at, Speculation, IsInFlight, bare, op_of, same_word, cpu_step, nothing, shown, deeds_at, trying, at_activity, at_word, at_exchange}
use Rattle.dspec_table.specs.Words.{number_of, slot_place, Found, Entered, LoadedActivity, LoadedWord, IsSameCall, seat_reads, IsMine, SeatStep, Exchanges, IsStepOfPlay, Config, CpuOp, Deed}
use Rattle.dspec_table.specs.Words.{CpuProgress, CallPlace}
use Rattle.dspec_table.specs.declared.{doing.Doing.Doing, rule.View.View}
use Rattle.dspec_deeds.specs.declared.calls.CpuOp.TheVariants as cpu_op
use Rattle.dspec_deeds.proofs.OwnReads.{apart_bare}
use Rattle.dspec_interleaving.specs.declared.flight.CallPlace.TheVariants as cpu
use Rattle.dspec_interleaving.proofs.StepsWords.{same_word_tells}
use Rattle.dspec_table.proofs.{InFlight.service_begins, SameDeeds.same_deeds}

-- the deeds ds after the seat's own list p, and after the list that the step found
pub record IsAfter (ds p log : List Deed) (w : View) : Type 0 where
  pub own : w.own ≡ ds ++ p
  pub seen : w.seen ≡ ds ++ log

-- Seals are left out of each part alone
pub bare_joined : (ds h : List Deed) → bare (ds ++ h) ≡ bare ds ++ bare h
bare_joined [] h = refl
bare_joined (d ∷ ds) h = grind (arith, nat_tests, bare_joined ds h)

-- a step of that call entered what a table says of the thing shown
pub did : {A : Type 0} {place : ℕ} (F : A → List Deed) (shown is : A) (v w : View) (log : List Deed) → shown ≡ is → Entered place v log (F shown) w → IsAfter (F is) v.own log w
did F shown is v w log e entered = grind (arith, nat_tests)

abbrev Did : Doing → CpuOp → (List Deed → List Deed) → View → View → Type 0
Did doing o ds v w = (log : List Deed) × Found v log × (doing.op ≡ o → IsAfter (ds log) v.own log w)

begins_as : (doing : Doing) (o : CpuOp) (v w : View) → (stopped : Bool) × LoadedActivity doing v stopped w → Did doing o (λ log. at_activity v.config (number_of v.who) doing o (halted log)) v w
begins_as = grind (arith, nat_tests)

loads_as : (doing : Doing) (o : CpuOp) (slot : ℕ) (v w : View) → (x : SlotState) × LoadedWord doing slot v x w
    → Did doing o (λ log. at_word v.config (number_of v.who) doing slot (word_at slot log) o) v w
loads_as = grind (arith, nat_tests)

-- an exchange hits exactly where plays find the words the same
exchanged : (P : SlotState → Bool → Type 0) (from : SlotState) → Exchanges P from → (shown : SlotState) × P shown (same_word shown from)
exchanged = grind (arith, nat_tests)

-- the word that it expects is read where it hits alone, and is the one shown there
expected : (k : Config) (c slot : ℕ) (doing : Doing) (w from : SlotState) (o : CpuOp) (b : Bool) → same_word w from ≡ b → at_exchange k c doing slot w b o
    ≡ deeds_at k c (shown doing w b) (trying slot from o)
expected k c slot doing w from o true e = ap (λ x. deeds_at k c (shown doing w true) (trying slot x o)) (same_word_tells w from e)
expected k c slot doing w from (cpu_op.Trace r) false e = refl
expected k c slot doing w from o false e = refl

abbrev TriedAs : Doing → CpuOp → ℕ → View → View → SlotState → Bool → Type 0
TriedAs doing o slot v w x hit = (log : List Deed) × Found v log × (x ≡ word_at slot log) × Entered (slot_place slot) v log (at_exchange v.config (number_of v.who) doing slot x hit o) w

tries_as : (doing known : Doing) (o p : CpuOp) (slot : ℕ) (from : SlotState) (v w : View) → (doing.op ≡ o → p ≡ o) → Exchanges (TriedAs known p slot v w) from
    → Did doing o (λ log. deeds_at v.config (number_of v.who) (shown known (word_at slot log) (same_word (word_at slot log) from)) (trying slot from o)) v w
tries_as doing known o p slot from v w of step = go (exchanged (TriedAs known p slot v w) from step)
  where
    go : (x : SlotState) × TriedAs known p slot v w x (same_word x from)
        → Did doing o (λ log. deeds_at v.config (number_of v.who) (shown known (word_at slot log) (same_word (word_at slot log) from)) (trying slot from o)) v w
    go (x, (log, found, is, entered)) = (
      log,
      found,
      λ op. did (λ y. deeds_at v.config (number_of v.who) (shown known y (same_word y from)) (trying slot from o)) x (word_at slot log) v w log is
          (subst (λ ds. Entered (slot_place slot) v log ds w)
          (ap (at_exchange v.config (number_of v.who) known slot x (same_word x from)) (of op) ∙ expected v.config (number_of v.who) slot known x from o (same_word x from) refl)
          entered),
    )

seat_did : (doing : Doing) (v w : View) (f : CallPlace) → SeatStep doing v f w → Did doing (op_of f) (λ log. deeds_at v.config (number_of v.who) (seat_reads doing log) f) v w
seat_did doing v w (cpu.Begun cpu_op.Service) (inl step) = grind (arith, nat_tests)
seat_did doing v w (cpu.Begun cpu_op.Service) (inr (n, (log, found, least, view))) = (
  log,
  found,
  λ op. subst (λ ds. IsAfter ds v.own log w) (sym (service_begins v.config (number_of v.who) doing (halted log) (seat_reads doing log).word (seat_reads doing log).hits))
      (record { own = ap (λ (x : View). x.own) view; seen = ap (λ (x : View). x.seen) view }),
)
seat_did doing v w (cpu.Begun o) step = begins_as doing o v w step
seat_did doing v w (cpu.ScanLoad s) step = loads_as doing cpu_op.Speculation s v w step
seat_did doing v w (cpu.ScanTry s from) step = tries_as doing nothing cpu_op.Speculation cpu_op.Speculation s from v w (λ op. refl) step
seat_did doing v w (cpu.SpeculateLoad id r) step = loads_as doing (cpu_op.Speculate id r) id.slot v w step
seat_did doing v w (cpu.SpeculateTry id r from) step = tries_as doing doing (cpu_op.Speculate id r) doing.op id.slot from v w (λ op. op) step
seat_did doing v w (cpu.CommitLoad id) step = loads_as doing (cpu_op.Commit id) id.slot v w step
seat_did doing v w (cpu.CommitTry id from) step = tries_as doing doing (cpu_op.Commit id) doing.op id.slot from v w (λ op. op) step
seat_did doing v w (cpu.CommitRelease id f) (log, found, entered) = (log, found, λ op. record { own = ap (λ (x : View). x.own) entered.view; seen = ap (λ (x : View). x.seen) entered.view })
seat_did doing v w (cpu.DiscardLoad id) step = loads_as doing (cpu_op.Discard id) id.slot v w step
seat_did doing v w (cpu.DiscardTry id from) step = tries_as doing doing (cpu_op.Discard id) doing.op id.slot from v w (λ op. op) step
seat_did doing v w cpu.ServicePop step = absurd step
seat_did doing v w cpu.ServicePush step = absurd step
seat_did doing v w (cpu.ServiceLoad s sum) step = grind (arith, nat_tests)
seat_did doing v w (cpu.ServiceStore s from sum) (last, (log, found, entered)) = grind (arith, nat_tests)

-- so a step of the play leaves what the seat's step leaves
pub seat_plays : (doing : Doing) (v w : View) (f : CallPlace) → SeatStep doing v f w
    → (log : List Deed) × Found v log × ((shape : ℕ → Option Shape) (h : List Deed) (me : CpuProgress) → bare h ≡ log → IsSameCall shape v.config (number_of v.who) h me f doing
    → IsStepOfPlay (cpu_step shape v.config (number_of v.who) h me f).deeds h v w)
seat_plays doing v w f step = grind (arith, nat_tests, seat_did, same_deeds, bare_joined)

-- what the words' functions ask of a call in flight tells whether the CPU is a caller, by its list with the Seals
pub mine_known : (k : Config) (v : View) (c : ℕ) (doing : Doing) (id : Speculation) (slot : ℕ) (p : List Deed) → v.own ≡ bare p → IsInFlight k v c doing id slot → IsMine c p id doing
mine_known k v c doing id slot p own flight = grind (arith, nat_tests, apart_bare k c p)
