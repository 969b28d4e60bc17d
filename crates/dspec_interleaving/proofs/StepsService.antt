-- The steps of a service: the seal and push of a batch, and the settlements.
use Rattle.std.proofs.Common.{◌≡◌, ◌≤◌, ◌<◌, ◌+◌, ◌*◌, ◌==◌, ℕ, Bool, true, false, ◌&&◌, List, [], ◌∷◌, length, Option, Some, None, if◌then◌else◌, refl, sym, ap, ◌∙◌, subst, arith, true≢false}
use Rattle.std.proofs.lemmas.Bool.Decides.{nat_tests}
use Rattle.std.specs.Prelude.{nat_lt, nat_le}
use Rattle.dspec_interleaving.specs.Words.{Shape, block, awaits, SlotState, settle_at, start_fault, is_fill, scan, issue, owed, present, verdict, solo, settled, word_at, ack, contents, held, seals}
use Rattle.dspec_interleaving.specs.Words.{IsSound, IsAllowed, CpuLegal, SettlesAs, fits_principal, begun, asked, popped, served, shown_service, call_goes_on, cpu_step, settle_fate, IsSlot}
use Rattle.dspec_interleaving.specs.Words.{StandsCpu, SpareCounts, measured, Act, Granted, Code, CommittingMany, Discarding, Config, Served, DecideFate, Deed, Settle, Seal}
use Rattle.dspec_interleaving.specs.declared.flight.{CpuProgress.CpuProgress, Spare.Spare}
use Rattle.dspec_deeds.specs.declared.calls.Answer.TheVariants as answer
use Rattle.dspec_deeds.specs.declared.calls.CpuOp.TheVariants as cpu_op
use Rattle.dspec_deeds.specs.declared.deed.DecideFate.TheVariants as decided
use Rattle.dspec_interleaving.specs.declared.flight.CallPlace.TheVariants as cpu
use Rattle.dspec_interleaving.specs.declared.flight.Spare.TheVariants as spare
use Rattle.dspec_deeds.proofs.{Acked.ack_tells, Awaiting.IsAwaiting, Awaiting.awaiting, SetUp.set_up, TestLemmas.and_tells, TestLemmas.number_is_itself, TestLemmas.numbers_differ}
use Rattle.dspec_interleaving.proofs.{StepsAlone.none_rules, StepsAlone.one_rules, StepsParts.IsUnderWay, StepsParts.StepStands, StepsParts.either_stands, StepsParts.one_comes}
use Rattle.dspec_interleaving.proofs.{StepsParts.goes_by_none, StepsParts.goes_by, StepsParts.ends_by_none, StepsParts.ends_by, StepsWords.settle_tells, Tests.not_tells}

-- one batch more
seals_more : (c : ℕ) (h : List Deed) → seals c (Seal c ∷ h) ≡ seals c h + 1
seals_more c h = let own = number_is_itself c in rw own refl

-- an acknowledgement that isn't past the present issue says that the CPU hasn't settled
not_settled : (k : Config) (c s : ℕ) (h : List Deed) → IsSound k h → ack c s h ≤ issue s h → settled c (present s h) h ≡ false
not_settled k c s h sound le =
    let tells = ack_tells k c s h sound in
    let least : nat_le (ack c s h) (issue s h) ≡ true = grind (arith, nat_tests) in
    not_tells (settled c (present s h) h) (sym tells ∙ least)

module _ {shape : ℕ → Option Shape} {k : Config} {c : ℕ} {h : List Deed} {me : CpuProgress} (play : IsUnderWay shape k c h me) where
  -- the first slot of the settlements is next
  settles_next : scan k c h ≡ 0 → me.steps ≤ 2 → (sealed : Bool) → StepStands shape k c h (call_goes_on me [] (cpu.ServiceLoad 1 record { sealed = sealed; settled = 0 }))
  settles_next idle steps sealed = goes_by_none play (cpu.ServiceLoad 1 record { sealed = sealed; settled = 0 })
      ((omega arith, (set_up k play.ranges).1), idle, omega arith, omega arith)

  -- the active buffer is sealed, and its push is next
  seals_stand : scan k c h ≡ 0 → me.steps ≤ 1 → seals c h < k.max_calls → seals c h ≡ me.takes → is_fill k.policy ≡ false
      → StepStands shape k c h (record { progress = record me { flight = Some cpu.ServicePush; steps = me.steps + 1; spare = spare.Sealed }; deeds = Seal c ∷ []; answer = None })
  seals_stand idle steps most same switched = record {
    goes = one_comes play (Seal c) play.rests tt (most, idle, switched) refl refl;
    stands = record { flight = (idle, omega arith, refl); counts = seals_more c h ∙ ap (λ n. n + 1) same; pushes = refl; want = play.want };
    solo_rule = one_rules k c (Seal c) h (Some cpu.ServicePush) None (play.legal.0, (play.rests, tt)) refl tt;
  }

  -- a slot with nothing to settle
  passes : (s : ℕ) (sum : Served) → IsSlot k s → scan k c h ≡ 0 → me.steps ≤ 1 + 2 * s → sum.settled < s → StepStands shape k c h (served k c (measured shape k c h) me s [] sum)
  passes s sum slot idle steps few = either_stands (s == k.nspec)
      (λ e. ends_by_none play (answer.Served sum) idle)
      (λ e.
      let apart = numbers_differ s k.nspec e in
      let most = slot.1 in
      goes_by_none play (cpu.ServiceLoad (s + 1) sum) ((omega arith, omega arith), idle, omega arith, omega arith))

  pub service_loads : (s : ℕ) (sum : Served) → StandsCpu k c h me (cpu.ServiceLoad s sum) → StepStands shape k c h (cpu_step shape k c h me (cpu.ServiceLoad s sum))
  service_loads s sum at = go (settle_at (word_at s h) (ack c s h)) refl
    where
      go : (act : Act) → settle_at (word_at s h) (ack c s h) ≡ act → StepStands shape k c h (shown_service k c (measured shape k c h) me s sum (word_at s h) act)
      go Granted e =
          let tells = settle_tells (word_at s h) (ack c s h) e in
          let steps = at.2 in
          goes_by_none play (cpu.ServiceStore s (word_at s h) sum) (at.0, at.1, omega arith, at.3, refl, tells.0, not_settled k c s h play.legal.0 tells.1)
      go act e = passes s sum at.0 at.1 at.2 at.3

  pub service_begins : scan k c h ≡ 0 → me.steps ≡ 0 → StepStands shape k c h (begun k c (measured shape k c h) me cpu_op.Service)
  service_begins idle first = either_stands (is_fill k.policy)
      (λ e. service_loads 1 record { sealed = false; settled = 0 } ((omega arith, (set_up k play.ranges).1), idle, omega arith, omega arith))
      (λ switched. go switched (nat_lt (seals c h) me.want && nat_lt (seals c h) k.max_calls) refl me.spare play.counts)
    where
      most : (nat_lt (seals c h) me.want && nat_lt (seals c h) k.max_calls) ≡ true → seals c h < k.max_calls
      most e = let less = (and_tells (nat_lt (seals c h) me.want) (nat_lt (seals c h) k.max_calls) e).1 in grind (arith, nat_tests)

      go : is_fill k.policy ≡ false → (asks : Bool) → (nat_lt (seals c h) me.want && nat_lt (seals c h) k.max_calls) ≡ asks → (place : Spare) → SpareCounts (seals c h) me.takes place
          → StepStands shape k c h (asked k c (measured shape k c h) me asks place)
      go switched false e place counts = settles_next idle (omega arith) false
      go switched true e spare.InHand counts = seals_stand idle (omega arith) (most e) (counts.0 ∙ sym counts.1) switched
      go switched true e place counts = goes_by_none play cpu.ServicePop (idle, omega arith, most e, switched)

  pub service_pops : StandsCpu k c h me cpu.ServicePop → StepStands shape k c h (cpu_step shape k c h me cpu.ServicePop)
  service_pops at = go me.spare play.counts
    where
      go : (place : Spare) → SpareCounts (seals c h) me.takes place → StepStands shape k c h (popped k c (measured shape k c h) me place)
      go spare.GivenBack counts = let first = at.1 in seals_stand at.0 (omega arith) at.2 counts at.3
      go place counts = let first = at.1 in settles_next at.0 (omega arith) false

  -- a settlement as the decision says
  settles_stand : (s : ℕ) (f : DecideFate) (sum : Served) → IsSlot k s → scan k c h ≡ 0 → me.steps ≤ 2 + 2 * s → sum.settled ≤ s
      → SettlesAs (verdict (present s h) h) f → solo (present s h) h ≡ None → settled c (present s h) h ≡ false → CpuLegal shape k h (Settle c (present s h) f)
      → StepStands shape k c h (served k c (measured shape k c h) me s (Settle c (present s h) f ∷ []) sum)
  settles_stand s f sum slot idle steps few fate alone not_yet own = either_stands (s == k.nspec)
      (λ e. ends_by play (Settle c (present s h) f) (answer.Served sum) play.rests (idle, (refl, fate, alone, not_yet)) own refl tt refl idle)
      (λ e.
      let apart = numbers_differ s k.nspec e in
      let most = slot.1 in
      goes_by play (Settle c (present s h) f) (cpu.ServiceLoad (s + 1) sum) play.rests (idle, (refl, fate, alone, not_yet)) own refl tt refl
      ((omega arith, omega arith), idle, omega arith, omega arith))

  pub service_stores : (s : ℕ) (w : SlotState) (sum : Served) → StandsCpu k c h me (cpu.ServiceStore s w sum) → StepStands shape k c h (cpu_step shape k c h me (cpu.ServiceStore s w sum))
  service_stores s w sum at = subst (λ v. StepStands shape k c h (cpu_step shape k c h me (cpu.ServiceStore s v sum))) at.4
      (go (word_at s h).code refl (subst (λ (v : SlotState). awaits v.code ≡ true) (sym at.4) at.5))
    where
      store : (f : DecideFate) (code : Code) → IsAwaiting s h code → SettlesAs (verdict (present s h) h) f → CpuLegal shape k h (Settle c (present s h) f)
          → StepStands shape k c h (served k c (measured shape k c h) me s (Settle c (present s h) f ∷ []) record { sealed = sum.sealed; settled = sum.settled + 1 })
      store f code waits fate own = let few = at.3 in settles_stand s f record { sealed = sum.sealed; settled = sum.settled + 1 } at.0 at.1 at.2 (omega arith) fate waits.alone at.6 own

      copies : (fits : Bool) → fits_principal shape k c (block (contents (held c (present s h) h))) h ≡ fits → IsAwaiting s h CommittingMany
          → StepStands shape k c h
          (served k c (measured shape k c h) me s
          (Settle c (present s h) (if fits then decided.Copied (length (held c (present s h) h)) else decided.Lost (length (held c (present s h) h))) ∷ [])
          record { sealed = sum.sealed; settled = sum.settled + 1 })
      copies true e waits = store (decided.Copied (length (held c (present s h) h))) CommittingMany waits (waits.fate (decided.Copied (length (held c (present s h) h))) refl) (refl, sym e)
      copies false e waits = store (decided.Lost (length (held c (present s h) h))) CommittingMany waits (waits.fate (decided.Lost (length (held c (present s h) h))) refl) (refl, sym e)

      go : (code : Code) → (word_at s h).code ≡ code → awaits code ≡ true
          → StepStands shape k c h
          (served k c (measured shape k c h) me s (Settle c (present s h) (settle_fate shape k c h (present s h) code) ∷ []) record { sealed = sum.sealed; settled = sum.settled + 1 })
      go CommittingMany is e = copies (fits_principal shape k c (block (contents (held c (present s h) h))) h) refl (awaiting k s h CommittingMany play.legal.0 play.rests is e)
      go Discarding is e =
          let waits = awaiting k s h Discarding play.legal.0 play.rests is e in
          store (decided.Thrown (length (held c (present s h) h))) Discarding waits (waits.fate (decided.Thrown (length (held c (present s h) h))) refl) refl
      go code is e = absurd (true≢false (sym e))

-- the push of a sealed batch
pub service_pushes : (shape : ℕ → Option Shape) (k : Config) (c : ℕ) (h : List Deed) (me : CpuProgress) → start_fault k ≡ None → IsAllowed shape k h → owed h ≡ 0
    → SpareCounts (seals c h) me.takes me.spare → me.want ≤ me.takes + 1 → StandsCpu k c h me cpu.ServicePush → StepStands shape k c h (cpu_step shape k c h me cpu.ServicePush)
service_pushes shape k c h me ranges legal rests counts want at = let steps = at.1 in record {
  goes = record { legal = legal; rests = rests; by = tt };
  stands = record {
    flight = ((omega arith, (set_up k ranges).1), at.0, omega arith, omega arith);
    counts = subst (λ place. SpareCounts (seals c h) me.takes place) at.2
        counts;
    pushes = tt;
    want = want;
  };
  solo_rule = none_rules c h _ _;
}
