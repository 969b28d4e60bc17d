-- What the steps of a CPU's calls have in common.
use Rattle.std.proofs.Common.{◌≡◌, ◌≢◌, ◌≤◌, ◌+◌, ℕ, Bool, true, false, if◌then◌else◌, List, [], ◌∷◌, ◌++◌, Option, Some, None, refl, sym, ap, ◌∙◌, subst, ⊎_elim, arith}
use Rattle.std.proofs.lemmas.Bool.Decides.{nat_tests}
use Rattle.std.specs.Prelude.{nat_le}
use Rattle.dspec_interleaving.specs.Words.{Shape, Speculation, start_fault, author, same_actor, owed, owing, scan, in_range, opened, is_undecided, verdict, is_open, releaser, seals, seals_now}
use Rattle.dspec_interleaving.specs.Words.{IsSound, IsAllowed, CpuLegal, MayComeBy, Pays, facts, CpuStep, call_goes_on, ends, wears, IsSlot, StandsCpu, SpareCounts, PushesNext, ProgressStands}
use Rattle.dspec_interleaving.specs.Words.{halted, is_worn, late, OnItsWay, Expects, TriedBy, SlotState, word_at, callers, is_among, code_number, same_word, Act, Attempt, Config, Cpu, Answer, Deed}
use Rattle.dspec_interleaving.specs.declared.flight.{CallPlace.CallPlace, CpuProgress.CpuProgress, Spare.Spare}
use Rattle.dspec_interleaving.proofs.StepsAlone.{KeepsSoloRule, DecidesBeside, beside_rests, none_rules, one_rules}
use Rattle.dspec_interleaving.proofs.StepsWords.{same_word_tells, code_rises}
use Rattle.dspec_interleaving.specs.declared.flight.CallPlace.TheVariants as cpu
use Rattle.dspec_interleaving.specs.declared.flight.Spare.TheVariants as spare
use Rattle.dspec_deeds.proofs.{Going.GoesOn, SetUp.set_up, SoundLists.opened_in_range, SoundLists.running_not_late, TestLemmas.either_way, TestLemmas.off, TestLemmas.and_tells}
use Rattle.dspec_deeds.proofs.{TestLemmas.cpu_is_itself}

-- the deed may be next after this list
abbrev pub MayCome : Config → List Deed → Deed → Type 0
MayCome k h d = MayComeBy k (facts k h) d

-- a play at a CPU whose step isn't the push of a sealed batch
pub record IsUnderWay (shape : ℕ → Option Shape) (k : Config) (c : ℕ) (h : List Deed) (me : CpuProgress) : Type 0 where
  pub ranges : start_fault k ≡ None
  pub legal : IsAllowed shape k h
  pub rests : owed h ≡ 0
  pub counts : SpareCounts (seals c h) me.takes me.spare
  pub pushes : (next : Option CallPlace) → PushesNext me.spare next
  pub want : me.want ≤ me.takes + 1

-- a step keeps a play at its own CPU
pub record StepStands (shape : ℕ → Option Shape) (k : Config) (c : ℕ) (h : List Deed) (m : CpuStep) : Type 0 where
  pub goes : GoesOn shape k (Cpu c) m.deeds h
  pub stands : ProgressStands k c (m.deeds ++ h) m.progress
  pub solo_rule : KeepsSoloRule c h m.deeds m.progress.flight m.answer

-- no sealed batch waits for its push outside the step that pushes it
pub pushes_not : (place : Spare) (f : CallPlace) (flight : Option CallPlace) → flight ≡ Some f → f ≢ cpu.ServicePush → PushesNext place flight → (next : Option CallPlace) → PushesNext place next
pushes_not spare.Sealed f flight is other p next = absurd (other (cc (p, is)))
pushes_not place f flight is other p next = tt

-- a deed that seals nothing
seals_stay : (c : ℕ) (d : Deed) (h : List Deed) → seals_now c d ≡ false → seals c (d ∷ h) ≡ seals c h
seals_stay c d h e = rw e (omega arith)

-- whichever way a test falls
pub either_stands : {shape : ℕ → Option Shape} {k : Config} {c : ℕ} {h : List Deed} {x y : CpuStep} (b : Bool) → (b ≡ true → StepStands shape k c h x) → (b ≡ false → StepStands shape k c h y)
    → StepStands shape k c h (if b then x else y)
either_stands true p q = p refl
either_stands false p q = q refl

module _ {shape : ℕ → Option Shape} {k : Config} {c : ℕ} {h : List Deed} {me : CpuProgress} (play : IsUnderWay shape k c h me) where
  none_comes : GoesOn shape k (Cpu c) [] h
  none_comes = record { legal = play.legal; rests = play.rests; by = tt }

  pub one_comes : (d : Deed) → Pays (owed h) d → MayCome k h d → CpuLegal shape k h d → author d h ≡ Cpu c → owing d h ≡ 0 → GoesOn shape k (Cpu c) (d ∷ []) h
  one_comes d pays may own is rests = record
      { legal = ((play.legal.0, (pays, may)), (play.legal.1, own)); rests = rests; by = (tt, subst (λ w. same_actor (Cpu c) w ≡ true) (sym is) (cpu_is_itself c)) }

  -- the call goes on after deeds that seal nothing
  goes_stand : (ds : List Deed) (next : CallPlace) → GoesOn shape k (Cpu c) ds h → seals c (ds ++ h) ≡ seals c h
      → StandsCpu k c (ds ++ h) (record me { flight = Some next; steps = me.steps + 1 }) next → KeepsSoloRule c h ds (Some next) None → StepStands shape k c h (call_goes_on me ds next)
  goes_stand ds next goes same at rules = record {
    goes = goes;
    stands = record { flight = at; counts = subst (λ n. SpareCounts n me.takes me.spare) (sym same) play.counts; pushes = play.pushes (Some next); want = play.want };
    solo_rule = rules;
  }

  -- the call ends after deeds that seal nothing
  pub ends_stand : (ds : List Deed) (a : Answer) → GoesOn shape k (Cpu c) ds h → seals c (ds ++ h) ≡ seals c h → scan k c (ds ++ h) ≡ 0 → KeepsSoloRule c h ds None (Some a)
      → StepStands shape k c h (ends me ds a)
  ends_stand ds a goes same idle rules = record {
    goes = goes;
    stands = record { flight = (idle, refl); counts = subst (λ n. SpareCounts n me.takes me.spare) (sym same) play.counts; pushes = play.pushes None; want = play.want };
    solo_rule = rules;
  }

  pub goes_by_none : (next : CallPlace) → StandsCpu k c h (record me { flight = Some next; steps = me.steps + 1 }) next → StepStands shape k c h (call_goes_on me [] next)
  goes_by_none next at = goes_stand [] next none_comes refl at (none_rules c h (Some next) None)

  pub goes_by : (d : Deed) (next : CallPlace) → Pays (owed h) d → MayCome k h d → CpuLegal shape k h d → author d h ≡ Cpu c → DecidesBeside d h (Some next) → seals_now c d ≡ false
      → StandsCpu k c (d ∷ h) (record me { flight = Some next; steps = me.steps + 1 }) next → StepStands shape k c h (call_goes_on me (d ∷ []) next)
  goes_by d next pays may own is beside seals at =
      goes_stand (d ∷ []) next (one_comes d pays may own is (beside_rests d h (Some next) beside)) (seals_stay c d h seals) at
      (one_rules k c d h (Some next) None (play.legal.0, (pays, may)) is beside)

  pub ends_by_none : (a : Answer) → scan k c h ≡ 0 → StepStands shape k c h (ends me [] a)
  ends_by_none a idle = ends_stand [] a none_comes refl idle (none_rules c h None (Some a))

  pub ends_by : (d : Deed) (a : Answer) → Pays (owed h) d → MayCome k h d → CpuLegal shape k h d → author d h ≡ Cpu c → DecidesBeside d h None → seals_now c d ≡ false
      → scan k c (d ∷ h) ≡ 0 → StepStands shape k c h (ends me (d ∷ []) a)
  ends_by d a pays may own is beside seals idle =
      ends_stand (d ∷ []) a (one_comes d pays may own is (beside_rests d h None beside)) (seals_stay c d h seals) idle (one_rules k c d h None (Some a) (play.legal.0, (pays, may)) is beside)

  pub wears_stand : (a : Answer) → scan k c h ≡ 0 → StepStands shape k c h (wears me a)
  wears_stand a idle = record {
    goes = none_comes;
    stands = record { flight = (idle, refl); counts = play.counts; pushes = play.pushes None; want = play.want };
    solo_rule = none_rules c h None (Some a);
  }

  -- a call that counts begins: it is worn, or the session is stopped, or it goes on
  pub begins_stand : (a b : Answer) (d : Deed) (x : CpuStep) → scan k c h ≡ 0 → (halted h ≡ true → StepStands shape k c h (ends me (d ∷ []) b)) → (halted h ≡ false → StepStands shape k c h x)
      → StepStands shape k c h (if is_worn k c h then wears me a else if halted h then ends me (d ∷ []) b else x)
  begins_stand a b d x idle stopped on = either_stands (is_worn k c h) (λ t. wears_stand a idle) (λ f. either_stands (halted h) stopped on)

-- an identifier out of range is not open
pub out_not_open : (k : Config) (h : List Deed) (id : Speculation) → start_fault k ≡ None → IsSound k h → in_range k id ≡ false → is_open id h ≡ false
out_not_open k h id ranges s out = ⊎_elim
    (λ (t : is_open id h ≡ true).
    let given = (and_tells (opened id h) (is_undecided (verdict id h)) t).0 in
    let r = opened_in_range k h id (set_up k ranges).1 s given in
    let low : 1 ≤ id.slot = r.0 in
    let high : id.slot ≤ k.nspec = r.1 in
    let is : in_range k id ≡ true = grind (arith, nat_tests) in
    off (in_range k id) is out)
    (λ f. f)
    (either_way (is_open id h))

-- what a table attempts at a word tells of it
abbrev pub Tells : ℕ → (SlotState → Speculation → Bool → Act) → Type 0
Tells most table = (w to : SlotState) (id : Speculation) (mine : Bool) → table w id mine ≡ Attempt to → (w.issue ≡ id.issue) × (1 ≤ code_number w.code) × (code_number w.code ≤ most)

module _ {shape : ℕ → Option Shape} {k : Config} {c : ℕ} {h : List Deed} {me : CpuProgress} (play : IsUnderWay shape k c h me) where
  -- the first step of a call on an identifier: where the slot is in range its word is loaded next
  pub asks_stand : (id : Speculation) (load : CallPlace) (a b : Answer) (d : Deed) (y : CpuStep) → scan k c h ≡ 0 → (halted h ≡ true → StepStands shape k c h (ends me (d ∷ []) b))
      → (OnItsWay k c h id → StandsCpu k c h (record me { flight = Some load; steps = me.steps + 1 }) load) → (late c h ≡ false → is_open id h ≡ false → StepStands shape k c h y)
      → StepStands shape k c h (if is_worn k c h then wears me a else if halted h then ends me (d ∷ []) b else if in_range k id then call_goes_on me [] load else y)
  asks_stand id load a b d y idle stopped loads void = begins_stand play a b d _ idle stopped (λ run. either_stands (in_range k id)
      (λ t. goes_by_none play load (loads record { in_range = t; scans_not = idle; early = running_not_late c h run }))
      (λ out. void (running_not_late c h run) (out_not_open k h id play.ranges play.legal.0 out)))

  -- so few steps were made that an exchange that the table attempts now is in time
  abbrev pub IsEarly : (SlotState → Speculation → Bool → Act) → Speculation → Type 0
  IsEarly table id = (to : SlotState) → table (word_at id.slot h) id (is_among c (callers id h)) ≡ Attempt to → me.steps ≤ code_number (word_at id.slot h).code

  pub load_early : {most : ℕ} (table : SlotState → Speculation → Bool → Act) → Tells most table → (id : Speculation) → me.steps ≡ 1 → IsEarly table id
  load_early table tells id first to e = let least = (tells (word_at id.slot h) to id (is_among c (callers id h)) e).1 in omega arith

  -- an exchange that finds the word that it expects, or another
  pub try_stands : {most : ℕ} (table : SlotState → Speculation → Bool → Act) → Tells most table → (id : Speculation) (from : SlotState) (x y : CpuStep)
      → Expects (table from id (is_among c (callers id h))) from id h × TriedBy me.steps from
      → ((to : SlotState) → table from id (is_among c (callers id h)) ≡ Attempt to → table (word_at id.slot h) id (is_among c (callers id h)) ≡ Attempt to → StepStands shape k c h x)
      → (IsEarly table id → StepStands shape k c h y) → StepStands shape k c h (if same_word (word_at id.slot h) from then x else y)
  try_stands table tells id from x y at hit other =
      let mine = is_among c (callers id h) in
      either_stands (same_word (word_at id.slot h) from)
      (λ e. hit at.0.to at.0.attempts (subst (λ w. table w id mine ≡ Attempt at.0.to) (sym (same_word_tells (word_at id.slot h) from e)) at.0.attempts))
      (λ e. other (λ to now.
      let was = (tells from at.0.to id mine at.0.attempts).0 in
      let is = (tells (word_at id.slot h) to id mine now).0 in
      let greater = code_rises from (word_at id.slot h) id.issue was is at.0.rises e in
      let steps = at.1 in
      omega arith))

pub slot_in_range : (k : Config) (id : Speculation) → in_range k id ≡ true → IsSlot k id.slot
slot_in_range k id e =
    let both = and_tells (nat_le 1 id.slot) (nat_le id.slot k.nspec) e in
    let low = both.0 in
    let high = both.1 in
    (grind (arith, nat_tests), grind (arith, nat_tests))

-- what holds of the CPU that decided alone holds of every releaser
pub only_cpu : (c : ℕ) (P : ℕ → Type 0) (alone : Option ℕ) → alone ≡ Some c → P c → (a : ℕ) → releaser alone ≡ Cpu a → P a
only_cpu c P alone is p a e = let by : Cpu c ≡ Cpu a = sym (ap releaser is) ∙ e in let same : c ≡ a = cc in subst P same p
