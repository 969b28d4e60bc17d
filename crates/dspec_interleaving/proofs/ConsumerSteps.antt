-- A step of the consumer keeps its own side and every CPU's side.
use Rattle.std.proofs.Common.{◌≡◌, ℕ, ◌+◌, ◌-◌, ◌*◌, ◌<◌, ◌≤◌, true, false, ◌==◌, List, [], ◌∷◌, ◌++◌, length, Option, Some, None, refl, sym, ap, ◌∙◌, subst, ⊎_elim, inl, inr, arith}
use Rattle.std.proofs.lemmas.{Bool.Decides.nat_tests, List.length-set}
use Rattle.std.specs.Prelude.{nat_lt}
use Rattle.dspec_interleaving.specs.Words.{Shape, awaits, SlotState, halted, issue, present, settled, releaser, author, owed, word_at, ack, seals, IsAllowed, ConsumerStep, same_word, consumer_step}
use Rattle.dspec_interleaving.specs.Words.{consumer_begun, changes, stops, takes_at, gives_at, next_slot, loads_slot, loads_ack, reaps, start_fault, IsSlot, StandsProgress, SettledBelow}
use Rattle.dspec_interleaving.specs.Words.{StandsConsumer, StandsState, SpareCounts, ProgressStands, progress_of, Config, Consumer, Answer, ConsumerOp, Deed, Release, Halt}
use Rattle.dspec_interleaving.specs.declared.flight.{CallPlace.CallPlace, ConsumerFlight.ConsumerFlight, ConsumerProgress.ConsumerProgress, CpuProgress.CpuProgress, Spare.Spare}
use Rattle.dspec_deeds.specs.declared.calls.Answer.TheVariants as answer
use Rattle.dspec_deeds.specs.declared.calls.ConsumerOp.TheVariants as consumer_op
use Rattle.dspec_interleaving.specs.declared.flight.ConsumerFlight.TheVariants as consumer
use Rattle.dspec_interleaving.specs.declared.flight.CallPlace.TheVariants as cpu
use Rattle.dspec_interleaving.specs.declared.flight.Spare.TheVariants as spare
use Rattle.dspec_deeds.proofs.{Acked.acked, Awaiting.awaiting, Going.GoesOn, SetUp.set_up, TestLemmas.either_way, TestLemmas.same_number, TestLemmas.numbers_differ}
use Rattle.dspec_interleaving.proofs.{OthersStand.others_stand, Replacing.put}

-- a side's flight stands where it keeps its steps, and a sealed buffer stays one
reseated : (k : Config) (c : ℕ) (h : List Deed) (me : CpuProgress) (p : Spare) (n t : ℕ) (f : Option CallPlace) → (me.spare ≡ spare.Sealed → p ≡ spare.Sealed) → StandsProgress k c h me f
    → StandsProgress k c h (record me { spare = p; want = n; takes = t }) f
reseated k c h me p n t (Some cpu.ServicePush) keeps st = (st.0, st.1, keeps st.2)
reseated k c h me p n t f keeps st = st

-- a CPU's progress once the consumer has asked, taken or given back
module _ (k : Config) (c : ℕ) (h : List Deed) (me : CpuProgress) (st : ProgressStands k c h me) where
  asked_stands : ProgressStands k c h (record me { want = me.takes + 1 })
  asked_stands = record {
    flight = reseated k c h me me.spare (me.takes + 1) me.takes me.flight (λ e. e) st.flight;
    counts = st.counts;
    pushes = st.pushes;
    want = omega arith;
  }

  taken_stands : me.spare ≡ spare.Handed → ProgressStands k c h (record me { spare = spare.Out; takes = me.takes + 1 })
  taken_stands e = record {
    flight = reseated k c h me spare.Out me.want (me.takes + 1) me.flight (λ (s : me.spare ≡ spare.Sealed). absurd (cc (e, s))) st.flight;
    counts = (let n : seals c h ≡ me.takes + 1 = subst (SpareCounts (seals c h) me.takes) e st.counts in n);
    pushes = tt;
    want = (let le = st.want in omega arith);
  }

  given_stands : me.spare ≡ spare.Out → ProgressStands k c h (record me { spare = spare.GivenBack })
  given_stands e = record {
    flight = reseated k c h me spare.GivenBack me.want me.takes me.flight (λ (s : me.spare ≡ spare.Sealed). absurd (cc (e, s))) st.flight;
    counts = (let n : seals c h ≡ me.takes = subst (SpareCounts (seals c h) me.takes) e st.counts in n);
    pushes = tt;
    want = st.want;
  }

-- every CPU's side stands
abbrev pub AllStand : Config → List Deed → List CpuProgress → Type 0
AllStand k h all = (c : ℕ) → c < k.cpus → ProgressStands k c h (progress_of all c)

-- what a step of the consumer keeps
pub record ConsumerKeeps (shape : ℕ → Option Shape) (k : Config) (h : List Deed) (m : ConsumerStep) : Type 0 where
  pub goes : GoesOn shape k Consumer m.deeds h
  pub side : StandsState k (m.deeds ++ h) m.side m.side.flight
  pub count : length m.progresses ≡ k.cpus
  pub stand : AllStand k (m.deeds ++ h) m.progresses

-- a slot's share of a clean's steps
pub share : (s q : ℕ) → 1 ≤ s → (s - 1) * q + q ≡ s * q
share s q one = let t : s ≡ (s - 1) + 1 = omega arith in sym (ap (λ n. n * q) t ∙ more (s - 1) q)
  where
    more : (n q : ℕ) → (n + 1) * q ≡ n * q + q
    more n q = grind arith

module _ (shape : ℕ → Option Shape) (k : Config) (h : List Deed) (side : ConsumerProgress) (all : List CpuProgress) (fine : start_fault k ≡ None) (legal : IsAllowed shape k h) (rests : owed h ≡ 0)
    (count : length all ≡ k.cpus) (stand : AllStand k h all) where
  none : GoesOn shape k Consumer [] h
  none = record { legal = legal; rests = rests; by = tt }

  all_stand : (ds : List Deed) → GoesOn shape k Consumer ds h → AllStand k (ds ++ h) all
  all_stand ds goes c lt = others_stand shape k Consumer c ds h (progress_of all c) rests goes refl lt (stand c lt)

  ended : (ds : List Deed) (a : Answer) → GoesOn shape k Consumer ds h → ConsumerKeeps shape k h (stops k h side all ds a)
  ended ds a goes = record { goes = goes; side = refl; count = count; stand = all_stand ds goes }

  changed : (c : ℕ) (me : CpuProgress) (a : Answer) → (c < k.cpus → ProgressStands k c h me) → ConsumerKeeps shape k h (changes k h side all c me a)
  changed c me a st = record { goes = none; side = refl; count = length-set all c me ∙ count; stand = put k.cpus (λ b x. ProgressStands k b h x) all c me count (λ b lt apart. stand b lt) st }

  took : (c : ℕ) (p : Spare) → (progress_of all c).spare ≡ p → ConsumerKeeps shape k h (takes_at k h side all c (progress_of all c) p)
  took c spare.Handed e = changed c _ _ (λ lt. taken_stands k c h (progress_of all c) (stand c lt) e)
  took c place e = ended [] answer.TookNone none

  gave : (c : ℕ) (p : Spare) → (progress_of all c).spare ≡ p → ConsumerKeeps shape k h (gives_at k h side all c (progress_of all c) p)
  gave c spare.Out e = changed c _ _ (λ lt. given_stands k c h (progress_of all c) (stand c lt) e)
  gave c place e = ended [] (answer.GaveBack false) none

  stopped : ConsumerKeeps shape k h (consumer_begun k h side all consumer_op.Stop)
  stopped = ⊎_elim
      (λ (t : halted h ≡ true). rw t (ended [] answer.StopDone none))
      (λ (f : halted h ≡ false). rw f (ended (Halt ∷ []) answer.StopDone record { legal = ((legal.0, (rests, f)), (legal.1, tt)); rests = refl; by = (tt, refl) }))
      (either_way (halted h))

  -- after a slot of a clean
  advanced : (s n : ℕ) (ds : List Deed) → IsSlot k s → n ≤ s → side.steps + 1 ≤ s * (k.cpus + 2) → GoesOn shape k Consumer ds h → ConsumerKeeps shape k h (next_slot k h side all s ds n)
  advanced s n ds slot le few goes = ⊎_elim
      (λ (t : (s == k.nspec) ≡ true). rw t (ended ds (answer.Cleaned n) goes))
      (λ (f : (s == k.nspec) ≡ false).
      let not_last = numbers_differ s k.nspec f in
      let top = slot.1 in
      let next : IsSlot k (s + 1) = (omega arith, omega arith) in
      let few' : side.steps + 1 ≤ (s + 1 - 1) * (k.cpus + 2) = subst (λ x. side.steps + 1 ≤ x * (k.cpus + 2)) (let e : s ≡ s + 1 - 1 = omega arith in e) few in
      rw f record { goes = goes; side = (next, omega arith, few'); count = count; stand = all_stand ds goes })
      (either_way (s == k.nspec))

  loaded : (s n : ℕ) → IsSlot k s → n < s → side.steps ≤ (s - 1) * (k.cpus + 2) → ConsumerKeeps shape k h (loads_slot k h side all s n)
  loaded s n slot lt few = ⊎_elim
      (λ (t : awaits (word_at s h).code ≡ true).
      rw t record { goes = none; side = (slot, lt, some_cpu, (refl, t, λ c no. absurd (omega arith)), omega arith); count = count; stand = all_stand [] none })
      (λ (f : awaits (word_at s h).code ≡ false). rw f (advanced s n [] slot (omega arith) (let e = share s (k.cpus + 2) slot.0 in omega arith) none))
      (either_way (awaits (word_at s h).code))
    where
      some_cpu : 0 < k.cpus
      some_cpu = (set_up k fine).0

  acknowledged : (s : ℕ) (w : SlotState) (c n : ℕ) → StandsConsumer k h side (consumer.CleanAck s w c n) → ConsumerKeeps shape k h (loads_ack k h side all s w c n)
  acknowledged s w c n st = ⊎_elim
      (λ (t : nat_lt w.issue (ack c s h) ≡ true).
      let now : issue s h ≡ w.issue = ap (λ (x : SlotState). x.issue) st.3.0 in
      let past : issue s h + 1 ≤ ack c s h = grind (arith, nat_tests) in
      let this = acked k c s h legal.0 past in
      let below : (b : ℕ) → b < c + 1 → settled b (present s h) h ≡ true = λ b lt. ⊎_elim
      (λ (e : (b == c) ≡ true). subst (λ x. settled x (present s h) h ≡ true) (sym (same_number b c e)) this)
      (λ (e : (b == c) ≡ false). let apart = numbers_differ b c e in st.3.2 b (omega arith))
      (either_way (b == c)) in
      rw t (⊎_elim
      (λ (l : (c + 1 == k.cpus) ≡ true).
      let last = same_number (c + 1) k.cpus l in
      let few = st.4 in
      rw l record { goes = none; side = (st.0, st.1, (st.3.0, st.3.1, λ b lt. below b (omega arith)), omega arith); count = count; stand = all_stand [] none })
      (λ (l : (c + 1 == k.cpus) ≡ false).
      let more = numbers_differ (c + 1) k.cpus l in
      let lt = st.2 in
      let few = st.4 in
      rw l record { goes = none; side = (st.0, st.1, omega arith, (st.3.0, st.3.1, below), omega arith); count = count; stand = all_stand [] none })
      (either_way (c + 1 == k.cpus))))
      (λ (f : nat_lt w.issue (ack c s h) ≡ false).
      let lt = st.1 in let few = st.4 in let c_lt = st.2 in
      rw f (advanced s n [] st.0 (omega arith) (let e = share s (k.cpus + 2) st.0.0 in omega arith) none))
      (either_way (nat_lt w.issue (ack c s h)))

  -- the release of a slot that every CPU has settled
  released_by : (s : ℕ) (w : SlotState) → SettledBelow k.cpus s w h → GoesOn shape k Consumer (Release s ∷ []) h
  released_by s w st =
      let is = awaiting k s h w.code legal.0 rests (ap (λ (x : SlotState). x.code) st.0) st.1 in
      let owner : author (Release s) h ≡ Consumer = ap releaser is.alone in
      record {
        legal = ((legal.0, (inl rests, ((is.ruled, inr st.2), λ c by. absurd (cc (by, owner))))), (legal.1, λ c by. absurd (cc (by, owner))));
        rests = refl;
        by = (tt, rw is.alone refl);
      }

  reaped : (s : ℕ) (w : SlotState) (n : ℕ) → StandsConsumer k h side (consumer.CleanReap s w n) → ConsumerKeeps shape k h (reaps k h side all s w n)
  reaped s w n st = ⊎_elim
      (λ (t : same_word (word_at s h) w ≡ true). rw t (advanced s (n + 1) (Release s ∷ []) st.0 (let lt = st.1 in omega arith) few (released_by s w st.2)))
      (λ (f : same_word (word_at s h) w ≡ false). rw f (advanced s n [] st.0 (let lt = st.1 in omega arith) few none))
      (either_way (same_word (word_at s h) w))
    where
      few : side.steps + 1 ≤ s * (k.cpus + 2)
      few = let e = share s (k.cpus + 2) st.0.0 in let le = st.3 in omega arith

  begun : (o : ConsumerOp) → side.steps ≡ 0 → ConsumerKeeps shape k h (consumer_begun k h side all o)
  begun (consumer_op.Ask c) e = changed c _ _ (λ lt. asked_stands k c h (progress_of all c) (stand c lt))
  begun (consumer_op.Take c) e = took c (progress_of all c).spare refl
  begun (consumer_op.GiveBack c) e = gave c (progress_of all c).spare refl
  begun consumer_op.Clean e = loaded 1 0 (let one = (set_up k fine).1 in (omega arith, one)) (omega arith) (omega arith)
  begun consumer_op.Stop e = stopped

  -- a step of the consumer keeps its own side and every CPU's side
  pub consumer_keeps : (f : ConsumerFlight) → StandsState k h side (Some f) → ConsumerKeeps shape k h (consumer_step k h side all f)
  consumer_keeps (consumer.Begun o) st = begun o st
  consumer_keeps (consumer.CleanLoad s n) st = loaded s n st.0 st.1 st.2
  consumer_keeps (consumer.CleanAck s w c n) st = acknowledged s w c n st
  consumer_keeps (consumer.CleanReap s w n) st = reaped s w n st
