-- What a step of the consumer makes of its call: it ends the call, or the call goes on with one step more and the same bound; none is worn, and the
-- CPUs' calls in flight and their counts of worn calls stay; and the answer is read off what the call has entered and what its last step finds.
use Rattle.std.proofs.Common.{◌≡◌, ℕ, ◌+◌, ◌*◌, ◌<◌, ◌⊎◌, inl, inr, Bool, true, false, ◌==◌, List, [], ◌∷◌, ◌++◌, length, Option, Some, None, if◌then◌else◌, refl, sym, ap, arith}
use Rattle.std.proofs.lemmas.Bool.Decides.{nat_tests}
use Rattle.std.specs.Prelude.{nat_lt}
use Rattle.dspec_interleaving.specs.Words.{awaits, release_count, answer_of_consumer, consumer_op_of, is_about, SpareCounts, PlayState, progress_of, halted, word_at, ack, seals, ConsumerStep}
use Rattle.dspec_interleaving.specs.Words.{same_word, keeps_on, stops, changes, takes_at, gives_at, next_slot, loads_slot, consumer_step, clean_bound, is_told_worn, is_worn_answer, Config, Answer}
use Rattle.dspec_interleaving.specs.Words.{ConsumerOp, Deed, Release}
use Rattle.dspec_interleaving.specs.declared.flight.{ConsumerFlight.ConsumerFlight, ConsumerProgress.ConsumerProgress, CpuProgress.CpuProgress, Spare.Spare}
use Rattle.dspec_deeds.specs.declared.calls.Answer.TheVariants as answer
use Rattle.dspec_deeds.specs.declared.calls.ConsumerOp.TheVariants as consumer_op
use Rattle.dspec_interleaving.specs.declared.flight.ConsumerFlight.TheVariants as consumer
use Rattle.dspec_interleaving.specs.declared.flight.Spare.TheVariants as spare
use Rattle.dspec_interleaving.proofs.{OwnTelling.Tells, Replacing.put, StepEnds.HasClosed, StepEnds.HasKeptOn}

-- what the consumer's call in flight has entered, the latest first; the CPU that it is about exists
abbrev pub OwnCleaned : Config → ConsumerFlight → List Deed → Type 0
OwnCleaned k (consumer.Begun o) ds = (ds ≡ []) × (is_about k o ≡ true)
OwnCleaned k (consumer.CleanLoad s n) ds = release_count ds ≡ n
OwnCleaned k (consumer.CleanAck s w c n) ds = release_count ds ≡ n
OwnCleaned k (consumer.CleanReap s w n) ds = release_count ds ≡ n

-- the same, if a call is in flight
abbrev pub OwnsClean : Config → Option ConsumerFlight → List Deed → Type 0
OwnsClean k None ds = Unit {0}
OwnsClean k (Some f) ds = OwnCleaned k f ds

-- what a step makes of a call that had entered those deeds
pub record CleanReads (st : PlayState) (o : ConsumerOp) (own : List Deed) (m : ConsumerStep) : Type 0 where
  pub holds : OwnsClean st.config m.side.flight (m.deeds ++ own)
  pub reads : Tells m.answer (answer_of_consumer o st (m.deeds ++ own))

-- each CPU's counts of batches go by where its second buffer is
abbrev pub CountsStand : PlayState → Type 0
CountsStand st = (c : ℕ) → c < st.config.cpus → SpareCounts (seals c st.deeds) (progress_of st.progresses c).takes (progress_of st.progresses c).spare

module _ (st : PlayState) where
  abbrev Leaves : List CpuProgress → Type 0
  Leaves new = (c : ℕ) → c < length st.progresses → ((progress_of new c).flight ≡ (progress_of st.progresses c).flight) × ((progress_of new c).worn ≡ (progress_of st.progresses c).worn)

  -- what a step makes of a call whose bound is most; where Q says so, its deeds were own
  abbrev Does : Type 0 → List Deed → ℕ → ConsumerOp → ConsumerStep → Type 0
  Does Q own most o m = (HasClosed m ⊎ HasKeptOn st.config st.side most o m) × (is_told_worn m.answer ≡ false) × Leaves m.progresses × (Q → CleanReads st o own m)

  either : {Q : Type 0} {own : List Deed} {most : ℕ} {o : ConsumerOp} (b : Bool) {x y : ConsumerStep} → Does Q own most o x → Does Q own most o y → Does Q own most o (if b then x else y)
  either true p q = p
  either false p q = q

  -- a call ends
  closed : {Q : Type 0} {own : List Deed} {most : ℕ} {o : ConsumerOp} {ds : List Deed} {a : Answer} → is_worn_answer a ≡ false → (Q → a ≡ answer_of_consumer o st (ds ++ own))
      → Does Q own most o (stops st.config st.deeds st.side st.progresses ds a)
  closed {a = a} unworn is = (inl record { told = a; answers = refl; idle = refl }, unworn, λ c lt. (refl, refl), λ q. record { holds = tt; reads = is q })

  -- a call ends, and changes a CPU's side
  changed : {Q : Type 0} {own : List Deed} {most : ℕ} {o : ConsumerOp} {a : Answer} (c : ℕ) (me : CpuProgress) → me.flight ≡ (progress_of st.progresses c).flight
      → me.worn ≡ (progress_of st.progresses c).worn → is_worn_answer a ≡ false → (Q → a ≡ answer_of_consumer o st own) → Does Q own most o (changes st.config st.deeds st.side st.progresses c me a)
  changed {a = a} c me flight worn unworn is = (
    inl record { told = a; answers = refl; idle = refl },
    unworn,
    put (length st.progresses) (λ b (x : CpuProgress). (x.flight ≡ (progress_of st.progresses b).flight) × (x.worn ≡ (progress_of st.progresses b).worn)) st.progresses c me refl
        (λ b lt other. (refl, refl)) (λ lt. (flight, worn)),
    λ q. record { holds = tt; reads = is q },
  )

  -- a call goes on
  kept : {Q : Type 0} {own : List Deed} {ds : List Deed} (f : ConsumerFlight) → (Q → OwnCleaned st.config f (ds ++ own))
      → Does Q own (clean_bound st.config f) (consumer_op_of f) (keeps_on st.config st.deeds st.side st.progresses ds f)
  kept f owns =
      (inr record { next = f; call = refl; answers = refl; flight = refl; bound = refl; counted = refl }, refl, λ c lt. (refl, refl), λ q. record { holds = owns q; reads = tt })

  next_does : {Q : Type 0} {own : List Deed} (s n : ℕ) (ds : List Deed) → (Q → release_count (ds ++ own) ≡ n)
      → Does Q own (st.config.nspec * (st.config.cpus + 2)) consumer_op.Clean (next_slot st.config st.deeds st.side st.progresses s ds n)
  next_does s n ds is = either (s == st.config.nspec) (closed refl (λ q. ap (λ i. answer.Cleaned i) (sym (is q)))) (kept (consumer.CleanLoad (s + 1) n) is)

  load_does : {Q : Type 0} {own : List Deed} (s n : ℕ) → (Q → release_count own ≡ n)
      → Does Q own (st.config.nspec * (st.config.cpus + 2)) consumer_op.Clean (loads_slot st.config st.deeds st.side st.progresses s n)
  load_does s n is = either (awaits (word_at s st.deeds).code) (kept (consumer.CleanAck s (word_at s st.deeds) 0 n) is) (next_does s n [] is)

  takes_does : {own : List Deed} (c : ℕ) (place : Spare) → (progress_of st.progresses c).spare ≡ place
      → Does (SpareCounts (seals c st.deeds) (progress_of st.progresses c).takes place) own 1 (consumer_op.Take c)
      (takes_at st.config st.deeds st.side st.progresses c (progress_of st.progresses c) place)
  takes_does c spare.Sealed is = closed refl (λ n. rw is refl)
  takes_does c spare.Handed is =
      changed c _ refl refl refl (λ n. let more : nat_lt (progress_of st.progresses c).takes (seals c st.deeds) ≡ true = grind (arith, nat_tests) in rw (is, more) refl)
  takes_does c place is = closed refl (λ n. let no : nat_lt (progress_of st.progresses c).takes (seals c st.deeds) ≡ false = grind (arith, nat_tests) in rw (is, no) refl)

  gives_does : {Q : Type 0} {own : List Deed} (c : ℕ) (place : Spare) → (progress_of st.progresses c).spare ≡ place
      → Does Q own 1 (consumer_op.GiveBack c) (gives_at st.config st.deeds st.side st.progresses c (progress_of st.progresses c) place)
  gives_does c spare.Out is = changed c _ refl refl refl (λ q. rw is refl)
  gives_does c place is = closed refl (λ q. rw is refl)

  -- a step of the consumer's call in flight
  step_does : (f : ConsumerFlight) (own : List Deed)
      → Does (CountsStand st × OwnCleaned st.config f own) own (clean_bound st.config f) (consumer_op_of f) (consumer_step st.config st.deeds st.side st.progresses f)
  step_does (consumer.Begun (consumer_op.Ask c)) own = changed c _ refl refl refl (λ q. refl)
  step_does (consumer.Begun (consumer_op.Take c)) own =
      let did = takes_does {own = own} c (progress_of st.progresses c).spare refl in
      (did.0, did.1, did.2, λ q. did.3 (q.0 c (let about = q.1.1 in grind (arith, nat_tests))))
  step_does (consumer.Begun (consumer_op.GiveBack c)) own = gives_does c (progress_of st.progresses c).spare refl
  step_does (consumer.Begun consumer_op.Clean) own = load_does 1 0 (λ q. rw q.1.0 refl)
  step_does (consumer.Begun consumer_op.Stop) own = either (halted st.deeds) (closed refl (λ q. refl)) (closed refl (λ q. refl))
  step_does (consumer.CleanLoad s n) own = load_does s n (λ q. q.1)
  step_does (consumer.CleanAck s w c n) own = either (nat_lt w.issue (ack c s st.deeds))
      (either (c + 1 == st.config.cpus) (kept (consumer.CleanReap s w n) (λ q. q.1)) (kept (consumer.CleanAck s w (c + 1) n) (λ q. q.1)))
      (next_does s n [] (λ q. q.1))
  step_does (consumer.CleanReap s w n) own =
      either (same_word (word_at s st.deeds) w) (next_does s (n + 1) (Release s ∷ []) (λ q. ap (λ i. i + 1) q.1)) (next_does s n [] (λ q. q.1))

  -- its answer is read off what the call entered
  pub consumer_step_reads : (f : ConsumerFlight) (own : List Deed) → CountsStand st → OwnCleaned st.config f own
      → CleanReads st (consumer_op_of f) own (consumer_step st.config st.deeds st.side st.progresses f)
  consumer_step_reads f own counts was = (step_does f own).3 (counts, was)

module _ (k : Config) (h : List Deed) (side : ConsumerProgress) (all : List CpuProgress) where
  abbrev found : PlayState
  found = record { config = k; deeds = h; progresses = all; side = side }

  -- a step of the consumer ends its call, or the call goes on
  pub clean_advances : (f : ConsumerFlight) → HasClosed (consumer_step k h side all f) ⊎ HasKeptOn k side (clean_bound k f) (consumer_op_of f) (consumer_step k h side all f)
  clean_advances f = (step_does found f []).0

  -- no call of the consumer is worn
  pub consumer_unworn : (f : ConsumerFlight) → is_told_worn (consumer_step k h side all f).answer ≡ false
  consumer_unworn f = (step_does found f []).1

  module _ (count : length all ≡ k.cpus) where
    abbrev pub SameFlights : List CpuProgress → Type 0
    SameFlights new = (c : ℕ) → c < k.cpus → (progress_of new c).flight ≡ (progress_of all c).flight

    -- a step of the consumer leaves every CPU's call in flight, and its count of worn calls
    pub flights_stay : (f : ConsumerFlight) → SameFlights (consumer_step k h side all f).progresses
    flights_stay f c lt = ((step_does found f []).2 c (omega arith)).0

    pub worn_stays : (f : ConsumerFlight) (c : ℕ) → c < k.cpus → (progress_of (consumer_step k h side all f).progresses c).worn ≡ (progress_of all c).worn
    worn_stays f c lt = ((step_does found f []).2 c (omega arith)).1
