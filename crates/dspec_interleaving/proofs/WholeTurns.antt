-- A schedule of whole calls, one after another, plays what the definition of whole calls says.
use Rattle.std.proofs.Common.{◌≡◌, ℕ, zero, suc, ◌+◌, ◌<◌, ◌≤◌, Bool, true, not, List, [], ◌∷◌, ◌++◌, map, Option, Some, None, if◌then◌else◌, refl, sym, ap, ◌∙◌, subst, arith, append_assoc}
use Rattle.std.proofs.lemmas.{Bool.Decides.nat_tests, List.append-nil}
use Rattle.std.specs.Prelude.{nat_lt, is_none}
use Rattle.dspec_interleaving.specs.Words.{Shape, Record, op_bound, consumer_bound, most_steps, record_passes, is_about, PlayState, progress_of, start_fault, Stepped, begin_consumer, at_start}
use Rattle.dspec_interleaving.specs.Words.{EndedCall, Playing, IsPlayingAt, begun_consumer, playing_at_start, ran, turned, all_turned, cpus_ran, all_ran, played, begin_refusal, or_else, setup_fault}
use Rattle.dspec_interleaving.specs.Words.{refusal, turn_fault, play_fault, Call, of_cpu, of_consumer, once_called, after_all, whole_answer, IsCall, AreCalls, turn_of, actor_of, operation_of}
use Rattle.dspec_interleaving.specs.Words.{HasAcceptedRecord, AreAccepted, all_ended, Config, StartFault, Answer, ConsumerOp}
use Rattle.dspec_interleaving.specs.declared.{flight.CallPlace.CallPlace, flight.ConsumerFlight.ConsumerFlight, outcome.PlayFault.PlayFault}
use Rattle.dspec_deeds.specs.declared.calls.Actor.TheVariants as actor
use Rattle.dspec_deeds.specs.declared.calls.ConsumerOp.TheVariants as consumer_op
use Rattle.dspec_interleaving.specs.declared.flight.ConsumerFlight.TheVariants as consumer
use Rattle.dspec_interleaving.specs.declared.refusal.BeginFault.TheVariants as begin_fault
use Rattle.dspec_deeds.proofs.SetUp.{set_up}
use Rattle.dspec_interleaving.proofs.{Bounded.op_within, Bounded.clean_within, Coherence.begin_consumer_coherent, PlayerMoves.ended_stays, WholeCalls.cpu_whole, WholeCalls.consumer_whole}
use Rattle.dspec_interleaving.proofs.{WholeEnds.EndsAs, WholeEnds.ends_as, WholeEnds.cpu_ends_as, WholeStates.IsResting, WholeStates.still_calls, WholeStates.rest_all, WholeStates.after_rests}
use Rattle.dspec_interleaving.proofs.{WholeStates.start_rests, WholeStates.apart}

-- a call with its answer
abbrev pub ended_as : (ℕ → Option Shape) → Call → PlayState → EndedCall
ended_as shape x st = (actor_of x, operation_of x, whole_answer shape x st)

-- what is answered twice is the same
same_answer : (a b : Answer) → ◌≡◌ {A = Option Answer} (Some a) (Some b) → a ≡ b
same_answer a b e = cc (e)

module _ (shape : ℕ → Option Shape) where
  -- a play whose last call has ended so
  noted_at : (x : Call) (st : PlayState) (es : List EndedCall) (q : Playing) (s : Stepped) → EndsAs (actor_of x) (operation_of x) es q s
      → s ≡ record { state = once_called shape x st; answer = Some (whole_answer shape x st) } → IsPlayingAt (once_called shape x st) (es ++ (ended_as shape x st ∷ [])) q
  noted_at x st es q s e is = record {
    state = sym (ap (λ (t : Stepped). t.state) is) ∙ e.at.state;
    told = ap (λ (a : Answer). es ++ ((actor_of x, operation_of x, a) ∷ [])) (same_answer _ _ (sym (ap (λ (t : Stepped). t.answer) is) ∙ e.answers)) ∙ e.at.told;
  }

  -- one turn
  turn_at : (x : Call) (st : PlayState) (es : List EndedCall) (p : Playing) → IsPlayingAt st es p → IsResting shape st → IsCall st.config x
      → IsPlayingAt (once_called shape x st) (es ++ (ended_as shape x st ∷ [])) (turned shape (turn_of x) p)
  turn_at (of_cpu c o) st es p at rest lt =
      let most : op_bound st.config o ≤ most_steps p.state.config (actor.Cpu c) =
      subst (λ (s : PlayState). op_bound st.config o ≤ most_steps s.config (actor.Cpu c)) at.state (op_within st.config (set_up st.config rest.coherent.ranges).1 o) in
      noted_at (of_cpu c o) st es _ _ (cpu_ends_as shape (most_steps p.state.config (actor.Cpu c)) c o es st p at rest.coherent lt (rest.idle c lt) most)
      (cpu_whole shape st rest.coherent c o (most_steps p.state.config (actor.Cpu c)) lt (rest.idle c lt) most)
  turn_at (of_consumer o) st es p at rest there =
      let most : consumer_bound st.config o ≤ most_steps p.state.config actor.Consumer =
      subst (λ (s : PlayState). consumer_bound st.config o ≤ most_steps s.config actor.Consumer) at.state
      (clean_within st.config (set_up st.config rest.coherent.ranges).1 (Some (consumer.Begun o))) in
      noted_at (of_consumer o) st es _ _
      (ends_as shape (most_steps p.state.config actor.Consumer) actor.Consumer es (begin_consumer o st) (begun_consumer o p) record { state = ap (begin_consumer o) at.state; told = at.told }
      (begin_consumer_coherent shape st o rest.coherent) refl refl (omega arith))
      (consumer_whole shape st rest.coherent o (most_steps p.state.config actor.Consumer) (apart shape st rest o there) most)

  -- turns, one after another
  turns_at : (xs : List Call) (st : PlayState) (es : List EndedCall) (p : Playing) → IsPlayingAt st es p → IsResting shape st → AreCalls st.config xs
      → IsPlayingAt (after_all shape xs st) (es ++ all_ended shape xs st) (all_turned shape (map turn_of xs) p)
  turns_at [] st es p at rest all = record { state = at.state; told = append-nil es ∙ at.told }
  turns_at (x ∷ xs) st es p at rest all =
      subst (λ l. IsPlayingAt (after_all shape xs (once_called shape x st)) l (all_turned shape (map turn_of xs) (turned shape (turn_of x) p)))
      (append_assoc es (ended_as shape x st ∷ []) (all_ended shape xs (once_called shape x st)))
      (turns_at xs (once_called shape x st) (es ++ (ended_as shape x st ∷ [])) (turned shape (turn_of x) p) (turn_at x st es p at rest all.0)
      (after_rests shape st rest x all.0) (still_calls shape x xs st all.1))

  -- where no call of a CPU is in flight there is nothing to run
  cpus_stay : (n : ℕ) (p : Playing) → IsResting shape p.state → n ≤ p.state.config.cpus → cpus_ran shape n p ≡ p
  cpus_stay zero p rest le = refl
  cpus_stay (suc n) p rest le =
      let lt : n < p.state.config.cpus = omega arith in
      let fewer : n ≤ p.state.config.cpus = omega arith in
      ap (λ (q : Playing). ran shape (actor.Cpu n) q) (cpus_stay n p rest fewer)
      ∙ (ended_stays shape (most_steps p.state.config (actor.Cpu n)) (actor.Cpu n) p (ap (λ (f : Option CallPlace). is_none f) (rest.idle n lt)))

  -- the same, of all actors
  all_stay : (p : Playing) → IsResting shape p.state → all_ran shape p ≡ p
  all_stay p rest =
      let le : p.state.config.cpus ≤ p.state.config.cpus = omega arith in
      ap (λ (q : Playing). ran shape actor.Consumer q) (cpus_stay p.state.config.cpus p rest le)
      ∙ ended_stays shape (most_steps p.state.config actor.Consumer) actor.Consumer p (ap (λ (f : Option ConsumerFlight). is_none f) rest.side)

  -- a whole play is where the definition of whole calls says, with the answers that it says
  pub whole_play : (k : Config) (xs : List Call) → start_fault k ≡ None → AreCalls k xs
      → IsPlayingAt (after_all shape xs (at_start k)) (all_ended shape xs (at_start k)) (played shape k (map turn_of xs))
  whole_play k xs fine all =
      let rest = start_rests shape k fine in
      let at : IsPlayingAt (after_all shape xs (at_start k)) (all_ended shape xs (at_start k)) (all_turned shape (map turn_of xs) (playing_at_start k)) =
      turns_at xs (at_start k) [] (playing_at_start k) record { state = refl; told = refl } rest all in
      subst (λ (q : Playing). IsPlayingAt (after_all shape xs (at_start k)) (all_ended shape xs (at_start k)) q)
      (sym (all_stay (all_turned shape (map turn_of xs) (playing_at_start k)) (subst (λ s. IsResting shape s) at.state (rest_all shape xs (at_start k) all rest)))) at

module _ (shape : ℕ → Option Shape) (accepts : Record → Bool) where
  -- the CPU that a call of the consumer is about is there
  about : (k : Config) (o : ConsumerOp) → IsCall k (of_consumer o) → is_about k o ≡ true
  about k (consumer_op.Ask c) lt = grind (arith, nat_tests)
  about k (consumer_op.Take c) lt = grind (arith, nat_tests)
  about k (consumer_op.GiveBack c) lt = grind (arith, nat_tests)
  about k o lt = refl

  -- a call may begin where none is in flight
  unrefused : (i : ℕ) (x : Call) (st : PlayState) → IsResting shape st → IsCall st.config x → HasAcceptedRecord accepts x → refusal shape accepts i (turn_of x) st ≡ None
  unrefused i (of_cpu c o) st rest lt fits =
      let there : nat_lt c st.config.cpus ≡ true = grind (arith, nat_tests) in
      ap (λ (b : Bool). begin_refusal i (if not b then Some begin_fault.NoSuchActor else if not (is_none (progress_of st.progresses c).flight) then Some
      begin_fault.Busy else if not (record_passes accepts o) then Some begin_fault.BadRecord else None)) there
      ∙ (ap (λ (f : Option CallPlace). begin_refusal i (if not (is_none f) then Some begin_fault.Busy else if not (record_passes accepts o) then Some begin_fault.BadRecord else None)) (rest.idle c lt)
      ∙ ap (λ (b : Bool). begin_refusal i (if not b then Some begin_fault.BadRecord else None)) fits)
  unrefused i (of_consumer o) st rest there tt =
      ap (λ (b : Bool). begin_refusal i (if not b then Some begin_fault.NoSuchActor else if not (is_none st.side.flight) then Some begin_fault.Busy else None)) (about st.config o there)
      ∙ ap (λ (f : Option ConsumerFlight). begin_refusal i (if not (is_none f) then Some begin_fault.Busy else None)) rest.side

  -- turns, one after another, are refused nowhere
  turns_unrefused : (i : ℕ) (xs : List Call) (st : PlayState) (es : List EndedCall) (p : Playing) → IsPlayingAt st es p → IsResting shape st → AreCalls st.config xs
      → AreAccepted accepts xs → turn_fault shape accepts i (map turn_of xs) p ≡ None
  turns_unrefused i [] st es p at rest all fit = refl
  turns_unrefused i (x ∷ xs) st es p at rest all fit =
      ap (λ (f : Option PlayFault). or_else f (turn_fault shape accepts (i + 1) (map turn_of xs) (turned shape (turn_of x) p)))
      (subst (λ s. refusal shape accepts i (turn_of x) s ≡ None) at.state (unrefused i x st rest all.0 fit.0))
      ∙ turns_unrefused (i + 1) xs (once_called shape x st) (es ++ (ended_as shape x st ∷ [])) (turned shape (turn_of x) p) (turn_at shape x st es p at rest all.0)
      (after_rests shape st rest x all.0) (still_calls shape x xs st all.1) fit.1

  -- a whole play is refused nowhere
  pub whole_unrefused : (k : Config) (xs : List Call) → start_fault k ≡ None → AreCalls k xs → AreAccepted accepts xs → play_fault shape accepts k (map turn_of xs) ≡ None
  whole_unrefused k xs fine all fit =
      ap (λ (f : Option StartFault). or_else (setup_fault f) (turn_fault shape accepts 0 (map turn_of xs) (playing_at_start k))) fine
      ∙ turns_unrefused 0 xs (at_start k) [] (playing_at_start k) record { state = refl; told = refl } (start_rests shape k fine) all fit
