-- A whole call that runs alone, step by step, does what the definition of whole calls says.
use Prim.Native.Nat.{zero, suc}
use Rattle.std.proofs.Common.{◌≡◌, ◌≢◌, ◌≤◌, ◌<◌, ◌+◌, ℕ, Bool, true, false, List, [], ◌∷◌, length, Option, Some, None, if◌then◌else◌, refl, sym, ap, ◌∙◌, subst, arith}
use Rattle.std.proofs.lemmas.Bool.Decides.{nat_tests}
use Rattle.std.specs.Prelude.{nat_lt, slice_set}
use Rattle.dspec_interleaving.specs.Words.{Shape, Config, ConsumerOp, CpuOp, Deed, Halt, halted, scan, seals, PlayState, IsCoherent, StandsProgress, SpareCounts, PushesNext, ProgressStands}
use Rattle.dspec_interleaving.specs.Words.{progress_of, consumer_begun, takes_at, gives_at, stops, took, begin_cpu, begin_consumer, on_to_end, whole_cpu, is_out, after_cpu, after_consumer, cpu_call}
use Rattle.dspec_interleaving.specs.Words.{consumer_call, IsApart, op_bound, consumer_bound, is_worn, fits_principal, one}
use Rattle.dspec_interleaving.specs.declared.flight.{CallPlace.CallPlace, ConsumerProgress.ConsumerProgress, CpuProgress.CpuProgress, Spare.Spare}
use Rattle.dspec_deeds.specs.declared.calls.Actor.TheVariants as actor
use Rattle.dspec_deeds.specs.declared.calls.Answer.TheVariants as answer
use Rattle.dspec_deeds.specs.declared.calls.ConsumerOp.TheVariants as consumer_op
use Rattle.dspec_deeds.specs.declared.calls.CpuOp.TheVariants as cpu_op
use Rattle.dspec_interleaving.specs.declared.flight.ConsumerFlight.TheVariants as consumer
use Rattle.dspec_interleaving.specs.declared.flight.CallPlace.TheVariants as cpu
use Rattle.dspec_interleaving.specs.declared.flight.Spare.TheVariants as spare
use Rattle.dspec_deeds.proofs.SetUp.{set_up}
use Rattle.dspec_interleaving.proofs.{CleanedParts.Clears, CleanedParts.clear_ended, Coherence.begin_consumer_coherent, WholeAsks.speculate_alone, WholeAsks.commit_alone, WholeAsks.discard_alone}
use Rattle.dspec_interleaving.proofs.{WholeClean.clean_leads, WholeEnds.bare, WholeEnds.same_end, WholeEnds.ends_as, WholeEnds.cpu_ends_as, WholeLeads.call_alone, WholeLeads.begins, WholeLeads.idle}
use Rattle.dspec_interleaving.proofs.{WholeLeads.RunsTo, WholeLeads.starts, WholeLeads.worn, WholeLeads.ended, WholeLeads.both, WholeScan.speculation_alone, WholeService.service_alone}
use Rattle.dspec_interleaving.proofs.{WholeSettling.IsAtRest}

-- one less
pub less : (n : ℕ) → 1 ≤ n → (j : ℕ) × (suc j ≡ n)
less zero le = absurd (omega arith)
less (suc j) le = (j, refl)

module _ (shape : ℕ → Option Shape) (k : Config) (c : ℕ) (h : List Deed) (at : IsAtRest k c h) (some : 1 ≤ k.nspec) (me : CpuProgress)
    (counts : SpareCounts (seals c h) me.takes me.spare) (unsealed : me.spare ≢ spare.Sealed) where
  -- each call's steps
  runs_whole : (o : CpuOp) → RunsTo shape k c h (begins me o) (whole_cpu shape k c (idle me) h o)
  runs_whole (cpu_op.Trace r) = starts me (cpu_op.Trace r)
      (both (is_worn k c h) (λ t. worn me) (λ f. both (halted h) (λ t. ended me) (λ g. both (fits_principal shape k c (one r) h) (λ t. ended me) (λ o. ended me))))
  runs_whole cpu_op.Speculation = let j = less k.nspec some in speculation_alone shape k c h at.sound at.rests at.still j.0 me j.1
  runs_whole (cpu_op.Speculate id r) = speculate_alone shape k c h at.sound some id r me
  runs_whole (cpu_op.Commit id) = commit_alone shape k c h at.sound some id me
  runs_whole (cpu_op.Discard id) = discard_alone shape k c h at.sound some id me
  runs_whole cpu_op.Service = let j = less k.nspec some in service_alone shape k c h at j.0 j.1 me counts unsealed

-- no batch waits for its push where no call is in flight
pub none_sealed : (place : Spare) (f : Option CallPlace) → f ≡ None → PushesNext place f → place ≢ spare.Sealed
none_sealed place f none pushes is = let push : f ≡ Some cpu.ServicePush = subst (λ (p : Spare). PushesNext p f) is pushes in cc

module _ (shape : ℕ → Option Shape) (st : PlayState) (side : ConsumerProgress) where
  -- a take finds a batch exactly where one was sealed that was not taken
  take_leads : (c : ℕ) (me : CpuProgress) (place : Spare) → SpareCounts (seals c st.deeds) me.takes place → place ≢ spare.Sealed
      → Clears shape st st.deeds (takes_at st.config st.deeds side st.progresses c me place)
      (if nat_lt me.takes (seals c st.deeds) then record
      { list = st.deeds; progresses = slice_set st.progresses c (record me { spare = spare.Out; takes = me.takes + 1 }); answer = took me.takes c st.deeds }
      else record { list = st.deeds; progresses = st.progresses; answer = answer.TookNone })
  take_leads c me spare.Sealed n u = absurd (u refl)
  take_leads c me spare.Handed n u = let more : nat_lt me.takes (seals c st.deeds) ≡ true = grind (arith, nat_tests) in rw more record { steps = 0; is = refl }
  take_leads c me place n u = let no : nat_lt me.takes (seals c st.deeds) ≡ false = grind (arith, nat_tests) in rw no (clear_ended side)

  give_leads : (c : ℕ) (me : CpuProgress) (place : Spare)
      → Clears shape st st.deeds (gives_at st.config st.deeds side st.progresses c me place)
      (if is_out place then record { list = st.deeds; progresses = slice_set st.progresses c (record me { spare = spare.GivenBack }); answer = answer.GaveBack true }
      else record { list = st.deeds; progresses = st.progresses; answer = answer.GaveBack false })
  give_leads c me spare.Out = record { steps = 0; is = refl }
  give_leads c me place = clear_ended side

module _ (shape : ℕ → Option Shape) (st : PlayState) (ok : IsCoherent shape st) where
  -- a whole call of a CPU
  pub cpu_whole : (c : ℕ) (o : CpuOp) (n : ℕ) → c < st.config.cpus → (progress_of st.progresses c).flight ≡ None → op_bound st.config o ≤ n
      → on_to_end shape n (actor.Cpu c) (begin_cpu c o st) None ≡ record { state = after_cpu c (cpu_call shape c o st) st; answer = Some (cpu_call shape c o st).answer }
  cpu_whole c o n lt none le =
      let me : CpuProgress = progress_of st.progresses c in
      let stands : ProgressStands st.config c st.deeds me = ok.stands c lt in
      let still : (scan st.config c st.deeds ≡ 0) × (me.steps ≡ 0) = subst (StandsProgress st.config c st.deeds me) none stands.flight in
      let is_idle : idle me ≡ me = λ i. record me { flight = sym none i; steps = sym still.1 i } in
      let count = ok.count in
      let there : c < length st.progresses = omega arith in
      let rest : IsAtRest st.config c st.deeds = record { sound = ok.legal.0; rests = ok.rests; still = still.0 } in
      let l = runs_whole shape st.config c st.deeds rest (set_up st.config ok.ranges).1 me stands.counts (none_sealed me.spare me.flight none stands.pushes) o in
      same_end shape l.steps n (actor.Cpu c) (begin_cpu c o st) _ _ _ (call_alone shape c st there o l.steps _ l.is)
      (cpu_ends_as shape n c o [] st (bare st) record { state = refl; told = refl } ok lt none le).answers
      ∙ ap (λ (x : CpuProgress). record { state = after_cpu c (whole_cpu shape st.config c x st.deeds o) st; answer = Some (whole_cpu shape st.config c x st.deeds o).answer }) is_idle

  -- the steps of a call of the consumer
  abbrev begun_side : ConsumerOp → ConsumerProgress
  begun_side o = record { flight = Some (consumer.Begun o); steps = 0 }

  clears : (o : ConsumerOp) → IsApart o st → Clears shape st st.deeds (consumer_begun st.config st.deeds (begun_side o) st.progresses o) (consumer_call shape o st)
  clears (consumer_op.Ask c) apart = record { steps = 0; is = refl }
  clears (consumer_op.Take c) apart =
      let me : CpuProgress = progress_of st.progresses c in
      let stands : ProgressStands st.config c st.deeds me = ok.stands c apart.0 in
      take_leads shape st (begun_side (consumer_op.Take c)) c me me.spare stands.counts (none_sealed me.spare me.flight apart.1 stands.pushes)
  clears (consumer_op.GiveBack c) apart = give_leads shape st (begun_side (consumer_op.GiveBack c)) c (progress_of st.progresses c) (progress_of st.progresses c).spare
  clears consumer_op.Clean apart =
      let i = less st.config.cpus (set_up st.config ok.ranges).0 in
      let j = less st.config.nspec (set_up st.config ok.ranges).1 in
      let all : suc (zero + j.0) ≡ st.config.nspec = let e = j.1 in omega arith in
      clean_leads shape st st.progresses st.deeds record { sound = ok.legal.0; rests = ok.rests } i.0 i.1 j.0 zero (begun_side consumer_op.Clean) all
  clears consumer_op.Stop apart = stop_leads (halted st.deeds)
    where
      stop_leads : (b : Bool) → Clears shape st st.deeds
          (if b then stops st.config st.deeds (begun_side consumer_op.Stop) st.progresses [] answer.StopDone else stops st.config st.deeds (begun_side consumer_op.Stop)
          st.progresses (Halt ∷ []) answer.StopDone)
          record { list = if b then st.deeds else Halt ∷ st.deeds; progresses = st.progresses; answer = answer.StopDone }
      stop_leads true = clear_ended (begun_side consumer_op.Stop)
      stop_leads false = clear_ended (begun_side consumer_op.Stop)

  -- a whole call of the consumer
  pub consumer_whole : (o : ConsumerOp) (n : ℕ) → IsApart o st → consumer_bound st.config o ≤ n
      → on_to_end shape n actor.Consumer (begin_consumer o st) None ≡ record { state = after_consumer (consumer_call shape o st) st; answer = Some (consumer_call shape o st).answer }
  consumer_whole o n apart le =
      let l = clears o apart in
      same_end shape (suc l.steps) n actor.Consumer (begin_consumer o st) _ _ _ l.is
      (ends_as shape n actor.Consumer [] (begin_consumer o st) (bare (begin_consumer o st)) record { state = refl; told = refl } (begin_consumer_coherent shape st o ok) refl refl
      (omega arith)).answers
