-- In every schedule the call that decides a speculation alone releases its slot in its last step: a discard in its
-- deciding step, a commit in the step after.
use Rattle.std.proofs.Common.{◌≡◌, ◌≢◌, ◌<◌, ℕ, List, [], ◌∷◌, ◌++◌, Option, Some, None, refl, sym, ap, ◌∙◌, subst, ⊎_elim, inl, inr, arith, true≢false}
use Rattle.std.proofs.lemmas.List.{get_or-set_same}
use Rattle.dspec_interleaving.specs.Words.{Shape, Speculation, verdict, solo, CpuStep, cpu_step, StandsState, PlayState, progress_of, IsCoherent, idle_progress, IsReleasing, ReleasesLast}
use Rattle.dspec_interleaving.specs.Words.{DecidesNothing, moved_to, step_cpu, step_consumer, step, Cpu, Consumer, DecideFate, Deed, Release, Halt}
use Rattle.dspec_interleaving.specs.declared.flight.{CallPlace.CallPlace, ConsumerFlight.ConsumerFlight, CpuProgress.CpuProgress}
use Rattle.dspec_interleaving.specs.declared.flight.CallPlace.TheVariants as cpu
use Rattle.dspec_deeds.proofs.Going.{AllBy}
use Rattle.dspec_interleaving.proofs.{ConsumerSteps.consumer_keeps, CpuSteps.cpu_step_stands, StepsAlone.ReleasedNow, StepsAlone.ReleasesNext, WornCpuSteps.goes_untold}

-- the consumer's deeds decide nothing
consumer_decides_not : (id : Speculation) (ds h : List Deed) → AllBy Consumer ds h → (verdict id (ds ++ h) ≡ verdict id h) × (solo id (ds ++ h) ≡ solo id h)
consumer_decides_not id [] h by = (refl, refl)
consumer_decides_not id (Release s ∷ ds) h by = consumer_decides_not id ds h by.0
consumer_decides_not id (Halt ∷ ds) h by = consumer_decides_not id ds h by.0
consumer_decides_not id d h by = absurd (true≢false (sym by.1))

module _ (shape : ℕ → Option Shape) (st : PlayState) (ok : IsCoherent shape st) where
  -- the side that a step of the CPU leaves
  moved_progress : (c : ℕ) (m : CpuStep) → c < st.config.cpus → progress_of (moved_to st c m).state.progresses c ≡ m.progress
  moved_progress c m there = let count = ok.count in get_or-set_same st.progresses c m.progress idle_progress (omega arith)

  -- what a step of a CPU decides alone is released in that step, its call's last, or is next
  pub decided_alone : (c : ℕ) → c < st.config.cpus → (id : Speculation) → solo id st.deeds ≡ None → solo id (step shape (Cpu c) st).state.deeds ≢ None
      → IsReleasing c id st.deeds (step shape (Cpu c) st)
  decided_alone c there id before after = go (progress_of st.progresses c).flight refl after
    where
      go : (f : Option CallPlace) → (progress_of st.progresses c).flight ≡ f → solo id (step_cpu shape c st f).state.deeds ≢ None → IsReleasing c id st.deeds (step_cpu shape c st f)
      go None is now = absurd (now before)
      go (Some f) is now =
          let me = progress_of st.progresses c in
          let m = cpu_step shape st.config c st.deeds me f in
          let did = cpu_step_stands shape st.config c st.deeds me ok.ranges ok.legal ok.rests (ok.stands c there) f is in
          let side : (progress_of (moved_to st c m).state.progresses c).flight ≡ m.progress.flight = ap (λ (x : CpuProgress). x.flight) (moved_progress c m there) in
          ⊎_elim
          (λ (r : ReleasedNow c id m.deeds m.progress.flight m.answer). inl (r.0, ap (λ ds. ds ++ st.deeds) r.1, record { answer = r.3; idle = side ∙ r.2 }))
          (λ (r : ReleasesNext c id m.deeds m.progress.flight).
          inr (r.0, ap (λ ds. ds ++ st.deeds) r.1, record { answer = goes_untold shape st.config c st.deeds me f (cpu.CommitRelease id r.0) r.2; next = side ∙ r.2 }))
          (did.solo_rule id before now)

  -- a step of the consumer decides nothing
  pub consumer_decides_none : DecidesNothing st.deeds (step shape Consumer st).state.deeds
  consumer_decides_none = go st.side.flight refl
    where
      go : (f : Option ConsumerFlight) → st.side.flight ≡ f → DecidesNothing st.deeds (step_consumer shape st f).state.deeds
      go None is = record { verdicts = λ id. refl; solos = λ id. refl }
      go (Some f) is =
          let did = consumer_keeps shape st.config st.deeds st.side st.progresses ok.ranges ok.legal ok.rests ok.count ok.stands f (subst (StandsState st.config st.deeds st.side) is ok.side) in
          record { verdicts = λ id. (consumer_decides_not id _ st.deeds did.goes.by).0; solos = λ id. (consumer_decides_not id _ st.deeds did.goes.by).1 }

  -- the step after such a commit releases the slot, and is the call's last
  pub released_next : (c : ℕ) → c < st.config.cpus → (id : Speculation) (f : DecideFate) → (progress_of st.progresses c).flight ≡ Some (cpu.CommitRelease id f)
      → ReleasesLast c id f st.deeds (step shape (Cpu c) st)
  released_next c there id f is =
      let m = cpu_step shape st.config c st.deeds (progress_of st.progresses c) (cpu.CommitRelease id f) in
      subst (λ g. ReleasesLast c id f st.deeds (step_cpu shape c st g)) (sym is)
      record { deeds = refl; last = record { answer = refl; idle = ap (λ (x : CpuProgress). x.flight) (moved_progress c m there) } }
