-- Cited by calls. What the laws of plays say of a state, of a call and of whole calls, where it is long.
use Rattle.std.specs.Prelude.{ℕ, ◌≡◌, ◌≢◌, ◌<◌, ◌∷◌, ◌++◌, Bool, false, nat_le, ◌&&◌, List, map, Option, Some, None}
use Rattle.dspec_interleaving.specs.{Bounds.flight_bound, Bounds.op_bound, Bounds.consumer_bound, Coherent.PlayState, Coherent.progress_of, CpuClose.IsCloseOf, Plays.answers_of, Plays.play_fault}
use Rattle.dspec_interleaving.specs.{Plays.played, Plays.worn_count, SoloRule.IsReleasing, SoloRule.ReleasesLast, Turns.at_start, Turns.begin_cpu, Turns.begin_consumer, Turns.step, Turns.on_to_end}
use Rattle.dspec_interleaving.specs.{Wearing.is_first, Whole.Call, Whole.of_consumer, Whole.after_cpu, Whole.cpu_call, Whole.after_consumer, Whole.consumer_call, Whole.after_all, Whole.HasService}
use Rattle.dspec_interleaving.specs.{Whole.IsReleased, WholePlays.turn_of, Words.Outside.Record, Words.Outside.Speculation, Words.Outside.closing, Words.Outside.solo, Words.Outside.verdict}
use Rattle.dspec_interleaving.specs.{Words.Outside.is_undecided, Words.Outside.scan, Words.Outside.calls, Words.Outside.woven, Words.Outside.HaveLists, Words.Outside.Shape, Words.Outside.ConsumerOp}
use Rattle.dspec_interleaving.specs.{Words.Outside.CpuOp, Words.Outside.Turn, Words.Outside.Config, Words.Outside.DecideFate, Words.Outside.Deed, declared.flight.CallPlace.CallPlace}
use Rattle.dspec_deeds.specs.declared.calls.Actor.TheVariants as actor
use Rattle.dspec_deeds.specs.declared.calls.ConsumerOp.TheVariants as consumer_op
use Rattle.dspec_interleaving.specs.declared.flight.CallPlace.TheVariants as flight

-- no call of the CPU is in flight
abbrev pub IsCpuIdle : ℕ → PlayState → Type 0
IsCpuIdle c st = (progress_of st.progresses c).flight ≡ None

-- no call of any CPU is in flight
abbrev pub AreCpusIdle : PlayState → Type 0
AreCpusIdle st = (c : ℕ) → c < st.config.cpus → IsCpuIdle c st

-- the CPU's call in flight, which stands there, has made fewer steps than its bound
abbrev pub IsBelowBound : ℕ → CallPlace → PlayState → Type 0
IsBelowBound c f st = (progress_of st.progresses c).steps < flight_bound st.config f

-- the CPU's next step is the first of a call, and the CPU has entered as many calls as it may
abbrev pub is_worn_next : ℕ → PlayState → Bool
is_worn_next c st = is_first (progress_of st.progresses c).flight && nat_le st.config.max_calls (calls c st.deeds)

module _ (shape : ℕ → Option Shape) where
  -- where the CPU's step decides the speculation alone, it releases the slot, or its call's next step does
  abbrev pub ReleasesAsItDecides : PlayState → ℕ → Speculation → Type 0
  ReleasesAsItDecides st c id =
      solo id st.deeds ≡ None → solo id (step shape (actor.Cpu c) st).state.deeds ≢ None → IsReleasing c id st.deeds (step shape (actor.Cpu c) st)

  -- where the CPU's call has to release yet what it decided alone, its step does, and is the call's last
  abbrev pub ReleasesAtNextStep : PlayState → ℕ → Speculation → DecideFate → Type 0
  ReleasesAtNextStep st c id f =
      (progress_of st.progresses c).flight ≡ Some (flight.CommitRelease id f) → ReleasesLast c id f st.deeds (step shape (actor.Cpu c) st)

  -- the CPU's call, which begins here and runs alone, leaves and answers what the definition of whole calls says
  abbrev pub RunsAsWholeCpu : PlayState → ℕ → CpuOp → Type 0
  RunsAsWholeCpu st c o =
      on_to_end shape (op_bound st.config o) (actor.Cpu c) (begin_cpu c o st) None
      ≡ record { state = after_cpu c (cpu_call shape c o st) st; answer = Some (cpu_call shape c o st).answer }

  -- the same of a call of the consumer
  abbrev pub RunsAsWholeConsumer : PlayState → ConsumerOp → Type 0
  RunsAsWholeConsumer st o =
      on_to_end shape (consumer_bound st.config o) actor.Consumer (begin_consumer o st) None
      ≡ record { state = after_consumer (consumer_call shape o st) st; answer = Some (consumer_call shape o st).answer }

  -- after the play as many of the CPU's calls are counted as worn as were answered Worn
  abbrev pub CountsWorn : Config → List Turn → ℕ → Type 0
  CountsWorn k ts c = (progress_of (played shape k ts).state.progresses c).worn ≡ worn_count (answers_of shape k ts) c

  -- where the calls ws decide the speculation, and the calls xs after them have a service of each CPU, a clean after those has released its
  -- slot, and so it stays after the calls ys
  abbrev pub IsReleasedBy : Config → Speculation → List Call → List Call → List Call → Type 0
  IsReleasedBy k id ws xs ys =
      is_undecided (verdict id (after_all shape ws (at_start k)).deeds) ≡ false → ((c : ℕ) → c < k.cpus → HasService c xs)
      → IsReleased id (after_all shape (xs ++ (of_consumer consumer_op.Clean ∷ ys)) (after_all shape ws (at_start k))).deeds

  -- where p has each CPU's list of those, and no call of speculation is under way, the close of the woven list is that of these lists
  abbrev pub ClosesWoven : Config → (ℕ → List Deed) → List Deed → Type 0
  ClosesWoven k p h = HaveLists shape k p h → ((c : ℕ) → c < k.cpus → scan k c h ≡ 0) → IsCloseOf shape k p h (closing shape k (woven k.cpus p h))

-- a schedule of these whole calls is refused nowhere
abbrev pub ArePlayed : (ℕ → Option Shape) → (Record → Bool) → Config → List Call → Type 0
ArePlayed shape accepts k xs = play_fault shape accepts k (map turn_of xs) ≡ None
