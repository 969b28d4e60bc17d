-- A step leaves its call in flight, or none.
use Rattle.std.proofs.Common.{⊎_elim, ◌≡◌, ℕ, ◌<◌, List, length, slice_set, Option, Some, None, sym, subst}
use Rattle.dspec_interleaving.specs.Words.{Shape, op_of, consumer_op_of, cpu_step, consumer_step, progress_of, Config, ConsumerOp, CpuOp, Deed}
use Rattle.dspec_interleaving.specs.declared.flight.{CallPlace.CallPlace, ConsumerFlight.ConsumerFlight, ConsumerProgress.ConsumerProgress, CpuProgress.CpuProgress}
use Rattle.dspec_interleaving.proofs.{FlightsStay.clean_advances, Replacing.put, StepEnds.HasEnded, StepEnds.HasGoneOn, StepEnds.HasClosed, StepEnds.HasKeptOn, WornCpuSteps.cpu_advances}

module _ (P : CpuOp → Type 0) where
  -- what is said of a call holds of the one in flight, if there is one
  abbrev pub Passes : Option CallPlace → Type 0
  Passes flight = (f : CallPlace) → flight ≡ Some f → P (op_of f)

  -- the same of every CPU's call
  abbrev pub AllPass : ℕ → List CpuProgress → Type 0
  AllPass n all = (c : ℕ) (f : CallPlace) → c < n → (progress_of all c).flight ≡ Some f → P (op_of f)

  pub none_passes : Passes None
  none_passes f e = absurd (cc (e))

  pub some_passes : (f : CallPlace) → P (op_of f) → Passes (Some f)
  some_passes f p g e = let same : f ≡ g = cc (e) in subst (λ x. P (op_of x)) same p

  -- one CPU's progress replaced
  pub set_passes : (n : ℕ) (all : List CpuProgress) (a : ℕ) (me : CpuProgress) → length all ≡ n → AllPass n all → Passes me.flight → AllPass n (slice_set all a me)
  set_passes n all a me count was own c f lt is = put n (λ b (x : CpuProgress). Passes x.flight) all a me count (λ b less apart g e. was b g less e) (λ less. own) c lt f is

  -- a step of a CPU leaves its call in flight, or none
  pub step_passes : (shape : ℕ → Option Shape) (k : Config) (c : ℕ) (h : List Deed) (me : CpuProgress) (f : CallPlace) → P (op_of f) → Passes (cpu_step shape k c h me f).progress.flight
  step_passes shape k c h me f p = ⊎_elim
      (λ (e : HasEnded (cpu_step shape k c h me f)). subst Passes (sym e.idle) none_passes)
      (λ (g : HasGoneOn k me _ (op_of f) (cpu_step shape k c h me f)). subst Passes (sym g.flight) (some_passes g.next (subst P (sym g.call) p)))
      (cpu_advances shape k c h me f)

module _ (P : ConsumerOp → Type 0) where
  -- what is said of a call of the consumer holds of the one in flight, if there is one
  abbrev pub Goes : Option ConsumerFlight → Type 0
  Goes flight = (f : ConsumerFlight) → flight ≡ Some f → P (consumer_op_of f)

  pub some_goes : (f : ConsumerFlight) → P (consumer_op_of f) → Goes (Some f)
  some_goes f p g e = let same : f ≡ g = cc (e) in subst (λ x. P (consumer_op_of x)) same p

  ended : Goes None
  ended f e = absurd (cc (e))

  -- a step of the consumer leaves its call in flight, or none
  pub clean_goes : (k : Config) (h : List Deed) (side : ConsumerProgress) (all : List CpuProgress) (f : ConsumerFlight) → P (consumer_op_of f) → Goes (consumer_step k h side all f).side.flight
  clean_goes k h side all f p = ⊎_elim
      (λ (e : HasClosed (consumer_step k h side all f)). subst Goes (sym e.idle) ended)
      (λ (g : HasKeptOn k side _ (consumer_op_of f) (consumer_step k h side all f)). subst Goes (sym g.flight) (some_goes g.next (subst P (sym g.call) p)))
      (clean_advances k h side all f)
