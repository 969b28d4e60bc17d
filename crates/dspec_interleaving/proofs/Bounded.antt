-- Each call ends within a number of steps that its kind bounds.
use Rattle.std.proofs.Common.{◌≡◌, ℕ, ◌+◌, ◌-◌, ◌*◌, ◌<◌, ◌≤◌, List, sym, subst, arith, Option, Some, None}
use Rattle.std.proofs.Math.Nat.{mul-le-mul_right}
use Rattle.dspec_interleaving.specs.Words.{is_among, callers, op_bound, flight_bound, clean_bound, StandsCpu, StandsConsumer, cpu_limit, consumer_limit, steps_limit, most_steps, PlayState}
use Rattle.dspec_interleaving.specs.Words.{progress_of, Config, CpuOp, Deed, Actor}
use Rattle.dspec_interleaving.specs.declared.flight.{CallPlace.CallPlace, ConsumerFlight.ConsumerFlight, ConsumerProgress.ConsumerProgress, CpuProgress.CpuProgress}
use Rattle.dspec_deeds.specs.declared.calls.ConsumerOp.TheVariants as consumer_op
use Rattle.dspec_deeds.specs.declared.calls.CpuOp.TheVariants as cpu_op
use Rattle.dspec_interleaving.specs.declared.flight.ConsumerFlight.TheVariants as consumer
use Rattle.dspec_interleaving.specs.declared.flight.CallPlace.TheVariants as cpu
use Rattle.dspec_interleaving.proofs.{ConsumerSteps.share, StepsWords.speculate_tells, StepsWords.commit_tells, StepsWords.discard_tells}
use Rattle.dspec_deeds.specs.declared.calls.Actor.TheVariants as actor

module _ (k : Config) (c : ℕ) (h : List Deed) (me : CpuProgress) (some : 1 ≤ k.nspec) where
  begun_below : (o : CpuOp) → me.steps ≡ 0 → me.steps < op_bound k o
  begun_below (cpu_op.Trace r) e = omega arith
  begun_below o e = omega arith

  -- a CPU's call in flight has made fewer steps than its bound
  pub cpu_below : (f : CallPlace) → StandsCpu k c h me f → me.steps < flight_bound k f
  cpu_below (cpu.Begun o) st = begun_below o st.1
  cpu_below (cpu.ScanLoad s) st = let top = st.0.1 in let few = st.2 in omega arith
  cpu_below (cpu.ScanTry s w) st = let top = st.0.1 in let few = st.2 in omega arith
  cpu_below (cpu.SpeculateLoad id r) st = let few = st.1 in omega arith
  cpu_below (cpu.SpeculateTry id r w) st = let few = st.2 in let low = (speculate_tells w st.1.to id (is_among c (callers id h)) st.1.attempts).2 in omega arith
  cpu_below (cpu.CommitLoad id) st = let few = st.1 in omega arith
  cpu_below (cpu.CommitTry id w) st = let few = st.2 in let low = (commit_tells w st.1.to id (is_among c (callers id h)) st.1.attempts).2 in omega arith
  cpu_below (cpu.CommitRelease id f) st = let few = st.7 in omega arith
  cpu_below (cpu.DiscardLoad id) st = let few = st.1 in omega arith
  cpu_below (cpu.DiscardTry id w) st = let few = st.2 in let low = (discard_tells w st.1.to id (is_among c (callers id h)) st.1.attempts).2 in omega arith
  cpu_below cpu.ServicePop st = let few = st.1 in omega arith
  cpu_below cpu.ServicePush st = let few = st.1 in omega arith
  cpu_below (cpu.ServiceLoad s sum) st = let top = st.0.1 in let few = st.2 in omega arith
  cpu_below (cpu.ServiceStore s w sum) st = let top = st.0.1 in let few = st.2 in omega arith

-- the shares of the slots up to one of them
shares : (s n q : ℕ) → 1 ≤ s → s ≤ n → (s - 1) * q + q ≤ n * q
shares s n q one le = subst (λ x. x ≤ n * q) (sym (share s q one)) (mul-le-mul_right q le)

module _ (k : Config) (h : List Deed) (side : ConsumerProgress) (some : 1 ≤ k.nspec) where
  -- the consumer's call in flight has made fewer steps than its bound
  pub clean_below : (f : ConsumerFlight) → StandsConsumer k h side f → side.steps < clean_bound k f
  clean_below (consumer.Begun consumer_op.Clean) st = let whole = shares 1 k.nspec (k.cpus + 2) (omega arith) some in omega arith
  clean_below (consumer.CleanLoad s n) st = let few = st.2 in let whole = shares s k.nspec (k.cpus + 2) st.0.0 st.0.1 in omega arith
  clean_below (consumer.CleanAck s w c n) st = let few = st.4 in let lt = st.2 in let whole = shares s k.nspec (k.cpus + 2) st.0.0 st.0.1 in omega arith
  clean_below (consumer.CleanReap s w n) st = let few = st.3 in let whole = shares s k.nspec (k.cpus + 2) st.0.0 st.0.1 in omega arith
  clean_below f st = omega arith

-- the bound of each call is within that of its actor
pub op_within : (k : Config) → 1 ≤ k.nspec → (o : CpuOp) → op_bound k o ≤ 3 + 2 * k.nspec
op_within k some cpu_op.Service = omega arith
op_within k some o = omega arith

pub cpu_within : (k : Config) → 1 ≤ k.nspec → (x : Option CallPlace) → cpu_limit k x ≤ 3 + 2 * k.nspec
cpu_within k some None = omega arith
cpu_within k some (Some (cpu.Begun o)) = op_within k some o
cpu_within k some (Some f) = omega arith

pub clean_within : (k : Config) → 1 ≤ k.nspec → (x : Option ConsumerFlight) → consumer_limit k x ≤ k.nspec * (k.cpus + 2)
clean_within k some x = go x (mul-le-mul_right (k.cpus + 2) some)
  where
    go : (x : Option ConsumerFlight) → 1 * (k.cpus + 2) ≤ k.nspec * (k.cpus + 2) → consumer_limit k x ≤ k.nspec * (k.cpus + 2)
    go None whole = omega arith
    go (Some (consumer.Begun consumer_op.Clean)) whole = omega arith
    go (Some (consumer.Begun o)) whole = omega arith
    go (Some f) whole = omega arith

pub limit_within : (a : Actor) (st : PlayState) → 1 ≤ st.config.nspec → steps_limit a st ≤ most_steps st.config a
limit_within (actor.Cpu c) st some = cpu_within st.config some (progress_of st.progresses c).flight
limit_within actor.Consumer st some = clean_within st.config some st.side.flight
