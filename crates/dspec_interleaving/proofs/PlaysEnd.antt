-- A whole play is coherent, and at its end no call is in flight.
use Rattle.std.proofs.Common.{◌≡◌, ℕ, zero, suc, ◌<◌, ◌≤◌, true, false, ◌==◌, Option, Some, None, refl, sym, ap, ◌∙◌, subst, ⊎_elim, arith}
use Rattle.std.proofs.lemmas.{Bool.Decides.nat_tests, List.get_or-set_other}
use Rattle.std.specs.Prelude.{is_none}
use Rattle.dspec_interleaving.specs.Words.{Shape, Config, Actor, most_steps, is_actor, is_idle, IsCoherent, progress_of, idle_progress, Playing, ran, cpus_ran, all_ran}
use Rattle.dspec_interleaving.specs.declared.flight.{CallPlace.CallPlace, CpuProgress.CpuProgress}
use Rattle.dspec_deeds.specs.declared.calls.Actor.TheVariants as actor
use Rattle.dspec_deeds.proofs.{SetUp.set_up, TestLemmas.either_way, TestLemmas.same_number, TestLemmas.numbers_differ}
use Rattle.dspec_interleaving.proofs.{Bounded.limit_within, Coherence.begin_cpu_coherent, Coherence.begin_consumer_coherent, Coherence.step_cpu_coherent, Coherence.step_consumer_coherent}
use Rattle.dspec_interleaving.proofs.{FlightsStay.flights_stay, PlayerMoves.ended_stays, PlaysCarry.IsCarried, PlaysCarry.PlayInvariant, PlaysCarry.ran_carries, PlaysCarry.cpus_ran_carries}
use Rattle.dspec_interleaving.proofs.{Tests.is_nothing, WholeEnds.ends_as}

-- a coherent play of the configuration
pub record IsCoherentPlay (shape : ℕ → Option Shape) (k : Config) (p : Playing) : Type 0 where
  pub config : p.state.config ≡ k
  pub coherent : IsCoherent shape p.state

module _ (shape : ℕ → Option Shape) where
  -- each step of a play keeps it coherent
  pub coherence_carried : (k : Config) → IsCarried shape k (IsCoherentPlay shape k)
  coherence_carried k = record {
    config = λ p was. was.config;
    cpu_steps = λ c p f was lt is. record { config = was.config; coherent = step_cpu_coherent shape p.state c (Some f) was.coherent (subst (λ (x : Config). c < x.cpus) (sym was.config) lt) is };
    consumer_steps = λ p f was is. record { config = was.config; coherent = step_consumer_coherent shape p.state (Some f) was.coherent is };
  }

  -- the same, with the begins
  pub coherence_kept : (k : Config) → PlayInvariant shape k (IsCoherentPlay shape k)
  coherence_kept k = record {
    steps = coherence_carried k;
    cpu_begins = λ c o p was lt idle. record { config = was.config; coherent = begin_cpu_coherent shape p.state c o was.coherent (subst (λ (x : Config). c < x.cpus) (sym was.config) lt) idle };
    consumer_begins = λ o p was about idle. record { config = was.config; coherent = begin_consumer_coherent shape p.state o was.coherent };
  }

  -- after a run no call of the actor is in flight
  ran_idle : (a : Actor) (p : Playing) → IsCoherent shape p.state → is_actor p.state.config a ≡ true → is_idle a (ran shape a p).state ≡ true
  ran_idle a p ok there = ⊎_elim
      (λ (idle : is_idle a p.state ≡ true). subst (λ (q : Playing). is_idle a q.state ≡ true) (sym (ended_stays shape (most_steps p.state.config a) a p idle)) idle)
      (λ (busy : is_idle a p.state ≡ false).
      let within = limit_within a p.state (set_up p.state.config ok.ranges).1 in
      (ends_as shape (most_steps p.state.config a) a _ p.state p record { state = refl; told = refl } ok there busy (omega arith)).idle)
      (either_way (is_idle a p.state))

  -- a coherent play in which no call of that CPU is in flight
  record IsResting (k : Config) (d : ℕ) (p : Playing) : Type 0 where
    play : IsCoherentPlay shape k p
    there : d < k.cpus
    idle : (progress_of p.state.progresses d).flight ≡ None

  -- steps put no call in flight
  rest_carried : (k : Config) (d : ℕ) → IsCarried shape k (IsResting k d)
  rest_carried k d = record {
    config = λ p was. was.play.config;
    cpu_steps = λ c p f was lt is. record {
      play = (coherence_carried k).cpu_steps c p f was.play lt is;
      there = was.there;
      idle = ⊎_elim
          (λ (t : (d == c) ≡ true). let busy : (progress_of p.state.progresses d).flight ≡ Some f = subst (λ x. (progress_of p.state.progresses x).flight ≡ Some f)
          (sym (same_number d c t)) is in let none = was.idle in absurd (cc (busy, none)))
          (λ (e : (d == c) ≡ false). ap (λ (y : CpuProgress). y.flight) (get_or-set_other p.state.progresses c d _ idle_progress (numbers_differ d c e)) ∙ was.idle)
          (either_way (d == c));
    };
    consumer_steps = λ p f was is. record {
      play = (coherence_carried k).consumer_steps p f was.play is;
      there = was.there;
      idle = flights_stay p.state.config p.state.deeds p.state.side p.state.progresses was.play.coherent.count f d (subst (λ (x : Config). d < x.cpus) (sym was.play.config) was.there) ∙ was.idle;
    };
  }

  -- after the runs of the first CPUs none of their calls is in flight
  cpus_rest : (k : Config) (n d : ℕ) (p : Playing) → IsCoherentPlay shape k p → n ≤ k.cpus → d < n → IsResting k d (cpus_ran shape n p)
  cpus_rest k zero d p was le lt = absurd (omega arith)
  cpus_rest k (suc n) d p was le lt =
      let fewer : n ≤ k.cpus = omega arith in
      let there : is_actor k (actor.Cpu n) ≡ true = grind (arith, nat_tests) in
      let before : Playing = cpus_ran shape n p in
      let now : IsCoherentPlay shape k before = cpus_ran_carries shape k (IsCoherentPlay shape k) (coherence_carried k) n p was fewer in
      ⊎_elim
      (λ (t : (d == n) ≡ true).
      let is : d ≡ n = same_number d n t in
      let idle : is_idle (actor.Cpu n) (ran shape (actor.Cpu n) before).state ≡ true =
      ran_idle (actor.Cpu n) before now.coherent (subst (λ (x : Config). is_actor x (actor.Cpu n) ≡ true) (sym now.config) there) in
      let within : n < k.cpus = omega arith in
      subst (λ x. IsResting k x (cpus_ran shape (suc n) p)) (sym is) record {
        play = ran_carries shape k (IsCoherentPlay shape k) (coherence_carried k) (actor.Cpu n) before now there;
        there = within;
        idle = is_nothing (progress_of (ran shape (actor.Cpu n) before).state.progresses n).flight idle;
      })
      (λ (e : (d == n) ≡ false).
      let apart = numbers_differ d n e in
      let less : d < n = omega arith in
      ran_carries shape k (IsResting k d) (rest_carried k d) (actor.Cpu n) before (cpus_rest k n d p was fewer less) there)
      (either_way (d == n))

  -- after the runs of all calls none is in flight
  pub all_ran_idle : (p : Playing) → IsCoherent shape p.state → (a : Actor) → is_actor p.state.config a ≡ true → is_idle a (all_ran shape p).state ≡ true
  all_ran_idle p ok (actor.Cpu d) there =
      let k : Config = p.state.config in
      let lt : d < k.cpus = grind (arith, nat_tests) in
      let rest = ran_carries shape k (IsResting k d) (rest_carried k d) actor.Consumer (cpus_ran shape k.cpus p)
      (cpus_rest k k.cpus d p record { config = refl; coherent = ok } (omega arith) lt) refl in
      ap (λ (y : Option CallPlace). is_none y) rest.idle
  all_ran_idle p ok actor.Consumer there =
      let k : Config = p.state.config in
      let now = cpus_ran_carries shape k (IsCoherentPlay shape k) (coherence_carried k) k.cpus p record { config = refl; coherent = ok } (omega arith) in
      ran_idle actor.Consumer (cpus_ran shape k.cpus p) now.coherent refl
