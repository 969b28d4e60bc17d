-- The rows of the table of steps: by measures that agree on what a row reads it enters the same deeds, Seals apart, and they are of the
-- call in flight.
use Rattle.std.proofs.Common.{arith, ◌≡◌, ℕ, ◌==◌, Bool, true, false, if◌then◌else◌, List, [], Option, Some, refl, sym, subst}
use Rattle.std.proofs.lemmas.Bool.Decides.{nat_tests}
use Rattle.dspec_table.specs.Words.{Speculation, SlotState, settle_at, Record, is_fill, bare, at_activity, at_word, at_exchange, MayLoad, AreOf, Measured, CpuStep, begun, idle_progress, missed}
use Rattle.dspec_table.specs.Words.{seen, shown, shown_commit, shown_discard, shown_scan, shown_service, shown_speculate, spoken_at, committed_by, discarded_by, is_counted, Act, Granted, Attempt}
use Rattle.dspec_table.specs.Words.{Inactive, Config, CpuOp, Served, Deed, CpuProgress}
use Rattle.dspec_table.specs.declared.{doing.Doing.Doing, rule.View.View}
use Rattle.dspec_deeds.specs.declared.calls.CpuOp.TheVariants as op
use Rattle.dspec_deeds.specs.declared.calls.Op.TheVariants.{Cpu}
use Rattle.dspec_interleaving.proofs.StepDeeds.{by_test, served_deeds}

-- a service enters nothing where it loads
pub looks : (k : Config) (c : ℕ) (m : Measured) (me : CpuProgress) (s : ℕ) (sum : Served) (w : SlotState) (act : Act) → (shown_service k c m me s sum w act).deeds ≡ []
looks k c m me s sum w Granted = refl
looks k c m me s sum w act = served_deeds k c m me s [] sum

pub service_begins : (k : Config) (c : ℕ) (doing : Doing) (stopped : Bool) (word : ℕ → SlotState) (hits : ℕ → SlotState → Bool)
    → (begun k c (seen doing stopped word hits) idle_progress op.Service).deeds ≡ []
service_begins k c doing stopped word hits =
    by_test (λ ds. ds ≡ []) (is_fill k.policy) _ _ (λ t. looks k c (seen doing stopped word hits) idle_progress 1 record { sealed = false; settled = 0 } (word 1) (settle_at (word 1) 0)) (λ f. refl)

module _ (k : Config) (c : ℕ) (m : Measured) (me : CpuProgress) (doing : Doing) (stopped : Bool) (word : ℕ → SlotState) (hits : ℕ → SlotState → Bool) (flight : Option CpuOp) where
  abbrev n : Measured
  n = seen doing stopped word hits

  abbrev pub Same : CpuStep → CpuStep → Type 0
  Same x y = (bare x.deeds ≡ y.deeds) × AreOf flight y.deeds

  pub both : (a b : Bool) → a ≡ b → (x y u w : CpuStep) → Same x u → Same y w → Same (if a then x else y) (if b then u else w)
  both a b e x y u w p q = grind (arith, nat_tests)

  unworn : (b : Bool) → b ≡ false → (x y : CpuStep) (ds : List Deed) → (bare y.deeds ≡ ds) × AreOf flight ds → (bare (if b then x else y).deeds ≡ ds) × AreOf flight ds
  unworn b e x y ds p = subst (λ t. (bare (if t then x else y).deeds ≡ ds) × AreOf flight ds) (sym e) p

  pub begins : (o : CpuOp) → flight ≡ Some o → is_counted (Cpu o) ≡ true → m.worn ≡ false → m.stopped ≡ stopped → ((r : Record) → o ≡ op.Trace r → m.traces r ≡ doing.fits)
      → Same (begun k c m me o) (begun k c n idle_progress o)
  begins = grind (arith, nat_tests)

  pub spoken : (id : Speculation) (r : Record) → flight ≡ Some (op.Speculate id r) → m.keeps id r ≡ doing.fits → Same (spoken_at k c m me id r) (spoken_at k c n idle_progress id r)
  spoken id r e fits = both _ _ fits _ _ _ _ (refl, (e, tt)) (refl, (e, tt))

  pub speculates : (id : Speculation) (r : Record) → flight ≡ Some (op.Speculate id r) → m.keeps id r ≡ doing.fits → (w : SlotState) (act : Act)
      → Same (shown_speculate k c m me id r w act) (shown_speculate k c n idle_progress id r w act)
  speculates id r e fits w Granted = spoken id r e fits
  speculates id r e fits w (Attempt to) = (refl, tt)
  speculates id r e fits w act = (refl, (e, tt))

  pub commits : (id : Speculation) → flight ≡ Some (op.Commit id) → (w : SlotState) (act : Act) → Same (shown_commit k c m me id w act) (shown_commit k c n idle_progress id w act)
  commits id e w (Attempt to) = (refl, tt)
  commits id e w act = (refl, (e, tt))

  pub committed : (id : Speculation) → flight ≡ Some (op.Commit id) → m.copies id ≡ doing.fits → m.count id ≡ doing.count → (act : Act)
      → Same (committed_by k c m me id act) (committed_by k c n idle_progress id act)
  committed = grind (arith, nat_tests)

  pub discards : (id : Speculation) → flight ≡ Some (op.Discard id) → (w : SlotState) (act : Act) → Same (shown_discard k c m me id w act) (shown_discard k c n idle_progress id w act)
  discards id e w (Attempt to) = (refl, tt)
  discards id e w act = (refl, (e, tt))

  pub discarded : (id : Speculation) → flight ≡ Some (op.Discard id) → m.count id ≡ doing.count → (act : Act) → Same (discarded_by k c m me id act) (discarded_by k c n idle_progress id act)
  discarded = grind (arith, nat_tests)

  pub misses : flight ≡ Some op.Speculation → (s : ℕ) (w : SlotState) → Same (missed k c m me s w) (missed k c n idle_progress s w)
  misses e s w = both (s == k.nspec) _ refl _ _ _ _ (refl, (e, tt)) (refl, (e, tt))

  pub scans : flight ≡ Some op.Speculation → (s : ℕ) (w : SlotState) (act : Act) → Same (shown_scan k c m me s w act) (shown_scan k c n idle_progress s w act)
  scans e s w (Attempt to) = (refl, tt)
  scans e s w act = misses e s w

-- so what a seat enters is of its call in flight
none_of : (flight : Option CpuOp) (ds : List Deed) → ds ≡ [] → AreOf flight ds
none_of flight ds e = subst (AreOf flight) (sym e) tt

counted_of : (k : Config) (c : ℕ) (doing : Doing) (b : Bool) (o : CpuOp) → is_counted (Cpu o) ≡ true → AreOf (Some o) (at_activity k c doing o b)
counted_of = grind (arith, nat_tests)

pub activity_of : (k : Config) (c : ℕ) (doing : Doing) (o : CpuOp) (b : Bool) → AreOf (Some o) (at_activity k c doing o b)
activity_of k c doing op.Service b = none_of (Some op.Service) _ (service_begins k c doing b (λ s. record { issue = 0; code = Inactive }) (λ s from. false))
activity_of k c doing o b = counted_of k c doing b o refl

module _ (j : Config) (v : View) (x : ℕ) (doing : Doing) (slot : ℕ) (k : Config) (c : ℕ) (w : SlotState) where
  abbrev its : Bool → Measured
  its hit = shown doing w hit

  pub word_of : (o : CpuOp) → doing.op ≡ o → MayLoad j v x doing slot o → AreOf v.flight (at_word k c doing slot w o)
  word_of = grind (arith, nat_tests)

  -- in a call of speculation, by the word that it was shown free
  pub open_of : (hit : Bool) → v.flight ≡ Some op.Speculation → AreOf v.flight (at_exchange k c doing slot w hit op.Speculation)
  open_of hit e =
      by_test (AreOf v.flight) hit _ _ (λ t. (e, tt)) (λ f. (misses k c (its hit) idle_progress doing false (λ s. w) (λ s from. hit) v.flight e slot w).1)

  pub exchange_of : (hit : Bool) (o : CpuOp) → doing.op ≡ o → MayLoad j v x doing slot o → AreOf v.flight (at_exchange k c doing slot w hit o)
  exchange_of = grind (arith, nat_tests)
