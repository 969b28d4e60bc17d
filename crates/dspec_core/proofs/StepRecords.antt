-- The record of a step's deed is its call's.
use Rattle.std.proofs.{Common.arith, Common.◌≡◌, Common.ℕ, Common.◌==◌, Common.Bool, Common.true, Common.false, Common.◌&&◌, Common.if◌then◌else◌, Common.refl, lemmas.Bool.Decides.nat_tests}
use Rattle.dspec_core.specs.Words.{Act, Granted, Attempt, Record, Speculation, SlotState, call_step, CpuStep, Measured, missed, op_of, record_passes, shown_commit, shown_discard, shown_speculate}
use Rattle.dspec_core.specs.Words.{spoken_at, asked, deeds_pass, popped, shown_scan, shown_service, CpuOp, Served, Config, CpuProgress, CallPlace, Spare}
use Rattle.dspec_interleaving.specs.declared.flight.CallPlace.TheVariants as flight
use Rattle.dspec_interleaving.specs.declared.flight.Spare.TheVariants as spare

module _ (ok : Record → Bool) (k : Config) (c : ℕ) (m : Measured) (me : CpuProgress) where
  abbrev Pass : CpuStep → Type 0
  Pass x = deeds_pass ok x.deeds ≡ true

  either : (b : Bool) (x y : CpuStep) → Pass x → Pass y → Pass (if b then x else y)
  either true x y p q = p
  either false x y p q = q

  one : (b : Bool) → b ≡ true → (b && true) ≡ true
  one b p = rw p refl

  speaks : (id : Speculation) (r : Record) → ok r ≡ true → Pass (spoken_at k c m me id r)
  speaks id r p = either (m.keeps id r) _ _ (one (ok r) p) (one (ok r) p)

  shows : (id : Speculation) (r : Record) (w : SlotState) (act : Act) → ok r ≡ true → Pass (shown_speculate k c m me id r w act)
  shows id r w Granted p = speaks id r p
  shows id r w (Attempt to) p = refl
  shows id r w act p = one (ok r) p

  commits : (id : Speculation) (w : SlotState) (act : Act) → Pass (shown_commit k c m me id w act)
  commits id w (Attempt to) = refl
  commits id w act = refl

  discards : (id : Speculation) (w : SlotState) (act : Act) → Pass (shown_discard k c m me id w act)
  discards id w (Attempt to) = refl
  discards id w act = refl

  misses : (s : ℕ) (w : SlotState) → Pass (missed k c m me s w)
  misses s w = either (s == k.nspec) _ _ refl refl

  scans : (s : ℕ) (w : SlotState) (act : Act) → Pass (shown_scan k c m me s w act)
  scans s w (Attempt to) = refl
  scans s w act = misses s w

  services : (s : ℕ) (sum : Served) (w : SlotState) (act : Act) → Pass (shown_service k c m me s sum w act)
  services s sum w Granted = refl
  services s sum w act = either (s == k.nspec) _ _ refl refl

  asks : (b : Bool) (place : Spare) → Pass (asked k c m me b place)
  asks false place = refl
  asks true spare.InHand = refl
  asks true place = refl

  pops : (place : Spare) → Pass (popped k c m me place)
  pops spare.GivenBack = refl
  pops place = refl

  begins : (o : CpuOp) → record_passes ok o ≡ true → Pass (call_step k c m me (flight.Begun o))
  begins o h1 = grind (arith, nat_tests, either, one, services, asks)

  pub step_records : (f : CallPlace) → record_passes ok (op_of f) ≡ true → deeds_pass ok (call_step k c m me f).deeds ≡ true
  step_records f h1 = grind (arith, nat_tests, begins, scans, either, misses, shows, speaks, commits, discards, pops, services)
