-- A service that runs alone.
use Prim.Native.Nat.{zero, suc}
use Rattle.std.proofs.Common.{◌≡◌, ◌≢◌, ◌+◌, ℕ, Bool, true, false, not, ◌&&◌, ◌==◌, List, [], ◌∷◌, Option, Some, if◌then◌else◌, refl, sym, ap, ◌∙◌, subst, arith}
use Rattle.std.proofs.lemmas.Bool.Decides.{nat_tests}
use Rattle.std.specs.Prelude.{nat_lt}
use Rattle.dspec_interleaving.specs.Words.{Shape, Config, Deed, Seal, is_fill, seals, SpareCounts, cpu_step, loads_service, asked, popped, call_goes_on, WholeCpu, whole_cpu, whole_service}
use Rattle.dspec_interleaving.specs.Words.{are_all_back, is_out, measured, sealed_by}
use Rattle.dspec_interleaving.specs.declared.flight.{CpuProgress.CpuProgress, Spare.Spare}
use Rattle.dspec_deeds.specs.declared.calls.CpuOp.TheVariants as cpu_op
use Rattle.dspec_interleaving.specs.declared.flight.CallPlace.TheVariants as cpu
use Rattle.dspec_interleaving.specs.declared.flight.Spare.TheVariants as spare
use Rattle.dspec_deeds.proofs.TestLemmas.{and_false}
use Rattle.dspec_interleaving.proofs.WholeLeads.{begins, later, idle, Leads, RunsTo, goes, starts}
use Rattle.dspec_interleaving.proofs.WholeSettling.{IsAtRest, serve_leads}

module _ (shape : ℕ → Option Shape) (k : Config) (c : ℕ) (h : List Deed) (at : IsAtRest k c h) (j : ℕ) (last : suc j ≡ k.nspec) where
  abbrev leaves : CpuProgress → Bool → WholeCpu
  leaves me b = if b then whole_service shape k c (record (idle me) { spare = spare.Handed }) (Seal c ∷ h) true else whole_service shape k c (idle me) h false

  -- the slots from the first one
  from_first : (me : CpuProgress) → Leads shape k c h (cpu_step shape k c h me (cpu.ServiceLoad 1 record { sealed = false; settled = 0 })) (whole_service shape k c (idle me) h false)
  from_first me = let all : suc (zero + j) ≡ k.nspec = omega arith in serve_leads shape k c h at false j zero me all

  sealed_rests : IsAtRest k c (Seal c ∷ h)
  sealed_rests = record { sound = (at.sound, (at.rests, tt)); rests = refl; still = at.still }

  -- after the Seal: the push, and the slots
  from_push : (me : CpuProgress) → Leads shape k c (Seal c ∷ h) (cpu_step shape k c (Seal c ∷ h) me cpu.ServicePush)
      (whole_service shape k c (record (idle me) { spare = spare.Handed }) (Seal c ∷ h) true)
  from_push me =
      let all : suc (zero + j) ≡ k.nspec = omega arith in
      let l = serve_leads shape k c (Seal c ∷ h) sealed_rests true j zero
      (record me { flight = Some (cpu.ServiceLoad 1 record { sealed = true; settled = 0 }); steps = me.steps + 1; spare = spare.Handed }) all in
      record { steps = suc l.steps; is = l.is }

  -- the Seal, where a spare is in hand or came back
  seal_leads : (me : CpuProgress) → Leads shape k c h (sealed_by me c) (leaves me true)
  seal_leads me = let l = from_push (record me { flight = Some cpu.ServicePush; steps = me.steps + 1; spare = spare.Sealed }) in record { steps = suc l.steps; is = l.is }

  -- a spare is in hand, or comes back
  abbrev has_spare : Spare → Bool
  has_spare spare.InHand = true
  has_spare spare.GivenBack = true
  has_spare place = false

  abbrev is_back : Spare → Bool
  is_back spare.GivenBack = true
  is_back place = false

  spare_is : (me : CpuProgress) (place : Spare) → me.spare ≡ place → SpareCounts (seals c h) me.takes place → place ≢ spare.Sealed → are_all_back (seals c h) me ≡ has_spare place
  spare_is me place is counts unsealed = ap (λ (p : Spare). (seals c h == me.takes) && not (is_out p)) is ∙ go place counts unsealed
    where
      go : (p : Spare) → SpareCounts (seals c h) me.takes p → p ≢ spare.Sealed → ((seals c h == me.takes) && not (is_out p)) ≡ has_spare p
      go spare.InHand n u = let same : (seals c h == me.takes) ≡ true = grind (arith, nat_tests) in rw same refl
      go spare.Sealed n u = absurd (u refl)
      go spare.Handed n u = let other : (seals c h == me.takes) ≡ false = grind (arith, nat_tests) in rw other refl
      go spare.Out n u = and_false (seals c h == me.takes)
      go spare.GivenBack n u = let same : (seals c h == me.takes) ≡ true = grind (arith, nat_tests) in rw same refl

  no_spare : (me : CpuProgress) → Leads shape k c h (call_goes_on me [] (cpu.ServiceLoad 1 record { sealed = false; settled = 0 })) (leaves me false)
  no_spare me = goes me (from_first (later me (cpu.ServiceLoad 1 record { sealed = false; settled = 0 })))

  -- the pop of a spare
  popped_leads : (me : CpuProgress) (place : Spare) → Leads shape k c h (popped k c (measured shape k c h) me place) (leaves me (is_back place))
  popped_leads me spare.GivenBack = seal_leads me
  popped_leads me place = no_spare me

  pops : (me : CpuProgress) (place : Spare) → me.spare ≡ place → Leads shape k c h (call_goes_on me [] cpu.ServicePop) (leaves me (is_back place))
  pops me place is = goes me
      (subst (λ (p : Spare). Leads shape k c h (popped k c (measured shape k c h) (later me cpu.ServicePop) p) (leaves me (is_back place))) (sym is)
      (popped_leads (later me cpu.ServicePop) place))

  asked_leads : (me : CpuProgress) (place : Spare) → me.spare ≡ place → (t : Bool) → Leads shape k c h (asked k c (measured shape k c h) me t place) (leaves me (t && has_spare place))
  asked_leads me place is false = no_spare me
  asked_leads me spare.InHand is true = seal_leads me
  asked_leads me place is true = pops me place is

  -- the first step of a service, by the policy
  begun_leads : (me : CpuProgress) (sealing : Bool)
      → Leads shape k c h (asked k c (measured shape k c h) me (nat_lt (seals c h) me.want && nat_lt (seals c h) k.max_calls) me.spare) (leaves me sealing)
      → (b : Bool)
      → Leads shape k c h
      (if b then loads_service k c (measured shape k c h) me 1 record { sealed = false; settled = 0 } else asked k c (measured shape k c h) me
      (nat_lt (seals c h) me.want && nat_lt (seals c h) k.max_calls) me.spare)
      (leaves me (not b && sealing))
  begun_leads me sealing leads true = from_first me
  begun_leads me sealing leads false = leads

  swap : (a b m : Bool) → ((a && m) && b) ≡ (a && (b && m))
  swap true true true = refl
  swap true true false = refl
  swap true false true = refl
  swap true false false = refl
  swap false b m = refl

  pub service_alone : (me : CpuProgress) → SpareCounts (seals c h) me.takes me.spare → me.spare ≢ spare.Sealed
      → RunsTo shape k c h (begins me cpu_op.Service) (whole_cpu shape k c (idle me) h cpu_op.Service)
  service_alone me counts unsealed =
      let sealing : ((nat_lt (seals c h) me.want && nat_lt (seals c h) k.max_calls) && has_spare me.spare)
      ≡ (nat_lt (seals c h) me.want && (are_all_back (seals c h) (idle me) && nat_lt (seals c h) k.max_calls)) =
      ap (λ (b : Bool). (nat_lt (seals c h) me.want && nat_lt (seals c h) k.max_calls) && b) (sym (spare_is (idle me) me.spare refl counts unsealed))
      ∙ swap (nat_lt (seals c h) me.want) (are_all_back (seals c h) (idle me)) (nat_lt (seals c h) k.max_calls) in
      starts me cpu_op.Service
      (begun_leads (begins me cpu_op.Service) _
      (subst (λ (b : Bool). Leads shape k c h
      (asked k c (measured shape k c h) (begins me cpu_op.Service) (nat_lt (seals c h) me.want && nat_lt (seals c h) k.max_calls) me.spare) (leaves me b)) sealing
      (asked_leads (begins me cpu_op.Service) me.spare refl _)) (is_fill k.policy))
