-- The counts of a CPU have room for its next deed.
use Rattle.std.proofs.Common.{◌≡◌, ℕ, ◌+◌, ◌-◌, ◌<◌, ◌≤◌, ◌^◌, Bool, true, false, if◌then◌else◌, List, ◌∷◌, length, Option, None, sym, ap, ◌∙◌, arith}
use Rattle.std.proofs.lemmas.Bool.Decides.{nat_tests}
use Rattle.dspec_core.specs.Words.{report_of, Shape, Piece, Speculation, is_lost, IsAllowed, calls, start_fault, report, speculative, HasRoom, IsRoomy, counts_of, with_decided, with_fate, ShowsList}
use Rattle.dspec_core.specs.Words.{decides, deed_of, Config, DecideFate, Deed, Report, Counts, CpuState}
use Rattle.dspec_core.specs.declared.machine.decision.Decision.{Decision}
use Rattle.dspec_deeds.proofs.{Balance.balance, DeedEffects.legal_accounts, ReportBounds.report_within}
use Rattle.dspec_cpu_state.proofs.Tallies.{commit_counts, discard_counts}
use Rattle.dspec_interleaving.proofs.{CleanReads.calls_fit, Counts.calls_counted, Counts.drops_counted, Counts.seals_counted}

lost_within : (b : Bool) (n : ℕ) → n + 1 < 2 ^ 64 → n + (if b then 1 else 0) < 2 ^ 64
lost_within true n fits = fits
lost_within false n fits = omega arith

module _ (shape : ℕ → Option Shape) (k : Config) (c : ℕ) where
  -- no count is too large to be raised where a CPU has made no more calls than it may
  roomy : (h : List Deed) (n : Counts) → start_fault k ≡ None → IsAllowed shape k h → calls c h ≤ k.max_calls → n ≡ counts_of k c n.worn h → IsRoomy n
  roomy h n fine legal few counted =
      let within = report_within shape k c 0 h legal in
      let most = calls_fit k fine in
      rw counted (record {
        offered = omega arith;
        accepted = omega arith;
        dropped = omega arith;
        specdropped = omega arith;
        lost = omega arith;
        discarded = omega arith;
        void = omega arith;
        drops = omega arith;
        unavailable = omega arith;
        busy = omega arith;
        stopped = omega arith;
      })

  -- a deed that decides or settles can be counted where the list with it can
  decides_in : (d : Deed) (f : DecideFate) (h : List Deed) (n : Counts) → counts_of k c n.worn (d ∷ h) ≡ with_decided f (counts_of k c n.worn h) → IsAllowed shape k (d ∷ h) → calls c (d ∷ h) < 2 ^ 64
      → n ≡ counts_of k c n.worn h → HasRoom f n
  decides_in d f h n adds legal lt counted =
      let within = report_within shape k c 0 (d ∷ h) legal in
      let is : with_decided f n ≡ counts_of k c n.worn (d ∷ h) = ap (with_decided f) counted ∙ sym adds in
      let accepted = ap (λ (x : Counts). x.accepted) is in
      let lost = ap (λ (x : Counts). x.lost) is in
      let discarded = ap (λ (x : Counts). x.discarded) is in
      let drops = ap (λ (x : Counts). x.drops) is in
      let stopped = ap (λ (x : Counts). x.stopped) is in
      let a = within.accepted in
      let b = within.lost in
      let e = within.discarded in
      let g = within.drops in
      let i = within.stopped in
      record { accepted = omega arith; lost = omega arith; discarded = omega arith; drops = omega arith; stopped = omega arith }

  -- a commit is no discard, and a discard no commit
  pub decided_counts : (x : Decision) (id : Speculation) (f : DecideFate) (w : ℕ) (h : List Deed) → decides x f ≡ true → counts_of k c w (deed_of x c id f ∷ h) ≡ with_decided f (counts_of k c w h)
  decided_counts x id f w h h1 = grind (arith, nat_tests, commit_counts, discard_counts)

  -- what there is room for where a deed more is in a list that can be counted
  pub record HasDeedRoom {B : Type 0} (d : Deed) (h : List Deed) (side : CpuState B) : Type 0 where
    pub call : side.calls + 1 < 2 ^ 64
    pub drop : side.drops + 1 < 2 ^ 64
    pub lost : (f : DecideFate) → side.drops + (if is_lost f then 1 else 0) < 2 ^ 64
    pub seal : side.seals + 1 < 2 ^ 64
    pub counts : calls c h ≤ k.max_calls → IsRoomy side.counts
    pub decide : (f : DecideFate) → ((w : ℕ) → counts_of k c w (d ∷ h) ≡ with_decided f (counts_of k c w h)) → HasRoom f side.counts

  pub deed_fits : {B : Type 0} (keeps : B → List Piece → Type 0) (capacity : B → ℕ) (h : List Deed) (side : CpuState B) → ShowsList keeps capacity k c h side → start_fault k ≡ None
      → (d : Deed) → IsAllowed shape k (d ∷ h) → length h + 1 < 2 ^ 64 → HasDeedRoom d h side
  deed_fits keeps capacity h side was fine d legal long =
      let calls_made = calls_counted c h in
      let calls_next = calls_counted c (d ∷ h) in
      let seals_made = seals_counted c h in
      let drops_made = drops_counted c h in
      let called = was.parts.called in
      let sealed = was.parts.sealed in
      let dropped = was.parts.drops in
      let drops : side.drops + 1 < 2 ^ 64 = omega arith in
      record {
        call = omega arith;
        drop = drops;
        lost = λ f. lost_within (is_lost f) side.drops drops;
        seal = omega arith;
        counts = λ few. roomy h side.counts fine (legal.0.0, legal.1.0) few was.counted;
        decide = λ f adds. decides_in d f h side.counts (adds side.counts.worn) legal (omega arith) was.counted;
      }

  -- the records that have a fate were offered
  pub fates_within : (h : List Deed) (n : Counts) → n ≡ counts_of k c n.worn h → IsAllowed shape k h → with_fate n ≤ n.offered
  fates_within h n counted legal = let sum = balance k c 0 h (legal_accounts shape k c h legal) in rw counted (omega arith)

  -- and the others are held
  pub told : (h : List Deed) (n : Counts) (worn : ℕ) (answer : Report) → n ≡ counts_of k c n.worn h → n.worn ≡ worn → IsAllowed shape k h
      → answer ≡ report_of n → answer ≡ report k c worn h
  told h n worn answer counted same legal made =
      let m : Counts = counts_of k c n.worn h in
      let sum = balance k c worn h (legal_accounts shape k c h legal) in
      let left : m.offered - with_fate m ≡ length (speculative c h) = omega arith in
      made ∙ (ap report_of counted ∙ λ i. record (report k c worn h) { held = left i; worn = same i })
