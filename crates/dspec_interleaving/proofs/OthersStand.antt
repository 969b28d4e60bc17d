-- Another actor's deeds leave a CPU's side standing.
use Rattle.std.proofs.Common.{◌≡◌, ◌⊎◌, ℕ, ◌<◌, ◌≤◌, Bool, true, false, List, [], ◌∷◌, ◌++◌, Option, Some, None, refl, sym, ap, ◌∙◌, subst, ⊎_elim, inl, inr, arith}
use Rattle.dspec_interleaving.specs.Words.{Shape, Act, Speculation, SlotState, word_number, speculate_at, commit_at, discard_at, same_actor, author, is_among, issue, present, opened, committed}
use Rattle.dspec_interleaving.specs.Words.{verdict, is_undecided, callers, solo, settled, scan, opened_since, part, late, owed, word_at, seals, IsSound, sealed_last, OnItsWay, Expects, StandsCpu}
use Rattle.dspec_interleaving.specs.Words.{StandsProgress, SpareCounts, ProgressStands, Config, Actor, Cpu, Deed}
use Rattle.dspec_interleaving.specs.declared.flight.{CallPlace.CallPlace, CpuProgress.CpuProgress}
use Rattle.dspec_interleaving.specs.declared.flight.CallPlace.TheVariants as cpu
use Rattle.dspec_deeds.proofs.{Awaiting.awaiting, Going.AllBy, Going.GoesOn, PresentIds.present_is, StayingDecided.WaitsFor, StayingDecided.waits_stays, StayingFree.free_or_taken}
use Rattle.dspec_deeds.proofs.{StayingOwn.scan_other, StayingOwn.late_other, StayingOwn.has_other, StayingOwn.seals_other, TestLemmas.same_actor_tells, WordCodes.open_inactive, WordsRise.words_rise}

-- what each of an actor's deeds leaves, all of them leave
pub over : (k : Config) (w : Actor) (P : List Deed → Type 0) → ((x : Deed) (g : List Deed) → IsSound k (x ∷ g) → same_actor w (author x g) ≡ true → P g → P (x ∷ g))
    → (ds h : List Deed) → IsSound k (ds ++ h) → AllBy w ds h → P h → P (ds ++ h)
over k w P keeps [] h s by p = p
over k w P keeps (x ∷ ds) h s by p = keeps x (ds ++ h) s by.1 (over k w P keeps ds h s.0 by.0 p)

-- a list that goes on soundly was sound
pub sound_below : (k : Config) (ds h : List Deed) → IsSound k (ds ++ h) → IsSound k h
sound_below k [] h s = s
sound_below k (x ∷ ds) h s = sound_below k ds h s.0

-- the CPU decided the speculation alone, and has not released its slot
record HoldsAlone (c : ℕ) (id : Speculation) (h : List Deed) : Type 0 where
  ruled : verdict id h ≡ committed c
  alone : solo id h ≡ Some c
  given : opened id h ≡ true
  now : id.issue ≡ issue id.slot h

-- what a slot that was shown waits for
record Unsettled (c s : ℕ) (w : SlotState) (h : List Deed) : Type 0 where
  given : opened (present s h) h ≡ true
  ruled : is_undecided (verdict (present s h) h) ≡ false
  alone : solo (present s h) h ≡ None
  unsettled : settled c (present s h) h ≡ false
  shown : word_at s h ≡ w

module _ (k : Config) (w : Actor) (c : ℕ) (other : same_actor (Cpu c) w ≡ false) (ds h : List Deed) (sound : IsSound k (ds ++ h)) (by : AllBy w ds h) where
  across : (P : List Deed → Type 0) → ((x : Deed) (g : List Deed) → IsSound k (x ∷ g) → same_actor (Cpu c) (author x g) ≡ false → P g → P (x ∷ g)) → P h → P (ds ++ h)
  across P keeps = over k w P (λ x g s e. keeps x g s (subst (λ a. same_actor (Cpu c) a ≡ false) (same_actor_tells w (author x g) e) other)) ds h sound by

  scan_stays : scan k c (ds ++ h) ≡ scan k c h
  scan_stays = across (λ g. scan k c g ≡ scan k c h) (λ x g s o e. scan_other k c x g o ∙ e) refl

  seals_stays : seals c (ds ++ h) ≡ seals c h
  seals_stays = across (λ g. seals c g ≡ seals c h) (λ x g s o e. seals_other c x g o ∙ e) refl

  has_stays : (id : Speculation) → is_among c (callers id (ds ++ h)) ≡ is_among c (callers id h)
  has_stays id = across (λ g. is_among c (callers id g) ≡ is_among c (callers id h)) (λ x g s o e. has_other c id x g o ∙ e) refl

  part_stays : part (Cpu c) (ds ++ h) ≡ part (Cpu c) h
  part_stays = across (λ g. part (Cpu c) g ≡ part (Cpu c) h) (λ x g s o e. rw o e) refl

  late_stays : late c h ≡ false → late c (ds ++ h) ≡ false
  late_stays = across (λ g. late c g ≡ false) (λ x g s o e. late_other c x g o e)

  word_rises : (s : ℕ) → word_number (word_at s h) ≤ word_number (word_at s (ds ++ h))
  word_rises t = across (λ g. word_number (word_at t h) ≤ word_number (word_at t g)) (λ x g s o e. let r = words_rise k t x g s in omega arith) (omega arith)

  on_its_way : (id : Speculation) → OnItsWay k c h id → OnItsWay k c (ds ++ h) id
  on_its_way id o = record { in_range = o.in_range; scans_not = scan_stays ∙ o.scans_not; early = late_stays o.early }

  expects : (act : Bool → Act) (from : SlotState) (id : Speculation) → Expects (act (is_among c (callers id h))) from id h → Expects (act (is_among c (callers id (ds ++ h)))) from id (ds ++ h)
  expects act from id e = record { to = e.to; attempts = ap act (has_stays id) ∙ e.attempts; rises = (let a = e.rises in let b = word_rises id.slot in omega arith) }

  holds_alone : c < k.cpus → (id : Speculation) → HoldsAlone c id h → HoldsAlone c id (ds ++ h)
  holds_alone lt id = across (HoldsAlone c id) step
    where
      step : (x : Deed) (g : List Deed) → IsSound k (x ∷ g) → same_actor (Cpu c) (author x g) ≡ false → HoldsAlone c id g → HoldsAlone c id (x ∷ g)
      step x g s o was =
          let p : present id.slot g ≡ id = present_is id g (sym was.now) in
          let waits : WaitsFor k c id.slot g = record {
            given = subst (λ j. opened j g ≡ true) (sym p) was.given;
            ruled = subst (λ j. is_undecided (verdict j g) ≡ false) (sym p) (ap is_undecided was.ruled);
            waits = inl (subst (λ j. solo j g ≡ Some c) (sym p) was.alone);
          } in
          let both = waits_stays k c id.slot x g lt s o waits in
          let now : id.issue ≡ issue id.slot (x ∷ g) = was.now ∙ sym both.1.issues in
          let q : present id.slot (x ∷ g) ≡ id = present_is id (x ∷ g) (sym now) in
          record {
            ruled = subst (λ j. verdict j (x ∷ g) ≡ committed c) q (both.1.verdicts ∙ subst (λ j. verdict j g ≡ committed c) (sym p) was.ruled);
            alone = subst (λ j. solo j (x ∷ g) ≡ Some c) q (both.1.solos ∙ subst (λ j. solo j g ≡ Some c) (sym p) was.alone);
            given = subst (λ j. opened j (x ∷ g) ≡ true) q both.0.given;
            now = now;
          }

  unsettled : c < k.cpus → (s : ℕ) (v : SlotState) → Unsettled c s v h → Unsettled c s v (ds ++ h)
  unsettled lt t v = across (Unsettled c t v) step
    where
      step : (x : Deed) (g : List Deed) → IsSound k (x ∷ g) → same_actor (Cpu c) (author x g) ≡ false → Unsettled c t v g → Unsettled c t v (x ∷ g)
      step x g s o was =
          let waits : WaitsFor k c t g = record { given = was.given; ruled = was.ruled; waits = inr (was.alone, was.unsettled) } in
          let both = waits_stays k c t x g lt s o waits in
          let alone : solo (present t (x ∷ g)) (x ∷ g) ≡ None = both.1.solos ∙ was.alone in
          record {
            given = both.0.given;
            ruled = both.0.ruled;
            alone = alone;
            unsettled = ⊎_elim (λ (one : solo (present t (x ∷ g)) (x ∷ g) ≡ Some c). absurd (cc (one, alone))) (λ two. two.1) both.0.waits;
            shown = both.1.word ∙ was.shown;
          }

  stands_cpu : c < k.cpus → owed h ≡ 0 → (me : CpuProgress) (f : CallPlace) → StandsCpu k c h me f → StandsCpu k c (ds ++ h) me f
  stands_cpu lt rests me (cpu.Begun o) st = (scan_stays ∙ st.0, st.1)
  stands_cpu lt rests me (cpu.ScanLoad s) st = (st.0, scan_stays ∙ st.1, st.2)
  stands_cpu lt rests me (cpu.ScanTry s from) st = (
    st.0,
    scan_stays ∙ st.1,
    st.2,
    st.3,
    across (λ g. (word_at s g ≡ from) ⊎ (opened_since c s g ≡ true))
        (λ x g sd o e. free_or_taken k c s from x g sd o (open_inactive from st.3.0 k.max_issues st.3.1) e) st.4,
  )
  stands_cpu lt rests me (cpu.SpeculateLoad id r) st = (on_its_way id st.0, st.1)
  stands_cpu lt rests me (cpu.SpeculateTry id r from) st = (on_its_way id st.0, expects (speculate_at from id) from id st.1, st.2)
  stands_cpu lt rests me (cpu.CommitLoad id) st = (on_its_way id st.0, st.1)
  stands_cpu lt rests me (cpu.CommitTry id from) st = (on_its_way id st.0, expects (commit_at from id) from id st.1, st.2)
  stands_cpu lt rests me (cpu.CommitRelease id f) st =
      let now = holds_alone lt id record { ruled = st.2; alone = st.3; given = st.4; now = st.5 } in
      (st.0, scan_stays ∙ st.1, now.ruled, now.alone, now.given, now.now, ap sealed_last part_stays ∙ st.6, st.7)
  stands_cpu lt rests me (cpu.DiscardLoad id) st = (on_its_way id st.0, st.1)
  stands_cpu lt rests me (cpu.DiscardTry id from) st = (on_its_way id st.0, expects (discard_at from id) from id st.1, st.2)
  stands_cpu lt rests me cpu.ServicePop st = (scan_stays ∙ st.0, st.1, subst (λ n. n < k.max_calls) (sym seals_stays) st.2, st.3)
  stands_cpu lt rests me cpu.ServicePush st = (scan_stays ∙ st.0, st.1, st.2)
  stands_cpu lt rests me (cpu.ServiceLoad s sum) st = (st.0, scan_stays ∙ st.1, st.2, st.3)
  stands_cpu lt rests me (cpu.ServiceStore s v sum) st =
      let was = awaiting k s h v.code (sound_below k ds h sound) rests (ap (λ (x : SlotState). x.code) st.4) st.5 in
      let now = unsettled lt s v record { given = was.given; ruled = was.ruled; alone = was.alone; unsettled = st.6; shown = st.4 } in
      (st.0, scan_stays ∙ st.1, st.2, st.3, now.shown, st.5, now.unsettled)

  stands_progress : c < k.cpus → owed h ≡ 0 → (me : CpuProgress) (f : Option CallPlace) → StandsProgress k c h me f → StandsProgress k c (ds ++ h) me f
  stands_progress lt rests me None st = (scan_stays ∙ st.0, st.1)
  stands_progress lt rests me (Some f) st = stands_cpu lt rests me f st

-- another actor's deeds leave a CPU's side standing
pub others_stand : (shape : ℕ → Option Shape) (k : Config) (w : Actor) (c : ℕ) (ds h : List Deed) (me : CpuProgress) → owed h ≡ 0 → GoesOn shape k w ds h → same_actor (Cpu c) w ≡ false → c < k.cpus
    → ProgressStands k c h me → ProgressStands k c (ds ++ h) me
others_stand shape k w c ds h me rests goes other lt st = record {
  flight = stands_progress k w c other ds h goes.legal.0 goes.by lt rests me me.flight st.flight;
  counts = subst (λ n. SpareCounts n me.takes me.spare) (sym (seals_stays k w c other ds h goes.legal.0 goes.by)) st.counts;
  pushes = st.pushes;
  want = st.want;
}
