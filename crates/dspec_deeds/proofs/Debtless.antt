-- What one caller discarded alone is the present speculation of its slot only until the release that is owed.
use Rattle.std.proofs.Common.{◌≡◌, ℕ, suc, ◌≤◌, true, false, ◌&&◌, ◌==◌, if◌then◌else◌, List, [], ◌∷◌, refl, sym, ap, ◌∙◌, subst, ⊎_elim, arith, true≢false}
use Rattle.dspec_deeds.specs.Words.{Speculation, is_commit, is_discard, same_id, issue, present, opens, opened, undecided, committed, discarded, verdict, latest, is_undecided, callers, is_sole}
use Rattle.dspec_deeds.specs.Words.{owed, IsSound}
use Rattle.dspec_deeds.specs.declared.config.Config.{Config}
use Rattle.dspec_deeds.specs.declared.deed.Deed.{Deed, TheVariants.Opened, TheVariants.Speculate, TheVariants.Commit, TheVariants.Discard, TheVariants.Release}
use Rattle.dspec_deeds.proofs.{PresentIds.decided_given, PresentIds.decided_shut, PresentIds.later_unopened, SoundLists.unseen, StayingDecided.shut_stays, TestLemmas.either_way, TestLemmas.off}
use Rattle.dspec_deeds.proofs.{TestLemmas.and_tells, TestLemmas.or_tells, TestLemmas.number_is_itself, TestLemmas.same_id_tells}

-- slots are numbered from 1
pub opened_positive : (k : Config) (h : List Deed) (id : Speculation) → IsSound k h → opened id h ≡ true → 1 ≤ id.slot
opened_positive k [] id s is = absurd (true≢false (sym is))
opened_positive k (d ∷ h) id s is = ⊎_elim (here d s) (λ (t : opened id h ≡ true). opened_positive k h id s.0 t) (or_tells (opens id d) (opened id h) is)
  where
    here : (d : Deed) → IsSound k (d ∷ h) → opens id d ≡ true → 1 ≤ id.slot
    here (Opened c j) s t = subst (λ (x : Speculation). 1 ≤ x.slot) (sym (same_id_tells id j t)) s.1.1.1
    here d s t = absurd (true≢false (sym t))

-- the present speculation of the slot was discarded by its one caller
pub record IsThrown (s a : ℕ) (h : List Deed) : Type 0 where
  pub by : verdict (present s h) h ≡ discarded a
  pub alone : is_sole a (callers (present s h) h) ≡ true

module _ (k : Config) where
  -- a slot that is there cannot be both owed and not
  clash : {P : Type 0} (h : List Deed) (s a : ℕ) → IsSound k h → IsThrown s a h → owed h ≡ s → owed h ≡ 0 → P
  clash h s a sound t at none = let one = opened_positive k h (present s h) sound (decided_given k h (present s h) sound (ap is_undecided t.by)) in absurd (omega arith)

  -- such a slot has to be released next
  pub debt : (h : List Deed) (s a : ℕ) → IsSound k h → IsThrown s a h → owed h ≡ s
  debt [] s a sound t = absurd (cc (t.by))
  debt (Speculate c j r f ∷ h) s a sound t =
      let same = shut_stays k (Speculate c j r f) h (present s h) sound (decided_shut (present s h) h (ap is_undecided t.by)) in
      let was : IsThrown s a h = record { by = t.by; alone = subst (λ cs. is_sole a cs ≡ true) same.1 t.alone } in
      clash h s a sound.0 was (debt h s a sound.0 was) sound.1.0
  debt (Commit c j f ∷ h) s a sound t = ⊎_elim
      (λ (hit : (is_commit f && same_id (present s h) j) ≡ true). let v : committed c
      ≡ discarded a = subst (λ b. latest (if b then committed c else undecided) (verdict (present s h) h) ≡ discarded a) hit t.by in absurd (cc (v)))
      (λ (miss : (is_commit f && same_id (present s h) j) ≡ false).
      let v : verdict (present s h) h ≡ discarded a = subst (λ b. latest (if b then committed c else undecided) (verdict (present s h) h) ≡ discarded a) miss t.by in
      let was : IsThrown s a h = record { by = v; alone = t.alone } in
      clash h s a sound.0 was (debt h s a sound.0 was) sound.1.0)
      (either_way (is_commit f && same_id (present s h) j))
  debt (Discard c j f ∷ h) s a sound t = ⊎_elim
      (λ (hit : (is_discard f && same_id (present s h) j) ≡ true).
      let both = and_tells (is_discard f) (same_id (present s h) j) hit in
      let is : present s h ≡ j = same_id_tells (present s h) j both.1 in
      let by : discarded c ≡ discarded a = subst (λ b. latest (if b then discarded c else undecided) (verdict (present s h) h) ≡ discarded a) hit t.by in
      let c_is : c ≡ a = cc in
      let sole : is_sole c (callers j h) ≡ true = subst (λ (p : ℕ × Speculation). is_sole p.0 (callers p.1 h) ≡ true) (λ i. (sym c_is i, is i)) t.alone in
      let all : (is_discard f && is_sole c (callers j h)) ≡ true = rw (both.0, sole) refl in
      rw all (ap (λ (x : Speculation). x.slot) (sym is)))
      (λ (miss : (is_discard f && same_id (present s h) j) ≡ false).
      let v : verdict (present s h) h ≡ discarded a = subst (λ b. latest (if b then discarded c else undecided) (verdict (present s h) h) ≡ discarded a) miss t.by in
      let was : IsThrown s a h = record { by = v; alone = t.alone } in
      clash h s a sound.0 was (debt h s a sound.0 was) sound.1.0)
      (either_way (is_discard f && same_id (present s h) j))
  debt (Release n ∷ h) s a sound t = ⊎_elim
      (λ (hit : (s == n) ≡ true).
      let at : issue s (Release n ∷ h) ≡ suc (issue s h) = rw hit refl in
      let next : Speculation = record { issue = suc (issue s h); slot = s } in
      let un : opened next h ≡ false = later_unopened k h next sound.0 (omega arith) in
      let v : verdict next h ≡ discarded a = subst (λ (m : ℕ). verdict record { issue = m; slot = s } h ≡ discarded a) at t.by in
      absurd (cc (sym (unseen k h next sound.0 un).0 ∙ v)))
      (λ (miss : (s == n) ≡ false).
      let at : issue s (Release n ∷ h) ≡ issue s h = rw miss refl in
      let was : IsThrown s a h = record {
        by = subst (λ (m : ℕ). verdict record { issue = m; slot = s } h ≡ discarded a) at t.by;
        alone = subst (λ (m : ℕ). is_sole a (callers record { issue = m; slot = s } h) ≡ true) at t.alone;
      } in
      let owes = debt h s a sound.0 was in
      ⊎_elim
      (λ (none : owed h ≡ 0). clash h s a sound.0 was owes none)
      (λ (other : owed h ≡ n). off (s == n) (subst (λ x. (s == x) ≡ true) (sym owes ∙ other) (number_is_itself s)) miss)
      sound.1.0)
      (either_way (s == n))
  debt (d ∷ h) s a sound t = let was : IsThrown s a h = record { by = t.by; alone = t.alone } in clash h s a sound.0 was (debt h s a sound.0 was) sound.1.0

  -- without a debt no present speculation was discarded by its one caller
  pub debtless : (h : List Deed) (s a : ℕ) → IsSound k h → owed h ≡ 0 → verdict (present s h) h ≡ discarded a → is_sole a (callers (present s h) h) ≡ false
  debtless h s a sound none by = ⊎_elim
      (λ (t : is_sole a (callers (present s h) h) ≡ true). let is : IsThrown s a h = record { by = by; alone = t } in clash h s a sound is (debt h s a sound is) none)
      (λ f. f)
      (either_way (is_sole a (callers (present s h) h)))
