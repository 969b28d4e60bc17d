-- What there is to settle in a slot whose word waits for every CPU.
use Rattle.std.proofs.Common.{arith, ◌≡◌, ℕ, Bool, true, false, if◌then◌else◌, List, [], ◌∷◌, Some, None, refl, sym, ap, ◌∙◌, subst, true≢false, not, ◌&&◌, Option}
use Rattle.std.proofs.lemmas.Bool.Decides.{nat_tests}
use Rattle.std.specs.Prelude.{is_none}
use Rattle.dspec_deeds.specs.Words.{Code, Inactive, Committing, CommittingMany, Discarding, awaits, is_commit, is_discard, present, opened, Ruling, undecided, committed, discarded, verdict}
use Rattle.dspec_deeds.specs.Words.{is_undecided, callers, standing, active_code, is_sole, is_sole_or_none, word_at, is_busy, solo, solo_of, owed, SettlesAs, IsSound}
use Rattle.dspec_deeds.specs.declared.{config.Config.Config, deed.DecideFate.DecideFate, deed.Deed.Deed}
use Rattle.dspec_deeds.proofs.{Debtless.debtless, TestLemmas.off, TestLemmas.and_tells, WordCodes.decided_awaits}

-- the fate that goes with the code
abbrev pub goes_with : Code → DecideFate → Bool
goes_with CommittingMany f = is_commit f
goes_with Discarding f = is_discard f
goes_with c f = false

-- a decided speculation that waits for every CPU, at that code
pub record IsAwaiting (s : ℕ) (h : List Deed) (c : Code) : Type 0 where
  pub given : opened (present s h) h ≡ true
  pub ruled : is_undecided (verdict (present s h) h) ≡ false
  pub fate : (f : DecideFate) → goes_with c f ≡ true → SettlesAs (verdict (present s h) h) f
  pub alone : solo (present s h) h ≡ None

-- where no release is owed, a word that waits is of a decided speculation that no CPU decided alone
pub awaiting : (k : Config) (s : ℕ) (h : List Deed) (c : Code) → IsSound k h → owed h ≡ 0 → (word_at s h).code ≡ c → awaits c ≡ true → IsAwaiting s h c
awaiting k s h c sound rests is a = go (opened (present s h) h) (verdict (present s h) h) (callers (present s h) h) refl refl refl is
  where
    active_no : (cs : List ℕ) → awaits (active_code cs) ≡ false
    active_no [] = refl
    active_no (x ∷ []) = refl
    active_no (x ∷ y ∷ cs) = refl

    many : (b : Bool) → (if b then Committing else CommittingMany) ≡ c → b ≡ false
    many true e = absurd (true≢false (sym a ∙ ap awaits (sym e)))
    many false e = refl

    go : (o : Bool) (v : Ruling) (cs : List ℕ) → opened (present s h) h ≡ o → verdict (present s h) h ≡ v → callers (present s h) h ≡ cs
        → (if opened (present s h) h then standing (verdict (present s h) h) (callers (present s h) h) else Inactive) ≡ c → IsAwaiting s h c
    go false v cs eo ev ec e = absurd (true≢false (sym a ∙ ap awaits (sym e ∙ ap (λ b. if b then standing (verdict (present s h) h) (callers (present s h) h) else Inactive) eo)))
    go true undecided cs eo ev ec e =
        let shown : active_code cs ≡ c = sym (λ i. if eo i then standing (ev i) (ec i) else Inactive) ∙ e in
        absurd (true≢false (sym a ∙ (ap awaits (sym shown) ∙ active_no cs)))
    go true (committed b) cs eo ev ec e =
        let shown : (if is_sole_or_none b cs then Committing else CommittingMany) ≡ c = sym (λ i. if eo i then standing (ev i) (ec i) else Inactive) ∙ e in
        let not_sole = many (is_sole_or_none b cs) shown in
        let c_is : CommittingMany ≡ c = sym (ap (λ x. if x then Committing else CommittingMany) not_sole) ∙ shown in
        record {
          given = eo;
          ruled = ap is_undecided ev;
          fate = λ f m. subst (λ v. SettlesAs v f) (sym ev) (subst (λ x. goes_with x f ≡ true) (sym c_is) m);
          alone = (λ i. solo_of (ev i) (ec i)) ∙ ap (λ x. if x then Some b else None) not_sole;
        }
    go true (discarded b) cs eo ev ec e =
        let c_is : Discarding ≡ c = sym (λ i. if eo i then standing (ev i) (ec i) else Inactive) ∙ e in
        let not_sole : is_sole b cs ≡ false = sym (ap (is_sole b) ec) ∙ debtless k h s b sound rests ev in
        record {
          given = eo;
          ruled = ap is_undecided ev;
          fate = λ f m. subst (λ v. SettlesAs v f) (sym ev) (subst (λ x. goes_with x f ≡ true) (sym c_is) m);
          alone = (λ i. solo_of (ev i) (ec i)) ∙ ap (λ x. if x then Some b else None) not_sole;
        }

-- what the test of None tells
is_none_tells : (x : Option ℕ) → is_none x ≡ true → x ≡ None
is_none_tells None e = refl
is_none_tells (Some c) e = absurd (true≢false (sym e))

-- what a negated test tells
not_tells : (b : Bool) → not b ≡ true → b ≡ false
not_tells true e = absurd (true≢false (sym e))
not_tells false e = refl

-- where no release is owed, a word waits exactly where its slot is busy and no CPU decided alone
pub awaits_is : (k : Config) (s : ℕ) (h : List Deed) → IsSound k h → owed h ≡ 0 → awaits (word_at s h).code ≡ (is_busy s h && is_none (solo (present s h) h))
awaits_is k s h sound rests = grind (arith, nat_tests, awaiting, and_tells, off, decided_awaits, not_tells, is_none_tells)
