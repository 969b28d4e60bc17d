-- The steps of calls of commit and discard.
use Rattle.std.proofs.Common.{◌≡◌, ◌≤◌, ◌+◌, ℕ, Bool, true, false, ◌&&◌, List, [], ◌∷◌, length, Option, Some, if◌then◌else◌, refl, sym, ap, ◌∙◌, subst, inl, inr, arith}
use Rattle.dspec_interleaving.specs.Words.{Shape, block, Speculation, SlotState, commit_at, discard_at, is_commit, scan, is_among, issue, opened, owed, committed, discarded, verdict, is_undecided}
use Rattle.dspec_interleaving.specs.Words.{is_sole, is_sole_or_none, standing, solo, releaser, same_actor, part, callers, present, word_at, is_open, late, contents, held, seals, sealed_last}
use Rattle.dspec_interleaving.specs.Words.{fits_principal, CpuLegal, begun, ends, call_goes_on, committed_by, is_alone, is_release, shown_commit, discarded_by, shown_discard, cpu_step, answer_of}
use Rattle.dspec_interleaving.specs.Words.{OnItsWay, StandsCpu, measured, Act, Void, Attempt, Config, Cpu, DecideFate, Deed, Commit, Discard, Release}
use Rattle.dspec_interleaving.specs.declared.flight.CpuProgress.{CpuProgress}
use Rattle.dspec_deeds.specs.declared.calls.Answer.TheVariants as answer
use Rattle.dspec_deeds.specs.declared.calls.CpuOp.TheVariants as cpu_op
use Rattle.dspec_deeds.specs.declared.calls.Decided.TheVariants as decided_answer
use Rattle.dspec_deeds.specs.declared.deed.DecideFate.TheVariants as decided
use Rattle.dspec_interleaving.specs.declared.flight.CallPlace.TheVariants as cpu
use Rattle.dspec_deeds.proofs.{Going.GoesOn, PresentIds.open_present, PresentIds.present_is, TestLemmas.number_is_itself, TestLemmas.id_is_itself, TestLemmas.cpu_is_itself, WordActs.commit_void}
use Rattle.dspec_deeds.proofs.{WordActs.commit_attempt, WordActs.discard_void, WordActs.discard_attempt}
use Rattle.dspec_interleaving.proofs.StepsAlone.{released_rules}
use Rattle.dspec_interleaving.proofs.StepsParts.{asks_stand, IsEarly, load_early, try_stands, MayCome, IsUnderWay, StepStands, either_stands, goes_by_none, goes_by, ends_by, ends_stand}
use Rattle.dspec_interleaving.proofs.StepsParts.{slot_in_range, only_cpu}
use Rattle.dspec_interleaving.proofs.StepsWords.{commit_tells, discard_tells, commit_plain, discard_plain, not_plain, alone_early, code_alone, word_releases}

module _ {shape : ℕ → Option Shape} {k : Config} {c : ℕ} {h : List Deed} {me : CpuProgress} (play : IsUnderWay shape k c h me) (id : Speculation) where
  -- commit: of an identifier that isn't open
  uncommitted_stands : scan k c h ≡ 0 → late c h ≡ false → is_open id h ≡ false → StepStands shape k c h (ends me (Commit c id decided.Void ∷ []) (answer.Decided decided_answer.Void))
  uncommitted_stands idle early shut = ends_by play (Commit c id decided.Void) _ play.rests (idle, refl, (early, sym shut)) tt refl (inl refl) refl idle

  pub commit_begins : scan k c h ≡ 0 → me.steps ≡ 0 → StepStands shape k c h (begun k c (measured shape k c h) me (cpu_op.Commit id))
  commit_begins idle first = asks_stand play id (cpu.CommitLoad id) _ _ _ _ idle
      (λ t. ends_by play (Commit c id decided.Stopped) _ play.rests (idle, refl, t) tt refl (inl refl) refl idle) (λ way. (way, omega arith)) (uncommitted_stands idle)

  -- after a commit that no other CPU's buffer waits for, the release is next
  releases_next : (f : DecideFate) → OnItsWay k c h id → issue id.slot h ≡ id.issue → opened id h ≡ true → is_commit f ≡ true → is_sole_or_none c (callers id h) ≡ true → me.steps ≤ 3
      → StandsCpu k c (Commit c id f ∷ h) (record me { flight = Some (cpu.CommitRelease id f); steps = me.steps + 1 }) (cpu.CommitRelease id f)
  releases_next f way now given commits sole steps =
      let own = id_is_itself id in
      let mine = number_is_itself c in
      (slot_in_range k id way.in_range, way.scans_not, rw (commits, own) refl, rw (commits, own, sole) refl, given, sym now, rw mine refl, omega arith)

  -- an exchange that succeeds
  committed_stands : (to : SlotState) → OnItsWay k c h id → commit_at (word_at id.slot h) id (is_among c (callers id h)) ≡ Attempt to → (is_alone (Attempt to) ≡ true → me.steps ≤ 3)
      → StepStands shape k c h (committed_by k c (measured shape k c h) me id (Attempt to))
  committed_stands to way e early = by_fate (fits_principal shape k c (block (contents (held c id h))) h) refl
    where
      did : (issue id.slot h ≡ id.issue) × (is_open id h ≡ true) × (to ≡ record { issue = issue id.slot h; code = standing (committed c) (callers id h) })
      did = commit_attempt k h id c to play.legal.0 e

      alone : is_alone (Attempt to) ≡ is_sole_or_none c (callers id h)
      alone = ap (λ w. is_alone (Attempt w)) did.2 ∙ code_alone (issue id.slot h) (is_sole_or_none c (callers id h))

      by : (f : DecideFate) → is_commit f ≡ true → MayCome k h (Commit c id f) → CpuLegal shape k h (Commit c id f)
          → StepStands shape k c h (if is_alone (Attempt to) then call_goes_on me (Commit c id f ∷ []) (cpu.CommitRelease id f) else ends me (Commit c id f ∷ []) (answer_of f))
      by f commits may own = either_stands (is_alone (Attempt to))
          (λ t. goes_by play (Commit c id f) (cpu.CommitRelease id f) play.rests may own refl (inr refl) refl
          (releases_next f way did.0 (open_present k h id play.legal.0 did.1).given commits (sym alone ∙ t) (early t)))
          (λ o. ends_by play (Commit c id f) _ play.rests may own refl (inl (ap (λ b. b && is_sole_or_none c (callers id h)) commits ∙ (sym alone ∙ o))) refl way.scans_not)

      by_fate : (fits : Bool) → fits_principal shape k c (block (contents (held c id h))) h ≡ fits
          → (let f = if fits then decided.Copied (length (held c id h)) else decided.Lost (length (held c id h)) in
          StepStands shape k c h (if is_alone (Attempt to) then call_goes_on me (Commit c id f ∷ []) (cpu.CommitRelease id f) else ends me (Commit c id f ∷ []) (answer_of f)))
      by_fate true fits = by (decided.Copied (length (held c id h))) refl (way.scans_not, refl, (way.early, sym did.1)) (refl, sym fits)
      by_fate false fits = by (decided.Lost (length (held c id h))) refl (way.scans_not, refl, (way.early, sym did.1)) (refl, sym fits)

  commit_shown : OnItsWay k c h id → IsEarly play commit_at id → (act : Act) → commit_at (word_at id.slot h) id (is_among c (callers id h)) ≡ act
      → StepStands shape k c h (shown_commit k c (measured shape k c h) me id (word_at id.slot h) act)
  commit_shown way tried Void e = uncommitted_stands way.scans_not way.early (commit_void k h id (is_among c (callers id h)) play.legal.0 e)
  commit_shown way tried (Attempt to) e =
      let least = tried to e in
      goes_by_none play (cpu.CommitTry id (word_at id.slot h)) (way, record { to = to; attempts = e; rises = omega arith }, omega arith)
  commit_shown way tried act e = not_plain _ act (commit_plain (word_at id.slot h) id (is_among c (callers id h))) e refl

  pub commit_loads : StandsCpu k c h me (cpu.CommitLoad id) → StepStands shape k c h (cpu_step shape k c h me (cpu.CommitLoad id))
  commit_loads at = commit_shown at.0 (load_early play commit_at commit_tells id at.1) _ refl

  pub commit_tries : (from : SlotState) → StandsCpu k c h me (cpu.CommitTry id from) → StepStands shape k c h (cpu_step shape k c h me (cpu.CommitTry id from))
  commit_tries from at = try_stands play commit_at commit_tells id from _ _ (at.1, at.2)
      (λ to was now. subst (λ act. StepStands shape k c h (committed_by k c (measured shape k c h) me id act)) (sym was)
      (committed_stands to at.0 now (λ alone.
      let early = alone_early from id (is_among c (callers id h)) (subst (λ act. is_alone act ≡ true) (sym was) alone) in
      let steps = at.2 in
      omega arith)))
      (λ tried. commit_shown at.0 tried _ refl)

  -- the release after a commit that no other CPU's buffer waits for
  pub commit_releases : (f : DecideFate) → StandsCpu k c h me (cpu.CommitRelease id f) → StepStands shape k c h (cpu_step shape k c h me (cpu.CommitRelease id f))
  commit_releases f at =
      let is = present_is id h (sym at.5) in
      let ruled : is_undecided (verdict (present id.slot h) h) ≡ false = ap (λ j. is_undecided (verdict j h)) is ∙ ap is_undecided at.2 in
      let alone : solo (present id.slot h) h ≡ Some c = ap (λ j. solo j h) is ∙ at.3 in
      ends_by play (Release id.slot) (answer_of f) (inl play.rests)
      ((ruled, inl (λ none. absurd (cc (alone, none)))), only_cpu c (λ a. scan k a h ≡ 0) (solo (present id.slot h) h) alone at.1)
      (only_cpu c (λ a. sealed_last (part (Cpu a) h) ≡ false) (solo (present id.slot h) h) alone at.6)
      (ap releaser alone) tt refl at.1

  -- discard: of an identifier that isn't open
  undiscarded_stands : scan k c h ≡ 0 → late c h ≡ false → is_open id h ≡ false → StepStands shape k c h (ends me (Discard c id decided.Void ∷ []) (answer.Decided decided_answer.Void))
  undiscarded_stands idle early shut = ends_by play (Discard c id decided.Void) _ play.rests (idle, refl, (early, sym shut)) tt refl refl refl idle

  pub discard_begins : scan k c h ≡ 0 → me.steps ≡ 0 → StepStands shape k c h (begun k c (measured shape k c h) me (cpu_op.Discard id))
  discard_begins idle first = asks_stand play id (cpu.DiscardLoad id) _ _ _ _ idle
      (λ t. ends_by play (Discard c id decided.Stopped) _ play.rests (idle, refl, t) tt refl refl refl idle) (λ way. (way, omega arith)) (undiscarded_stands idle)

  -- a discard by the one caller, and its release
  releases : (n : ℕ) → OnItsWay k c h id → issue id.slot h ≡ id.issue → is_open id h ≡ true → n ≡ length (held c id h) → is_sole c (callers id h) ≡ true
      → GoesOn shape k (Cpu c) (Release id.slot ∷ Discard c id (decided.Thrown n) ∷ []) h
  releases n way now is_now count sole =
      let new : List Deed = Discard c id (decided.Thrown n) ∷ h in
      let own = id_is_itself id in
      let decides : verdict id new ≡ discarded c = rw own refl in
      let is : present id.slot new ≡ id = present_is id h now in
      let ruled : is_undecided (verdict (present id.slot new) new) ≡ false = ap (λ j. is_undecided (verdict j new)) is ∙ ap is_undecided decides in
      let alone : solo (present id.slot new) new ≡ Some c = ap (λ j. solo j new) is ∙ rw (own, sole) refl in
      let debt : owed new ≡ id.slot = rw sole refl in
      let mine = number_is_itself c in
      let unsealed : sealed_last (part (Cpu c) new) ≡ false = rw mine refl in
      record {
        legal = (
          (
            (play.legal.0, (play.rests, (way.scans_not, refl, (way.early, sym is_now)))),
            (inr debt, ((ruled, inl (λ none. absurd (cc (alone, none)))), only_cpu c (λ a. scan k a new ≡ 0) (solo (present id.slot new) new) alone way.scans_not)),
          ),
          ((play.legal.1, count), only_cpu c (λ a. sealed_last (part (Cpu a) new) ≡ false) (solo (present id.slot new) new) alone unsealed),
        );
        rests = refl;
        by = ((tt, cpu_is_itself c), subst (λ w. same_actor (Cpu c) w ≡ true) (sym (ap releaser alone)) (cpu_is_itself c));
      }

  -- an exchange that succeeds
  discarded_stands : (to : SlotState) → OnItsWay k c h id → discard_at (word_at id.slot h) id (is_among c (callers id h)) ≡ Attempt to
      → StepStands shape k c h (discarded_by k c (measured shape k c h) me id (Attempt to))
  discarded_stands to way e =
      let n = length (held c id h) in
      let did = discard_attempt k h id c to play.legal.0 e in
      let sole : is_release (Attempt to) ≡ is_sole c (callers id h) = ap (λ w. is_release (Attempt w)) did.2 ∙ word_releases (issue id.slot h) (is_sole c (callers id h)) in
      either_stands (is_release (Attempt to))
      (λ t. ends_stand play (Release id.slot ∷ Discard c id (decided.Thrown n) ∷ []) _ (releases n way did.0 did.1 refl (sym sole ∙ t))
      (let same : (seals c h + 0) + 0 ≡ seals c h = omega arith in same) way.scans_not (released_rules c n id h))
      (λ o. ends_by play (Discard c id (decided.Thrown n)) _ play.rests (way.scans_not, refl, (way.early, sym did.1)) refl refl (sym sole ∙ o) refl way.scans_not)

  discard_shown : OnItsWay k c h id → IsEarly play discard_at id → (act : Act) → discard_at (word_at id.slot h) id (is_among c (callers id h)) ≡ act
      → StepStands shape k c h (shown_discard k c (measured shape k c h) me id (word_at id.slot h) act)
  discard_shown way tried Void e = undiscarded_stands way.scans_not way.early (discard_void k h id (is_among c (callers id h)) play.legal.0 e)
  discard_shown way tried (Attempt to) e =
      let least = tried to e in
      goes_by_none play (cpu.DiscardTry id (word_at id.slot h)) (way, record { to = to; attempts = e; rises = omega arith }, omega arith)
  discard_shown way tried act e = not_plain _ act (discard_plain (word_at id.slot h) id (is_among c (callers id h))) e refl

  pub discard_loads : StandsCpu k c h me (cpu.DiscardLoad id) → StepStands shape k c h (cpu_step shape k c h me (cpu.DiscardLoad id))
  discard_loads at = discard_shown at.0 (load_early play discard_at discard_tells id at.1) _ refl

  pub discard_tries : (from : SlotState) → StandsCpu k c h me (cpu.DiscardTry id from) → StepStands shape k c h (cpu_step shape k c h me (cpu.DiscardTry id from))
  discard_tries from at = try_stands play discard_at discard_tells id from _ _ (at.1, at.2)
      (λ to was now. subst (λ act. StepStands shape k c h (discarded_by k c (measured shape k c h) me id act)) (sym was) (discarded_stands to at.0 now))
      (λ tried. discard_shown at.0 tried _ refl)
