-- A speculate, a commit or a discard that runs alone.
use Rattle.std.proofs.Common.{◌≡◌, ◌≤◌, ℕ, Bool, true, false, List, [], ◌∷◌, Option, if◌then◌else◌, refl, ap, ◌∙◌, subst}
use Rattle.dspec_interleaving.specs.Words.{Shape, Speculation, commit_at, discard_at, is_among, callers, is_open, issue, word_at, is_sole, is_sole_or_none, IsSound, shown_commit, shown_discard}
use Rattle.dspec_interleaving.specs.Words.{is_alone, is_release, same_word, call_goes_on, ends, commit_fate, discard_fate, answer_of, WholeCpu, whole_cpu, enters, measured, Record, speculate_at}
use Rattle.dspec_interleaving.specs.Words.{fits_speculative, shown_speculate, spoken_at, Act, Void, Granted, Attempt, Idle, Config, Deed, Commit, Discard, Release, Speculate}
use Rattle.dspec_interleaving.specs.declared.flight.CpuProgress.{CpuProgress}
use Rattle.dspec_deeds.specs.declared.calls.Answer.TheVariants as answer
use Rattle.dspec_deeds.specs.declared.calls.CpuOp.TheVariants as cpu_op
use Rattle.dspec_deeds.specs.declared.calls.Decided.TheVariants as decided_answer
use Rattle.dspec_deeds.specs.declared.deed.DecideFate.TheVariants as decided
use Rattle.dspec_interleaving.specs.declared.flight.CallPlace.TheVariants as cpu
use Rattle.dspec_deeds.proofs.TestLemmas.{off}
use Rattle.dspec_deeds.proofs.WordActs.{commit_void, commit_attempt, discard_void, discard_attempt, speculate_void, speculate_granted, speculate_attempt}
use Rattle.dspec_interleaving.proofs.StepsWords.{word_is_itself, is_plain, commit_plain, discard_plain, not_plain, code_alone, word_releases, speculate_not_idle}
use Rattle.dspec_interleaving.proofs.WholeLeads.{begins, later, idle, Leads, ended, goes, starts, both, on_true, asks_leads, RunsTo}
use Rattle.dspec_deeds.specs.declared.calls.Spoken.TheVariants as spoken_answer
use Rattle.dspec_deeds.specs.declared.deed.SpeculateFate.TheVariants as spoken

module _ (shape : ℕ → Option Shape) (k : Config) (c : ℕ) (h : List Deed) (sound : IsSound k h) (some : 1 ≤ k.nspec) (id : Speculation) (r : Record) where
  abbrev void_whole : CpuProgress → WholeCpu
  void_whole me = enters shape k c (idle me) (Speculate c id r spoken.Void ∷ h) (answer.Spoken spoken_answer.Void)

  abbrev open_whole : CpuProgress → WholeCpu
  open_whole me =
      if fits_speculative shape k c id r h then enters shape k c (idle me) (Speculate c id r spoken.Kept ∷ h) (answer.Spoken spoken_answer.Kept)
      else enters shape k c (idle me) (Speculate c id r spoken.Dropped ∷ h) (answer.Spoken spoken_answer.Dropped)

  spoken_leads : (me : CpuProgress) → Leads shape k c h (spoken_at k c (measured shape k c h) me id r) (open_whole me)
  spoken_leads me = both (fits_speculative shape k c id r h) (λ t. ended me) (λ f. ended me)

  abbrev act : Act
  act = speculate_at (word_at id.slot h) id (is_among c (callers id h))

  shut_leads : (me : CpuProgress) → is_open id h ≡ false → (a : Act) → act ≡ a → Leads shape k c h (shown_speculate k c (measured shape k c h) me id r (word_at id.slot h) a) (void_whole me)
  shut_leads me shut Void e = ended me
  shut_leads me shut Granted e = off (is_open id h) (speculate_granted k h id c sound e).0 shut
  shut_leads me shut (Attempt to) e = off (is_open id h) (speculate_attempt k h id c to sound e).1 shut
  shut_leads me shut Idle e = absurd (speculate_not_idle (word_at id.slot h) id (is_among c (callers id h)) e)

  open_leads : (me : CpuProgress) → is_open id h ≡ true → (a : Act) → act ≡ a → Leads shape k c h (shown_speculate k c (measured shape k c h) me id r (word_at id.slot h) a) (open_whole me)
  open_leads me given Void e = off (is_open id h) given (speculate_void k h id (is_among c (callers id h)) sound e)
  open_leads me given Granted e = spoken_leads me
  open_leads me given (Attempt to) e = goes me
      (on_true (same_word (word_at id.slot h) (word_at id.slot h)) _ (word_is_itself (word_at id.slot h)) (spoken_leads me))
  open_leads me given Idle e = absurd (speculate_not_idle (word_at id.slot h) id (is_among c (callers id h)) e)

  pub speculate_alone : (me : CpuProgress) → RunsTo shape k c h (begins me (cpu_op.Speculate id r)) (whole_cpu shape k c (idle me) h (cpu_op.Speculate id r))
  speculate_alone me = starts me (cpu_op.Speculate id r)
      (let loaded : CpuProgress = later (begins me (cpu_op.Speculate id r)) (cpu.SpeculateLoad id r) in
      asks_leads (begins me (cpu_op.Speculate id r)) id (cpu.SpeculateLoad id r) _ _ _ sound some (λ e. shut_leads loaded e act refl) (λ e. open_leads loaded e act refl))

module _ (shape : ℕ → Option Shape) (k : Config) (c : ℕ) (h : List Deed) (sound : IsSound k h) (some : 1 ≤ k.nspec) (id : Speculation) where
  -- commit
  abbrev commit_void_whole : CpuProgress → WholeCpu
  commit_void_whole me = enters shape k c (idle me) (Commit c id decided.Void ∷ h) (answer.Decided decided_answer.Void)

  abbrev commit_whole : CpuProgress → WholeCpu
  commit_whole me =
      if is_sole_or_none c (callers id h) then enters shape k c (idle me) (Release id.slot ∷ Commit c id (commit_fate shape k c h id) ∷ h) (answer_of (commit_fate shape k c h id))
      else enters shape k c (idle me) (Commit c id (commit_fate shape k c h id) ∷ h) (answer_of (commit_fate shape k c h id))

  abbrev commits : Act
  commits = commit_at (word_at id.slot h) id (is_among c (callers id h))

  committed_leads : (me : CpuProgress) (b : Bool) → b ≡ is_sole_or_none c (callers id h)
      → Leads shape k c h (if b then call_goes_on me (Commit c id (commit_fate shape k c h id) ∷ [])
      (cpu.CommitRelease id (commit_fate shape k c h id)) else ends me (Commit c id (commit_fate shape k c h id) ∷ []) (answer_of (commit_fate shape k c h id))) (commit_whole me)
  committed_leads me b is = subst
      (λ (t : Bool). Leads shape k c h (if b then call_goes_on me (Commit c id (commit_fate shape k c h id) ∷ [])
      (cpu.CommitRelease id (commit_fate shape k c h id)) else ends me (Commit c id (commit_fate shape k c h id) ∷ []) (answer_of (commit_fate shape k c h id)))
      (if t then enters shape k c (idle me) (Release id.slot ∷ Commit c id (commit_fate shape k c h id) ∷ h) (answer_of (commit_fate shape k c h id))
      else enters shape k c (idle me) (Commit c id (commit_fate shape k c h id) ∷ h) (answer_of (commit_fate shape k c h id)))) is
      (both b (λ t. goes me (ended (later me (cpu.CommitRelease id (commit_fate shape k c h id))))) (λ f. ended me))

  pub commit_alone : (me : CpuProgress) → RunsTo shape k c h (begins me (cpu_op.Commit id)) (whole_cpu shape k c (idle me) h (cpu_op.Commit id))
  commit_alone me = starts me (cpu_op.Commit id)
      (let loaded : CpuProgress = later (begins me (cpu_op.Commit id)) (cpu.CommitLoad id) in
      asks_leads (begins me (cpu_op.Commit id)) id (cpu.CommitLoad id) _ _ _ sound some (λ e. shut_leads loaded e commits refl) (λ e. open_leads loaded e commits refl))
    where
      never : {P : Type 0} (a : Act) → commits ≡ a → is_plain a ≡ false → P
      never a e none = not_plain commits a (commit_plain (word_at id.slot h) id (is_among c (callers id h))) e none

      shut_leads : (me : CpuProgress) → is_open id h ≡ false → (a : Act) → commits ≡ a
          → Leads shape k c h (shown_commit k c (measured shape k c h) me id (word_at id.slot h) a) (commit_void_whole me)
      shut_leads me shut Void e = ended me
      shut_leads me shut (Attempt to) e = off (is_open id h) (commit_attempt k h id c to sound e).1 shut
      shut_leads me shut a e = never a e refl

      open_leads : (me : CpuProgress) → is_open id h ≡ true → (a : Act) → commits ≡ a → Leads shape k c h (shown_commit k c (measured shape k c h) me id (word_at id.slot h) a) (commit_whole me)
      open_leads me given Void e = off (is_open id h) given (commit_void k h id (is_among c (callers id h)) sound e)
      open_leads me given (Attempt to) e = goes me
          (on_true (same_word (word_at id.slot h) (word_at id.slot h)) _ (word_is_itself (word_at id.slot h))
          (committed_leads (later me (cpu.CommitTry id (word_at id.slot h))) (is_alone commits)
          (ap is_alone (e ∙ ap Attempt (commit_attempt k h id c to sound e).2) ∙ code_alone (issue id.slot h) (is_sole_or_none c (callers id h)))))
      open_leads me given a e = never a e refl

  -- discard
  abbrev discard_void_whole : CpuProgress → WholeCpu
  discard_void_whole me = enters shape k c (idle me) (Discard c id decided.Void ∷ h) (answer.Decided decided_answer.Void)

  abbrev discard_whole : CpuProgress → WholeCpu
  discard_whole me =
      if is_sole c (callers id h) then enters shape k c (idle me) (Release id.slot ∷ Discard c id (discard_fate shape k c h id) ∷ h) (answer_of (discard_fate shape k c h id))
      else enters shape k c (idle me) (Discard c id (discard_fate shape k c h id) ∷ h) (answer_of (discard_fate shape k c h id))

  abbrev discards : Act
  discards = discard_at (word_at id.slot h) id (is_among c (callers id h))

  discarded_leads : (me : CpuProgress) (b : Bool) → b ≡ is_sole c (callers id h)
      → Leads shape k c h (if b then ends me (Release id.slot ∷ Discard c id (discard_fate shape k c h id) ∷ [])
      (answer_of (discard_fate shape k c h id)) else ends me (Discard c id (discard_fate shape k c h id) ∷ []) (answer_of (discard_fate shape k c h id))) (discard_whole me)
  discarded_leads me b is = subst
      (λ (t : Bool). Leads shape k c h (if b then ends me (Release id.slot ∷ Discard c id (discard_fate shape k c h id) ∷ [])
      (answer_of (discard_fate shape k c h id)) else ends me (Discard c id (discard_fate shape k c h id) ∷ []) (answer_of (discard_fate shape k c h id)))
      (if t then enters shape k c (idle me) (Release id.slot ∷ Discard c id (discard_fate shape k c h id) ∷ h) (answer_of (discard_fate shape k c h id))
      else enters shape k c (idle me) (Discard c id (discard_fate shape k c h id) ∷ h) (answer_of (discard_fate shape k c h id)))) is
      (both b (λ t. ended me) (λ f. ended me))

  pub discard_alone : (me : CpuProgress) → RunsTo shape k c h (begins me (cpu_op.Discard id)) (whole_cpu shape k c (idle me) h (cpu_op.Discard id))
  discard_alone me = starts me (cpu_op.Discard id)
      (let loaded : CpuProgress = later (begins me (cpu_op.Discard id)) (cpu.DiscardLoad id) in
      asks_leads (begins me (cpu_op.Discard id)) id (cpu.DiscardLoad id) _ _ _ sound some (λ e. shut_leads loaded e discards refl) (λ e. open_leads loaded e discards refl))
    where
      never : {P : Type 0} (a : Act) → discards ≡ a → is_plain a ≡ false → P
      never a e none = not_plain discards a (discard_plain (word_at id.slot h) id (is_among c (callers id h))) e none

      shut_leads : (me : CpuProgress) → is_open id h ≡ false → (a : Act) → discards ≡ a
          → Leads shape k c h (shown_discard k c (measured shape k c h) me id (word_at id.slot h) a) (discard_void_whole me)
      shut_leads me shut Void e = ended me
      shut_leads me shut (Attempt to) e = off (is_open id h) (discard_attempt k h id c to sound e).1 shut
      shut_leads me shut a e = never a e refl

      open_leads : (me : CpuProgress) → is_open id h ≡ true → (a : Act) → discards ≡ a → Leads shape k c h (shown_discard k c (measured shape k c h) me id (word_at id.slot h) a) (discard_whole me)
      open_leads me given Void e = off (is_open id h) given (discard_void k h id (is_among c (callers id h)) sound e)
      open_leads me given (Attempt to) e = goes me
          (on_true (same_word (word_at id.slot h) (word_at id.slot h)) _ (word_is_itself (word_at id.slot h))
          (discarded_leads (later me (cpu.DiscardTry id (word_at id.slot h))) (is_release discards)
          (ap is_release (e ∙ ap Attempt (discard_attempt k h id c to sound e).2) ∙ word_releases (issue id.slot h) (is_sole c (callers id h)))))
      open_leads me given a e = never a e refl
