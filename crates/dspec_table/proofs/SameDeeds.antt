-- Case by case, the deeds of a step of a play are those of the seat's step: both read the table of steps, by measures that agree.
use Rattle.std.proofs.Common.{◌≡◌, ◌==◌, ℕ, Bool, true, false, List, [], Option, Some, if◌then◌else◌, refl, sym, ap, ◌∙◌, arith}
use Rattle.std.proofs.lemmas.Bool.Decides.{nat_tests}
use Rattle.dspec_table.specs.Words.{Shape, Record, Speculation, speculate_at, speculate_act, commit_at, commit_act, discard_at, discard_act, open_at, settle_at, halted, is_among, callers, word_at}
use Rattle.dspec_table.specs.Words.{ack, mark, part, IsSound, bare, is_told_worn, is_worn_answer, is_counted, same_word, CpuStep, Measured, measured, idle_progress, cpu_step, wears, popped, begun}
use Rattle.dspec_table.specs.Words.{is_worn, deeds_at, seen, seat_reads, IsMine, Measures, IsSameCall, shown_speculate, shown_commit, shown_discard, Act, Void, Config, Answer, CpuOp, Deed, Cpu}
use Rattle.dspec_table.specs.Words.{CpuProgress, CallPlace, Spare}
use Rattle.dspec_table.specs.declared.doing.Doing.{Doing}
use Rattle.dspec_deeds.specs.declared.calls.CpuOp.TheVariants as cpu_op
use Rattle.dspec_deeds.specs.declared.calls.Op.TheVariants as op
use Rattle.dspec_deeds.proofs.{BareReads.shows_bare, Marks.mark_tells, OwnReads.reads, TestLemmas.off}
use Rattle.dspec_interleaving.specs.declared.flight.CallPlace.TheVariants as cpu
use Rattle.dspec_interleaving.specs.declared.flight.Spare.TheVariants as spare
use Rattle.dspec_interleaving.proofs.StepsWords.{same_word_tells}
use Rattle.dspec_table.proofs.InFlight as rows

-- whether the CPU is a caller is asked at a word of the identifier's issue alone, and there the seat knows it
mine_alike : (k : Config) (c : ℕ) (h : List Deed) (id : Speculation) (doing : Doing) (table : Bool → Act) → IsSound k h → IsMine c h id doing
    → (if (word_at id.slot h).issue == id.issue then table doing.mine else Void) ≡ (if (word_at id.slot h).issue == id.issue then table (is_among c (callers id h)) else Void)
mine_alike k c h id doing table sound mine = grind (arith, nat_tests, mark_tells k c id.slot h sound)

-- what was measured by the CPU's own list is what the whole list has
measured_alike : (shape : ℕ → Option Shape) (k : Config) (c : ℕ) (h : List Deed) (doing : Doing) (f : CallPlace)
    → Measures (measured shape k c (part (Cpu c) h)) (λ s. mark c s (part (Cpu c) h)) doing f → Measures (measured shape k c h) (λ s. mark c s h) doing f
measured_alike shape k c h doing f h1 = grind (arith, nat_tests, reads k c h)

-- a call that isn't told worn
unworn : (w : Bool) (me : CpuProgress) (a : Answer) (x : CpuStep) → is_told_worn (if w then wears me a else x).answer ≡ false → is_worn_answer a ≡ true → w ≡ false
unworn true me a x told worn = off (is_worn_answer a) worn told
unworn false me a x told worn = refl

module _ (shape : ℕ → Option Shape) (k : Config) (c : ℕ) (h : List Deed) (me : CpuProgress) (doing : Doing) where
  abbrev m : Measured
  m = measured shape k c h

  abbrev n : Measured
  n = seat_reads doing h

  pops : (place : Spare) → bare (popped k c m me place).deeds ≡ []
  pops spare.InHand = refl
  pops place = refl

  begins : (o : CpuOp) → is_counted (op.Cpu o) ≡ true → is_worn k c h ≡ false → ((r : Record) → o ≡ cpu_op.Trace r → m.traces r ≡ doing.fits) → bare (begun k c m me o).deeds
      ≡ (begun k c n idle_progress o).deeds
  begins o counts worn fits = (rows.begins k c m me doing (halted h) n.word n.hits (Some o) o refl counts worn refl fits).0

  service_begins : bare (begun k c m me cpu_op.Service).deeds ≡ []
  service_begins = grind (arith, nat_tests)

  -- a word that is shown: the tables may ask whether the CPU is a caller
  speculates : (id : Speculation) (r : Record) → doing.fits ≡ m.keeps id r → IsSound k h → IsMine c h id doing
      → bare (shown_speculate k c m me id r (word_at id.slot h) (speculate_at (word_at id.slot h) id (m.mine id))).deeds
      ≡ (shown_speculate k c n idle_progress id r (word_at id.slot h) (speculate_at (word_at id.slot h) id doing.mine)).deeds
  speculates id r fits sound mine =
      (rows.speculates k c m me doing (halted h) n.word n.hits (Some (cpu_op.Speculate id r)) id r refl (sym fits) (word_at id.slot h) (speculate_at (word_at id.slot h) id (m.mine id))).0
      ∙ ap (λ a. (shown_speculate k c n idle_progress id r (word_at id.slot h) a).deeds)
      (sym (mine_alike k c h id doing (λ t. speculate_act (word_at id.slot h).issue t (word_at id.slot h).code) sound mine))

  commit_like : (id : Speculation) → IsSound k h → IsMine c h id doing → commit_at (word_at id.slot h) id (m.mine id) ≡ commit_at (word_at id.slot h) id doing.mine
  commit_like id sound mine = sym (mine_alike k c h id doing (λ t. commit_act (word_at id.slot h).issue t (word_at id.slot h).code) sound mine)

  commits : (id : Speculation) → IsSound k h → IsMine c h id doing
      → bare (shown_commit k c m me id (word_at id.slot h) (commit_at (word_at id.slot h) id (m.mine id))).deeds
      ≡ (shown_commit k c n idle_progress id (word_at id.slot h) (commit_at (word_at id.slot h) id doing.mine)).deeds
  commits id h1 h2 = grind (arith, nat_tests)

  discard_like : (id : Speculation) → IsSound k h → IsMine c h id doing → discard_at (word_at id.slot h) id (m.mine id) ≡ discard_at (word_at id.slot h) id doing.mine
  discard_like id sound mine = sym (mine_alike k c h id doing (λ t. discard_act (word_at id.slot h).issue t (word_at id.slot h).code) sound mine)

  discards : (id : Speculation) → IsSound k h → IsMine c h id doing
      → bare (shown_discard k c m me id (word_at id.slot h) (discard_at (word_at id.slot h) id (m.mine id))).deeds
      ≡ (shown_discard k c n idle_progress id (word_at id.slot h) (discard_at (word_at id.slot h) id doing.mine)).deeds
  discards id h1 h2 = grind (arith, nat_tests)

  -- an exchange
  tries : (b : Bool) (x y u w : CpuStep) → (b ≡ true → bare x.deeds ≡ u.deeds) → bare y.deeds ≡ w.deeds → bare (if b then x else y).deeds ≡ (if b then u else w).deeds
  tries true x y u w p q = p refl
  tries false x y u w p q = q

  -- each place of a call, by what the list of the play shows
  by_place : (f : CallPlace) → IsSameCall shape k c h me f doing → Measures m (λ s. mark c s h) doing f → bare (cpu_step shape k c h me f).deeds ≡ deeds_at k c (seat_reads doing h) f
  by_place (cpu.Begun (cpu_op.Trace r)) same fits = begins (cpu_op.Trace r) refl (unworn _ me _ _ same.worn refl) (λ x e. let it : x ≡ r = cc (e) in ap m.traces it ∙ sym fits)
  by_place (cpu.Begun cpu_op.Service) same fits = service_begins ∙ sym (rows.service_begins k c doing (halted h) n.word n.hits)
  by_place (cpu.Begun o) same fits = begins o refl (unworn _ me _ _ same.worn refl) (λ x e. absurd (cc (e)))
  by_place (cpu.ScanLoad s) same fits = (rows.scans k c m me doing (halted h) n.word n.hits (Some cpu_op.Speculation) refl s (word_at s h) (open_at (word_at s h) k.max_issues)).0
  by_place (cpu.ScanTry s from) same fits =
      tries (same_word (word_at s h) from) _ _ _ _ (λ t. refl) (rows.misses k c m me doing (halted h) n.word n.hits (Some cpu_op.Speculation) refl s (word_at s h)).0
  by_place (cpu.SpeculateLoad id r) same fits = speculates id r fits.0 same.sound fits.1
  by_place (cpu.SpeculateTry id r from) same fits = grind (arith, nat_tests, tries, speculates)
  by_place (cpu.CommitLoad id) same fits = commits id same.sound fits
  by_place (cpu.CommitTry id from) same fits = grind (arith, nat_tests, tries, same_word_tells, commit_like, commits)
  by_place (cpu.CommitRelease id f) same fits = refl
  by_place (cpu.DiscardLoad id) same fits = discards id same.sound fits
  by_place (cpu.DiscardTry id from) same fits = grind (arith, nat_tests, tries, same_word_tells, discard_like, discards)
  by_place cpu.ServicePop same fits = pops me.spare
  by_place cpu.ServicePush same fits = refl
  by_place (cpu.ServiceLoad s sum) same fits =
      ap bare (rows.looks k c m me s sum (word_at s h) (settle_at (word_at s h) (ack c s h))) ∙ sym (rows.looks k c n idle_progress s sum (word_at s h) (settle_at (word_at s h) 0))
  by_place (cpu.ServiceStore s w sum) same fits = grind (arith, nat_tests)

  -- and by what the words show
  pub same_deeds : (f : CallPlace) → IsSameCall shape k c h me f doing → bare (cpu_step shape k c h me f).deeds ≡ deeds_at k c (seat_reads doing (bare h)) f
  same_deeds f same = by_place f same (measured_alike shape k c h doing f same.measured)
      ∙ (λ i. deeds_at k c (seen doing ((shows_bare h).halts i) (λ s. (shows_bare h).words s i) (λ s from. same_word ((shows_bare h).words s i) from)) f)
