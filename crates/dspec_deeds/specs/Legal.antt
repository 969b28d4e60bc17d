-- Believed. Which deed may come next.
use Rattle.std.specs.Prelude.{ℕ, ◌≡◌, ◌≢◌, ◌<◌, ◌≤◌, ◌⊎◌, ◌&&◌, ◌||◌, nat_lt, Bool, true, false, not, List, [], ◌∷◌, length, MatchBool, Option, None}
use Rattle.dspec_deeds.specs.FateKinds.{trace_stopped, trace_kept, spoken_stopped, spoken_granted, spoken_kept, decided_stopped, is_commit, is_discard, is_copied, count_of}
use Rattle.dspec_deeds.specs.History.{halted, issue, Ruling, undecided, committed, discarded, opened, callers, releaser, solo_of, verdict, is_undecided, settled, scan, opened_since, author, part}
use Rattle.dspec_deeds.specs.History.{late, owed}
use Rattle.dspec_deeds.specs.Own.{Offer, contents, held, active, full, seals}
use Rattle.dspec_deeds.specs.Ranges.{is_fill}
use Rattle.dspec_deeds.specs.Words.Outside.{Shape, Record, Piece, one, block, piece_fits, Speculation}
use Rattle.dspec_deeds.specs.declared.{calls.Actor.TheVariants.Cpu, config.Config.Config, deed.DecideFate.DecideFate, deed.Deed.Deed, deed.Deed.TheVariants.Trace, deed.Deed.TheVariants.Scan}
use Rattle.dspec_deeds.specs.declared.{deed.Deed.TheVariants.Opened, deed.Deed.TheVariants.Miss, deed.Deed.TheVariants.Speculate, deed.Deed.TheVariants.Commit, deed.Deed.TheVariants.Discard}
use Rattle.dspec_deeds.specs.declared.{deed.Deed.TheVariants.Settle, deed.Deed.TheVariants.Seal, deed.Deed.TheVariants.Release, deed.Deed.TheVariants.Halt}

-- The common part: what rests on others' deeds.

-- a call that was shown that the session runs goes on after a stop, if its CPU has done nothing since; it does what it
-- asks for exactly where the speculation is open
abbrev pub StopsOrActs : Bool → Bool → Bool → Bool → Bool → Type 0
StopsOrActs halt tardy is_open stopped done = MatchBool stopped (halt ≡ true) ((tardy ≡ false) × (done ≡ is_open))

-- a settlement does what the decision says
abbrev pub SettlesAs : Ruling → DecideFate → Type 0
SettlesAs undecided f = ⊥
SettlesAs (committed c) f = is_commit f ≡ true
SettlesAs (discarded c) f = is_discard f ≡ true

-- all that the common part reads
pub record Facts : Type 0 where
  pub halt : Bool
  pub issues : ℕ → ℕ
  pub given : Speculation → Bool
  pub ruled : Speculation → Ruling
  pub called : Speculation → List ℕ
  pub done : ℕ → Speculation → Bool
  pub scans : ℕ → ℕ
  pub since : ℕ → ℕ → Bool
  pub tardy : ℕ → Bool
  pub debt : ℕ

abbrev pub facts : Config → List Deed → Facts
facts k h = record {
  halt = halted h;
  issues = λ s. issue s h;
  given = λ id. opened id h;
  ruled = λ id. verdict id h;
  called = λ id. callers id h;
  done = λ c id. settled c id h;
  scans = λ c. scan k c h;
  since = λ c s. opened_since c s h;
  tardy = λ c. late c h;
  debt = owed h;
}

abbrev pub at_present : ℕ → Facts → Speculation
at_present s x = record { issue = x.issues s; slot = s }

abbrev pub AnswersBy : Facts → ℕ → Speculation → Bool → Bool → Type 0
AnswersBy x c id stopped done = StopsOrActs x.halt (x.tardy c) (x.given id && is_undecided (x.ruled id)) stopped done

abbrev pub is_free_by : Config → Facts → ℕ → Bool
is_free_by k x s = not (x.given (at_present s x)) && nat_lt (x.issues s) k.max_issues

abbrev pub MayComeBy : Config → Facts → Deed → Type 0
MayComeBy k x (Trace c r f) = (x.scans c ≡ 0) × (trace_stopped f ≡ x.halt)
MayComeBy k x (Scan c running) = (x.scans c ≡ 0) × (running ≡ not x.halt)
MayComeBy k x (Opened c id) = (x.scans c ≡ id.slot) × (1 ≤ id.slot) × (is_free_by k x id.slot ≡ true) × (id.issue ≡ x.issues id.slot)
MayComeBy k x (Miss c s busy) = (x.scans c ≡ s) × (1 ≤ s) × ((is_free_by k x s ≡ false) ⊎ (x.since c s ≡ true)) × (busy ≡ not (is_undecided (x.ruled (at_present s x))))
MayComeBy k x (Speculate c id r f) = (x.scans c ≡ 0) × AnswersBy x c id (spoken_stopped f) (spoken_granted f)
MayComeBy k x (Commit c id f) = (x.scans c ≡ 0) × (is_discard f ≡ false) × AnswersBy x c id (decided_stopped f) (is_commit f)
MayComeBy k x (Discard c id f) = (x.scans c ≡ 0) × (is_commit f ≡ false) × AnswersBy x c id (decided_stopped f) (is_discard f)
MayComeBy k x (Settle c id f) = (x.scans c ≡ 0) × ((id.issue ≡ x.issues id.slot) × SettlesAs (x.ruled id) f × (solo_of (x.ruled id) (x.called id) ≡ None) × (x.done c id ≡ false))
MayComeBy k x (Seal c) = Unit {0}
MayComeBy k x (Release s) =
    ((is_undecided (x.ruled (at_present s x)) ≡ false) × ((solo_of (x.ruled (at_present s x)) (x.called (at_present s x)) ≢ None) ⊎ ((c : ℕ) → c < k.cpus → x.done c (at_present s x) ≡ true)))
    × ((c : ℕ) → releaser (solo_of (x.ruled (at_present s x)) (x.called (at_present s x))) ≡ Cpu c → x.scans c ≡ 0)
MayComeBy k x Halt = x.halt ≡ false

-- a slot that has to be released is released next
abbrev pub Pays : ℕ → Deed → Type 0
Pays debt (Release s) = (debt ≡ 0) ⊎ (debt ≡ s)
Pays debt d = debt ≡ 0

abbrev pub FollowsBy : Config → Facts → Deed → Type 0
FollowsBy k x d = Pays x.debt d × MayComeBy k x d

abbrev pub Follows : Config → List Deed → Deed → Type 0
Follows k h d = FollowsBy k (facts k h) d

-- legal in the common part
abbrev pub IsSound : Config → List Deed → Type 0
IsSound k [] = Unit {0}
IsSound k (d ∷ h) = IsSound k h × Follows k h d

-- each deed of a CPU is of one of the session
abbrev pub HasAuthors : Config → List Deed → Type 0
HasAuthors k [] = Unit {0}
HasAuthors k (d ∷ h) = HasAuthors k h × ((c : ℕ) → author d h ≡ Cpu c → c < k.cpus)

-- The own part: what rests on the CPU's own deeds, its buffers and its batches.

abbrev pub is_seal : Deed → Bool
is_seal (Seal c) = true
is_seal d = false

abbrev pub sealed_last : List Deed → Bool
sealed_last [] = false
sealed_last (d ∷ h) = is_seal d

-- no record: such a piece reserves nothing
abbrev pub is_empty : Piece → Bool
is_empty (block []) = true
is_empty p = false

-- under Fill, once a reservation was refused, the CPU's principal buffer takes nothing more
abbrev pub is_closed : Config → ℕ → List Deed → Bool
is_closed k c h = is_fill k.policy && full c h

module _ (shape : ℕ → Option Shape) (k : Config) where
  -- a piece fits the rest of the active principal buffer, and that isn't closed to it
  abbrev pub fits_principal : ℕ → Piece → List Deed → Bool
  fits_principal c p h = piece_fits shape (active c h) p k.bufsize && (is_empty p || not (is_closed k c h))

  -- a speculative record fits the rest of the CPU's buffer of the speculation
  abbrev pub fits_speculative : ℕ → Speculation → Record → List Deed → Bool
  fits_speculative c id r h = piece_fits shape (Rattle.std.specs.Prelude.map one (contents (held c id h))) (one r) k.specsize

  -- a buffer is copied whole exactly where its block fits, and its number of records is told
  abbrev pub CopiesOrLoses : ℕ → List Deed → List Offer → DecideFate → Type 0
  CopiesOrLoses c h os f = (count_of f ≡ length os) × (is_copied f ≡ fits_principal c (block (contents os)) h)

  abbrev pub CpuLegal : List Deed → Deed → Type 0
  CpuLegal h (Trace c r f) = MatchBool (trace_stopped f) (Unit {0}) (trace_kept f ≡ fits_principal c (one r) h)
  CpuLegal h (Speculate c id r f) = MatchBool (spoken_granted f) (spoken_kept f ≡ fits_speculative c id r h) (Unit {0})
  CpuLegal h (Commit c id f) = MatchBool (is_commit f) (CopiesOrLoses c h (held c id h) f) (Unit {0})
  CpuLegal h (Discard c id f) = MatchBool (is_discard f) (count_of f ≡ length (held c id h)) (Unit {0})
  CpuLegal h (Settle c id f) = MatchBool (is_discard f) (count_of f ≡ length (held c id h)) (CopiesOrLoses c h (held c id h) f)
  CpuLegal h (Seal c) = (seals c h < k.max_calls) × (scan k c h ≡ 0) × (is_fill k.policy ≡ false)
  CpuLegal h (Release s) = (c : ℕ) → author (Release s) h ≡ Cpu c → sealed_last (part (Cpu c) h) ≡ false
  CpuLegal h d = Unit {0}

  abbrev pub IsFitting : List Deed → Type 0
  IsFitting [] = Unit {0}
  IsFitting (d ∷ h) = IsFitting h × CpuLegal h d

  -- each deed may come after those before it, in the common part and in its CPU's own
  abbrev pub IsAllowed : List Deed → Type 0
  IsAllowed h = IsSound k h × IsFitting h

  -- a legal list: that, and each deed of a CPU is of a CPU that the session has
  abbrev pub IsLegal : List Deed → Type 0
  IsLegal h = IsAllowed h × HasAuthors k h
