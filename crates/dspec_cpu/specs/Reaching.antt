-- Serves proofs. How far a call on an identifier comes: the steps on its slot's word, and the deeds by where it ended.
use Rattle.std.specs.Prelude.{ℕ, ◌≡◌, ◌≤◌, ◌+◌, Bool, true, false, List, [], ◌∷◌, Option, if◌then◌else◌}
use Rattle.dspec_cpu.specs.Calls.{Goes}
use Rattle.dspec_cpu.specs.Touching.{Touches, at_slot}
use Rattle.dspec_cpu.specs.Words.Outside.{Speculation, SlotState, is_inactive, speculate_at, commit_at, discard_at, issue, part, word_at, IsSound, committed_fate, IsInFlight, IfCommitting}
use Rattle.dspec_cpu.specs.Words.Outside.{OwnCommit, TriedWord, fits_speculative, Record, Code, Committing, Act, Void, Granted, Attempt, Idle, Shape, Config, CpuActor, CpuOp, Deed, Speculate}
use Rattle.dspec_cpu.specs.Words.Outside.{Commit, Discard, Release, View, Doing}
use Rattle.dspec_cpu.specs.declared.reaching.{Reach.Reach, SlotTurn.SlotTurn}
use Rattle.dspec_deeds.specs.declared.calls.CpuOp.TheVariants as op
use Rattle.dspec_deeds.specs.declared.deed.SpeculateFate.TheVariants as spoken
use Rattle.dspec_deeds.specs.declared.deed.DecideFate.TheVariants as decided
use Rattle.dspec_cpu.specs.declared.reaching.SlotTurn.TheVariants as turn
use Rattle.dspec_cpu.specs.declared.reaching.Reach.TheVariants as reach

-- what the call does at the word of its slot
abbrev pub act_of : CpuOp → SlotState → Bool → Act
act_of (op.Speculate id r) w mine = speculate_at w id mine
act_of (op.Commit id) w mine = commit_at w id mine
act_of (op.Discard id) w mine = discard_at w id mine
act_of o w mine = Idle

abbrev pub act_by : SlotTurn → Speculation → SlotState → Bool → Act
act_by turn.Speculate id w mine = speculate_at w id mine
act_by turn.Commit id w mine = commit_at w id mine
act_by turn.Discard id w mine = discard_at w id mine

-- the call in flight is such a call on the speculation
abbrev pub TakesTurn : SlotTurn → Speculation → Bool → Doing → Type 0
TakesTurn turn id mine doing = (w : SlotState) → act_of doing.op w doing.mine ≡ act_by turn id w mine

-- a call of speculate in flight, by the deeds of the CPU
abbrev pub speculating : (ℕ → Option Shape) → Config → ℕ → Speculation → Record → Bool → List Deed → Doing
speculating shape k c id r mine own = record { op = op.Speculate id r; fits = fits_speculative shape k c id r own; count = 0; mine = mine }

-- how many steps on the word there are at most, a release of its own among them
abbrev pub turns : CpuOp → ℕ
turns (op.Speculate id r) = 3
turns o = 4

abbrev pub is_attempt : Act → Bool
is_attempt (Attempt w) = true
is_attempt a = false

-- the slot is to be released next
abbrev pub is_committing : Code → Bool
is_committing Committing = true
is_committing c = false

abbrev pub releases_next : Act → ℕ
releases_next (Attempt w) = if is_committing w.code then 1 else 0
releases_next a = 0

-- the last step, after some on the same word that entered nothing: it found this word, and entered its deeds by it
pub record Shown (k : Config) (c : ℕ) (doing : Doing) (id : Speculation) (slot : ℕ) (v : View) (word : SlotState) (hit : Bool) (w : View) : Type 0 where
  pub before : View
  pub waited : Goes v [] before
  pub stays : before.own ≡ v.own
  pub who : before.who ≡ v.who
  pub config : before.config ≡ v.config
  pub flight : IsInFlight k before c doing id slot
  pub last : TriedWord doing slot before word hit w
  pub worked : Touches (at_slot slot) v before

-- the steps on the word ended so: at a word that the table doesn't attempt, or by an exchange that it attempts
pub record EndsAtWord (k : Config) (c : ℕ) (doing : Doing) (id : Speculation) (slot : ℕ) (v : View) (act : Act) (w : View) : Type 0 where
  pub word : SlotState
  pub acts : act_of doing.op word doing.mine ≡ act
  pub last : Shown k c doing id slot v word (is_attempt act) w
  pub bounded : w.steps + releases_next act ≤ v.steps + turns doing.op

-- after an exchange its word stands, and one to Committing is the seat's own commit, which is to be released
abbrev pub OwnsCommit : Config → ℕ → ℕ → View → Act → Type 0
OwnsCommit k c slot w (Attempt to) = (word_at slot w.seen ≡ to) × IfCommitting to.code (OwnCommit k w c record { issue = to.issue; slot = slot })
OwnsCommit k c slot w a = Unit {0}

-- the deeds of a call that came so far, the latest first
abbrev pub reached_deeds : ℕ → Doing → CpuOp → Reach → List Deed
reached_deeds c doing (op.Speculate id r) reach.Stopped = Speculate c id r spoken.Stopped ∷ []
reached_deeds c doing (op.Speculate id r) reach.Void = Speculate c id r spoken.Void ∷ []
reached_deeds c doing (op.Speculate id r) x = Speculate c id r (if doing.fits then spoken.Kept else spoken.Dropped) ∷ []
reached_deeds c doing (op.Commit id) reach.Stopped = Commit c id decided.Stopped ∷ []
reached_deeds c doing (op.Commit id) reach.Void = Commit c id decided.Void ∷ []
reached_deeds c doing (op.Commit id) x = Commit c id (committed_fate doing.fits doing.count) ∷ []
reached_deeds c doing (op.Discard id) reach.Stopped = Discard c id decided.Stopped ∷ []
reached_deeds c doing (op.Discard id) reach.Void = Discard c id decided.Void ∷ []
reached_deeds c doing (op.Discard id) (reach.Done to) = if is_inactive to.code then Release id.slot ∷ Discard c id (decided.Thrown doing.count) ∷ [] else Discard c id (decided.Thrown doing.count) ∷ []
reached_deeds c doing o x = []

abbrev pub act_reached : Reach → Act
act_reached (reach.Done to) = Attempt to
act_reached reach.Granted = Granted
act_reached x = Void

-- granted or done
abbrev pub is_reached : Reach → Bool
is_reached (reach.Done to) = true
is_reached reach.Granted = true
is_reached x = false

-- of a call that was granted or done: there was a legal list, of which the seat's list was its part, with the identifier as the
-- slot's present one
pub record IsPresentAt (k : Config) (c : ℕ) (id : Speculation) (own : List Deed) : Type 0 where
  pub log : List Deed
  pub sound : IsSound k log
  pub its : part (CpuActor c) log ≡ own
  pub now : issue id.slot log ≡ id.issue
