-- Serves proofs. What the conditions on the next deed come to over a whole list: settlements, goings on after a stop, drops of batches.
use Rattle.std.specs.Prelude.{ℕ, ◌≡◌, ◌≤◌, ◌<◌, ◌+◌, ◌==◌, Bool, true, false, not, ◌&&◌, List, [], ◌∷◌, None}
use Rattle.dspec_deeds.specs.{FateKinds.trace_stopped, FateKinds.spoken_stopped, FateKinds.decided_stopped, History.halted, History.opened, History.verdict, History.is_undecided, History.solo}
use Rattle.dspec_deeds.specs.{History.settles, History.settled, Own.Sealing, Reports.total, Reports.one_if, Words.Outside.Speculation, declared.config.Config.Config, declared.deed.Deed.Deed}
use Rattle.dspec_deeds.specs.{declared.deed.Deed.TheVariants.Trace, declared.deed.Deed.TheVariants.Scan, declared.deed.Deed.TheVariants.Speculate, declared.deed.Deed.TheVariants.Commit}
use Rattle.dspec_deeds.specs.{declared.deed.Deed.TheVariants.Discard}

-- how often the CPU settled the speculation
abbrev pub settlements : ℕ → Speculation → List Deed → ℕ
settlements c id h = total (λ d. one_if (settles c id d)) h

-- a CPU settles a speculation once at most, and only one that was decided, but by no CPU alone
pub record SettlesOnce (c : ℕ) (id : Speculation) (h : List Deed) : Type 0 where
  pub once : settlements c id h ≤ 1
  pub after_decision : settled c id h ≡ true → is_undecided (verdict id h) ≡ false
  pub not_alone : settled c id h ≡ true → solo id h ≡ None

-- a call of the CPU that wasn't told of a stop
abbrev pub goes_on : ℕ → Deed → Bool
goes_on c (Trace a r f) = not (trace_stopped f) && (c == a)
goes_on c (Scan a running) = running && (c == a)
goes_on c (Speculate a id r f) = not (spoken_stopped f) && (c == a)
goes_on c (Commit a id f) = not (decided_stopped f) && (c == a)
goes_on c (Discard a id f) = not (decided_stopped f) && (c == a)
goes_on c d = false

-- how many of the CPU's calls since the stop weren't told of it
abbrev pub late_calls : ℕ → List Deed → ℕ
late_calls c [] = 0
late_calls c (d ∷ h) = late_calls c h + one_if (halted h && goes_on c d)

-- what was given out is of an issue that the slot may reach
abbrev pub IsGivenBelow : Config → List Deed → Type 0
IsGivenBelow k h = (id : Speculation) → opened id h ≡ true → id.issue < k.max_issues

-- the drops of batches
abbrev pub drops_of : List Sealing → ℕ
drops_of [] = 0
drops_of (b ∷ bs) = drops_of bs + b.drops
