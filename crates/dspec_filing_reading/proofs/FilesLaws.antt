-- The laws on which the reading of a CPU's files by time stands.
use Rattle.std.proofs.Common.{◌≡◌, ◌==◌, ℕ, Bool, true, false, cond, refl, ap}
use Rattle.dspec_filing_reading.specs.Words.{EnabledRows, told_by, MissedReadsBack, RunsReadBack, Names}
use Rattle.dspec_filing_reading.proofs.{Growing.FilesJoin, Sharing.FilesHaveAll, Sharing.RunsHaveAll}

-- that the packets of runs are read as their records, and what tells what was missed as that
abbrev pub RunsRead : Type 0
RunsRead = (e : EnabledRows) (names : Names) → RunsReadBack e names

abbrev pub MissedRead : Type 0
MissedRead = (e : EnabledRows) (names : Names) → MissedReadsBack e names

pub record FilesLaws : Type 0 where
  pub join : FilesJoin
  pub runs : RunsRead
  pub missed : MissedRead
  pub have_all : FilesHaveAll
  pub runs_have : RunsHaveAll

-- a file that tells so many either way does
pub told_same : (b : Bool) (n : ℕ) → cond b n n ≡ n
told_same true n = refl
told_same false n = refl

-- files that aren't the first tell nothing
pub told_other : (file n : ℕ) → (file == 0) ≡ false → told_by file n ≡ 0
told_other file n is = ap (λ b. cond b n 0) is
