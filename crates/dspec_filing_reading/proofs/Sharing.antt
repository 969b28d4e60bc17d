-- Records of a batch that are shared out to the files of their CPU.
use Rattle.std.proofs.Common.{◌≡◌, ◌<◌, ◌≤◌, ◌-◌, ◌^◌, ◌==◌, ◌++◌, inl, inr, ℕ, zero, suc, Bool, true, false, cond, List, [], ◌∷◌, refl, ap, sym, subst, arith, drop, length, map, replicate, All}
use Rattle.std.proofs.lemmas.Bool.Decides.{nat_tests}
use Rattle.std.proofs.lemmas.List.Elements.{All-head, All-tail, All-nil, All-cons, All-drop, All-take, All-weaker}
use Rattle.std.specs.Prelude.{slice_index, slice_range, slice_set, filter, zip}
use Rattle.dspec_filing_reading.specs.Words.{Record, enabled, EnabledRows, accepted-parts, AreFiled, HaveAllBetween, Accepts, AreRuns, GoesToFile, IsFileRun, Spreads, of_file, run_files}
use Rattle.dspec_filing_reading.specs.Words.{run_packets, Run}
use Rattle.dspec_ctf_reading.proofs.Files.{stamp-low}

pub stamps_low : (e : EnabledRows) (rs : List Record) → All (Accepts e) rs → All (λ r. r.stamp < 2 ^ 64) rs
stamps_low e rs all = All-weaker (Accepts e) (λ r. r.stamp < 2 ^ 64) (λ r is. stamp-low e.header r.stamp (accepted-parts e.header (enabled e.rows) r is).stamp) rs all

-- records after others that have a file each
one_more : (b : Bool) (p : ℕ × Record) (ps qs : List (ℕ × Record)) (more : List Record) → map (λ x. x.1) ps ≡ map (λ x. x.1) qs ++ more
    → map (λ x. x.1) (cond b (p ∷ ps) ps) ≡ map (λ x. x.1) (cond b (p ∷ qs) qs) ++ more
one_more true p ps qs more is = ap (λ rs. p.1 ∷ rs) is
one_more false p ps qs more is = is

pub of_more : (file : ℕ) (fs gs : List ℕ) (rs qs : List Record) → length fs ≡ length rs → of_file file (fs ++ gs) (rs ++ qs) ≡ of_file file fs rs ++ of_file file gs qs
of_more file [] gs [] qs each = refl
of_more file [] gs (r ∷ rs) qs each = absurd (omega (arith, each))
of_more file (f ∷ fs) gs [] qs each = absurd (omega (arith, each))
of_more file (f ∷ fs) gs (r ∷ rs) qs each =
    one_more (f == file) (f, r) (filter (λ p. p.0 == file) (zip (fs ++ gs) (rs ++ qs))) (filter (λ p. p.0 == file) (zip fs rs)) (of_file file gs qs)
    (of_more file fs gs rs qs (omega (arith, each)))

-- each record has one
pub spread_each : (lasts : List ℕ) (rs : List Record) (files new : List ℕ) → Spreads lasts rs files new → length files ≡ length rs
spread_each lasts [] [] new is = refl
spread_each lasts [] (f ∷ fs) new is = elim is [ ]
spread_each lasts (r ∷ rs) [] new is = elim is [ ]
spread_each lasts (r ∷ rs) (f ∷ fs) new (mid, (goes, rest)) = ap suc (spread_each mid rs fs new rest)

-- the first file's last stamp keeps to 64 bits
set_low : (xs : List ℕ) (i x : ℕ) → x < 2 ^ 64 → slice_index xs 0 < 2 ^ 64 → slice_index (slice_set xs i x) 0 < 2 ^ 64
set_low [] i x low first = first
set_low (y ∷ ys) zero x low first = low
set_low (y ∷ ys) (suc i) x low first = first

push_low : (xs : List ℕ) (x : ℕ) → x < 2 ^ 64 → slice_index xs 0 < 2 ^ 64 → slice_index (xs ++ x ∷ []) 0 < 2 ^ 64
push_low [] x low first = low
push_low (y ∷ ys) x low first = first

goes_low : (lasts mid : List ℕ) (stamp file : ℕ) → stamp < 2 ^ 64 → slice_index lasts 0 < 2 ^ 64 → GoesToFile lasts stamp file mid → slice_index mid 0 < 2 ^ 64
goes_low lasts mid stamp file low first (inl goes) = subst (λ (xs : List ℕ). slice_index xs 0 < 2 ^ 64) (sym goes.1) (set_low lasts file stamp low first)
goes_low lasts mid stamp file low first (inr goes) = subst (λ (xs : List ℕ). slice_index xs 0 < 2 ^ 64) (sym goes.3) (push_low lasts stamp low first)

spread_low : (lasts : List ℕ) (rs : List Record) (files new : List ℕ) → All (λ r. r.stamp < 2 ^ 64) rs → slice_index lasts 0 < 2 ^ 64 → Spreads lasts rs files new → slice_index new 0 < 2 ^ 64
spread_low lasts [] [] new low first is = subst (λ (xs : List ℕ). slice_index xs 0 < 2 ^ 64) (sym is) first
spread_low lasts [] (f ∷ fs) new low first is = elim is [ ]
spread_low lasts (r ∷ rs) [] new low first is = elim is [ ]
spread_low lasts (r ∷ rs) (f ∷ fs) new low first (mid, (goes, rest)) =
    spread_low mid rs fs new (All-tail (λ (q : Record). q.stamp < 2 ^ 64) r rs low)
    (goes_low lasts mid r.stamp f (All-head (λ (q : Record). q.stamp < 2 ^ 64) r rs low) first goes) rest

range_low : (rs : List Record) (from to : ℕ) → All (λ r. r.stamp < 2 ^ 64) rs → All (λ r. r.stamp < 2 ^ 64) (slice_range rs from to)
range_low rs from to low = All-take (λ r. r.stamp < 2 ^ 64) (to - from) (drop from rs) (All-drop (λ r. r.stamp < 2 ^ 64) from rs low)

-- packets of runs have the runs' files
pub packets_few : (uuid : List ℕ) (e : EnabledRows) (missed cpu : ℕ) (rs : List Record) (from : ℕ) (runs : List Run) → All (λ (run : Run). run.file < 64) runs
    → All (λ (p : ℕ × List ℕ). p.0 < 64) (run_packets uuid e missed cpu rs from runs)
packets_few uuid e missed cpu rs from [] few = All-nil (λ (p : ℕ × List ℕ). p.0 < 64)
packets_few uuid e missed cpu rs from (run ∷ runs) few =
    All-cons (λ (p : ℕ × List ℕ). p.0 < 64) _ (run_packets uuid e missed cpu rs run.end runs) (All-head (λ (run : Run). run.file < 64) run runs few)
    (packets_few uuid e missed cpu rs run.end runs (All-tail (λ (run : Run). run.file < 64) run runs few))

all_same : (n file most : ℕ) → 0 < n → All (λ f. f < most) (replicate n file) → file < most
all_same zero file most some all = absurd (omega (arith, some))
all_same (suc n) file most some all = All-head (λ f. f < most) file (replicate n file) all

-- that files have all records, and runs too
abbrev pub FilesHaveAll : Type 0
FilesHaveAll = (lasts : List ℕ) (rs : List Record) (files new : List ℕ) → length lasts ≤ 64 → Spreads lasts rs files new
    → AreFiled rs files (length new)

abbrev pub RunsHaveAll : Type 0
RunsHaveAll = (lasts new : List ℕ) (rs : List Record) (from to : ℕ) (runs : List Run) → AreRuns lasts rs from runs to new
    → HaveAllBetween lasts rs from runs to new

module _ (files_law : FilesHaveAll) (runs_law : RunsHaveAll) where
  run_few : (lasts : List ℕ) (rs : List Record) (place : ℕ) (run : Run) (new : List ℕ) → length lasts ≤ 64 → IsFileRun lasts rs place run new → (run.file < 64) × (length new ≤ 64)
  run_few lasts rs place run new few is = grind (arith, nat_tests, all_same)

  pub runs_few : (lasts : List ℕ) (rs : List Record) (from : ℕ) (runs : List Run) (to : ℕ) (new : List ℕ) → length lasts ≤ 64 → AreRuns lasts rs from runs to new
      → All (λ (run : Run). run.file < 64) runs
  runs_few lasts rs from [] to new few is = All-nil (λ (run : Run). run.file < 64)
  runs_few lasts rs from (run ∷ runs) to new few (mid, (one, more)) =
      let first = run_few lasts rs from run mid few one in
      All-cons (λ (run : Run). run.file < 64) run runs first.0 (runs_few mid rs run.end runs to new first.1 more)

  -- the last stamps after runs, also where they aren't written
  pub lasts_follow : (lasts : List ℕ) (rs : List Record) (from to : ℕ) (runs : List Run) (new : List ℕ) → length lasts ≤ 64 → slice_index lasts 0 < 2 ^ 64 → All (λ r. r.stamp < 2 ^ 64) rs
      → AreRuns lasts rs from runs to new → (length new ≤ 64) × (slice_index new 0 < 2 ^ 64)
  lasts_follow lasts rs from to runs new few first low are =
      let covers = runs_law lasts new rs from to runs are in (
        (files_law lasts (slice_range rs from to) (run_files from runs) new few covers.1).3,
        spread_low lasts (slice_range rs from to) (run_files from runs) new (range_low rs from to low) first covers.1,
      )

  pub lasts_after : (lasts : List ℕ) (rs : List Record) (place : ℕ) (run : Run) (new : List ℕ) → length lasts ≤ 64 → slice_index lasts 0 < 2 ^ 64 → All (λ r. r.stamp < 2 ^ 64) rs
      → IsFileRun lasts rs place run new → (length new ≤ 64) × (slice_index new 0 < 2 ^ 64)
  lasts_after lasts rs place run new few first low is = lasts_follow lasts rs place run.end (run ∷ []) new few first low (new, (is, (refl, refl)))
