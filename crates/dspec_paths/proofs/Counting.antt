-- How many paths are open after one place is written, and the sum after one more is counted.
use Rattle.std.proofs.Common.{◌≡◌, ◌+◌, ◌%◌, ◌^◌, ℕ, zero, suc, [], ◌∷◌, Option, Some, None, refl, sym, ap, subst, ◌∙◌, arith}
use Rattle.std.proofs.Math.Nat.{add-mod-mod, mod-add-mod}
use Rattle.std.specs.Prelude.{slice_get, slice_set}
use Rattle.dspec_paths.specs.Words.{at_place, IsSum, open_in, path_at, Places, counted_times, with_one_begun, with_one_kept, with_one_lost, with_one_thrown_away}
use Rattle.dspec_paths.specs.declared.{open_path.OpenPath.OpenPath, path_counts.PathCounts.PathCounts}

-- ---- how many are open

abbrev one_if : Option OpenPath → ℕ
one_if None = 0
one_if (Some p) = 1

open_first : (o : Option OpenPath) (ps : Places) → open_in (o ∷ ps) ≡ one_if o + open_in ps
open_first None ps = omega arith
open_first (Some p) ps = omega arith

inside : (o p : Option OpenPath) → Some o ≡ Some p → o ≡ p
inside o p e = cc (e)

open_set : (i : ℕ) (ps : Places) (was o : Option OpenPath) → slice_get ps i ≡ Some was → open_in (slice_set ps i o) + one_if was ≡ open_in ps + one_if o
open_set i [] was o got = cc (got)
open_set zero (x ∷ ps) was o got =
    let first = open_first o ps in
    let before = open_first x ps in
    let same : one_if x ≡ one_if was = ap one_if (inside x was got) in
    omega (arith, first, before, same)
open_set (suc i) (x ∷ ps) was o got =
    let first = open_first x (slice_set ps i o) in
    let before = open_first x ps in
    let rest = open_set i ps was o got in
    omega (arith, first, before, rest)

got_path : (o : Option (Option OpenPath)) (p : OpenPath) → at_place o ≡ Some p → o ≡ Some (Some p)
got_path (Some x) p e = ap Some e
got_path None p e = cc (e)

pub opens : (i : ℕ) (ps : Places) (q : OpenPath) → slice_get ps i ≡ Some None → open_in (slice_set ps i (Some q)) ≡ suc (open_in ps)
opens i ps q free = let set = open_set i ps None (Some q) free in omega (arith, set)

pub closes : (i : ℕ) (ps : Places) (p : OpenPath) → path_at i ps ≡ Some p → open_in ps ≡ suc (open_in (slice_set ps i None))
closes i ps p at = let set = open_set i ps (Some p) None (got_path (slice_get ps i) p at) in omega (arith, set)

pub goes_on_open : (i : ℕ) (ps : Places) (p q : OpenPath) → path_at i ps ≡ Some p → open_in (slice_set ps i (Some q)) ≡ open_in ps
goes_on_open i ps p q at = let set = open_set i ps (Some p) (Some q) (got_path (slice_get ps i) p at) in omega (arith, set)

-- ---- the sum

-- the number that is raised comes last
kept_last : (n k t l : ℕ) → n + k + t + l ≡ n + t + l + k
kept_last n k t l = omega arith

thrown_last : (n k t l : ℕ) → n + k + t + l ≡ n + k + l + t
thrown_last n k t l = omega arith

-- one more on one side, modulo m
raised : (m s k : ℕ) → (s + (k + 1) % m) % m ≡ (s + (k + 1)) % m
raised m s k = add-mod-mod s (k + 1) m

one_fewer : (n k t l : ℕ) → n + t + l + (k + 1) ≡ suc n + k + t + l
one_fewer n k t l = omega arith

one_fewer_thrown : (n k t l : ℕ) → n + k + l + (t + 1) ≡ suc n + k + t + l
one_fewer_thrown n k t l = omega arith

one_fewer_lost : (n k t l : ℕ) → n + k + t + (l + 1) ≡ suc n + k + t + l
one_fewer_lost n k t l = omega arith

one_more_open : (n k t l : ℕ) → suc n + k + t + l ≡ n + k + t + l + 1
one_more_open n k t l = omega arith

-- these in place of numbers, modulo m
sum_of_kept : (m n k t l b : ℕ) → (suc n + k + t + l) % m ≡ b → (n + (k + 1) % m + t + l) % m ≡ b
sum_of_kept m n k t l b is = ap (λ s. s % m) (kept_last n ((k + 1) % m) t l) ∙ raised m (n + t + l) k ∙ ap (λ s. s % m) (one_fewer n k t l) ∙ is

sum_of_thrown : (m n k t l b : ℕ) → (suc n + k + t + l) % m ≡ b → (n + k + (t + 1) % m + l) % m ≡ b
sum_of_thrown m n k t l b is = ap (λ s. s % m) (thrown_last n k ((t + 1) % m) l) ∙ raised m (n + k + l) t ∙ ap (λ s. s % m) (one_fewer_thrown n k t l) ∙ is

sum_of_lost : (m n k t l b : ℕ) → (suc n + k + t + l) % m ≡ b → (n + k + t + (l + 1) % m) % m ≡ b
sum_of_lost m n k t l b is = raised m (n + k + t) l ∙ ap (λ s. s % m) (one_fewer_lost n k t l) ∙ is

sum_of_begun : (m n k t l b : ℕ) → (n + k + t + l) % m ≡ b → (suc n + k + t + l) % m ≡ (b + 1) % m
sum_of_begun m n k t l b is = ap (λ s. s % m) (one_more_open n k t l) ∙ sym (mod-add-mod (n + k + t + l) m 1) ∙ ap (λ s. (s + 1) % m) is

pub sum_begun : (n : ℕ) (c : PathCounts) → IsSum n c → IsSum (suc n) (with_one_begun c)
sum_begun n c is = sum_of_begun (2 ^ 64) n c.kept c.thrown_away c.lost c.began is

pub sum_kept : (n : ℕ) (c : PathCounts) → IsSum (suc n) c → IsSum n (with_one_kept c)
sum_kept n c is = sum_of_kept (2 ^ 64) n c.kept c.thrown_away c.lost c.began is

pub sum_thrown : (n : ℕ) (c : PathCounts) → IsSum (suc n) c → IsSum n (with_one_thrown_away c)
sum_thrown n c is = sum_of_thrown (2 ^ 64) n c.kept c.thrown_away c.lost c.began is

pub sum_lost : (n : ℕ) (c : PathCounts) → IsSum (suc n) c → IsSum n (with_one_lost c)
sum_lost n c is = sum_of_lost (2 ^ 64) n c.kept c.thrown_away c.lost c.began is

-- ---- the sum after so many

more_before : (n m : ℕ) → n + suc m ≡ suc n + m
more_before n m = omega arith

none_before : (m : ℕ) → 0 + m ≡ m
none_before m = omega arith

one_further : (n m : ℕ) → suc (n + m) ≡ suc n + m
one_further n m = omega arith

pub sum_after : (count : PathCounts → PathCounts) → ((m : ℕ) (c : PathCounts) → IsSum (suc m) c → IsSum m (count c)) → (n m : ℕ) (c : PathCounts) → IsSum (n + m) c → IsSum m (counted_times n count c)
sum_after count one zero m c is = subst (λ (s : ℕ). IsSum s c) (none_before m) is
sum_after count one (suc n) m c is = one m (counted_times n count c) (sum_after count one n (suc m) c (subst (λ (s : ℕ). IsSum s c) (sym (more_before n m)) is))

pub times_times : (count : PathCounts → PathCounts) (n m : ℕ) (c : PathCounts) → counted_times n count (counted_times m count c) ≡ counted_times (n + m) count c
times_times count zero m c = ap (λ (s : ℕ). counted_times s count c) (sym (none_before m))
times_times count (suc n) m c = ap count (times_times count n m c) ∙ ap (λ (s : ℕ). counted_times s count c) (one_further n m)

pub lost_between : (n : ℕ) (c : PathCounts) → with_one_lost (counted_times n with_one_kept c) ≡ counted_times n with_one_kept (with_one_lost c)
lost_between zero c = refl
lost_between (suc n) c = ap with_one_kept (lost_between n c)
