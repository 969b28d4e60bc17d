-- Each call keeps the sum of the counts.
use Rattle.std.proofs.Common.{◌≡◌, ◌+◌, ℕ, suc, Bool, true, false, Option, Some, None, refl, sym, ap, subst, ◌∙◌, ◌⊎◌, inl, inr, arith}
use Rattle.dspec_paths.specs.Words.{AdoptsPath, BeginsBy, begun_with, CallsMade, Commits, CommitsNewest, CommitsPart, copied_by, DiscardsPath, GoesOnOrLost, IsUndecided, KeepsPart, KeepsPath}
use Rattle.dspec_paths.specs.Words.{KeepsRest, loses_block, LosesPath, path_at, Places, TurnsBy, turned_to, without_path, counted_begin, counted_commit, counted_discard, counted_end, counted_loss}
use Rattle.dspec_paths.specs.Words.{CountsAddUp, IsSum, KeptCounted, KeptOne, open_in, ThrownCounted, counted_times, with_one_begun, with_one_kept, with_one_lost, with_one_thrown_away, Busy}
use Rattle.dspec_paths.specs.Words.{Decided, Id, Opening, Speculation, Unavailable}
use Rattle.dspec_paths.specs.declared.{open_path.OpenPath.OpenPath, path_counts.PathCounts.PathCounts, path_end.PathEnd.PathEnd, path_key.PathKey.PathKey}
use Rattle.dspec_paths.specs.declared.path_end.PathEnd.TheVariants as path
use Rattle.dspec_deeds.specs.declared.calls.Decided.TheVariants as decided
use Rattle.dspec_deeds.specs.declared.calls.Opening.TheVariants as opening
use Rattle.dspec_paths.proofs.Counting.{closes, goes_on_open, lost_between, opens, sum_after, sum_begun, sum_kept, sum_lost, sum_thrown, times_times}

-- as many are open, and the counts are the same
stays : (c : PathCounts) (ps new : Places) → CountsAddUp ps c → open_in new ≡ open_in ps → CountsAddUp new c
stays c ps new is same = subst (λ (n : ℕ). IsSum n c) (sym same) is

-- ---- a path that begins

nothing_begins : (c : PathCounts) (ps new : Places) (a : Option PathKey) → CountsAddUp ps c → a ≡ None → new ≡ ps → CountsAddUp new (counted_begin a c)
nothing_begins c ps new a is none places = subst (λ (o : Option PathKey). CountsAddUp new (counted_begin o c)) (sym none) (stays c ps new is (ap open_in places))

pub begins : (c : PathCounts) (ps new : Places) (number thread stamp : ℕ) (a : Option PathKey) (o : Opening) (x y : CallsMade) → CountsAddUp ps c → BeginsBy o number thread stamp a x y ps new
    → CountsAddUp new (counted_begin a c)
begins c ps new number thread stamp (Some k) (Id id) x y is (newest, free, calls, places) =
    subst (λ (n : ℕ). IsSum n (with_one_begun c)) (sym (ap open_in places ∙ opens k.place ps (begun_with number thread stamp id) free)) (sum_begun (open_in ps) c is)
begins c ps new number thread stamp None (Id id) x y is (taken, so, places) = stays c ps new is (ap open_in places)
begins c ps new number thread stamp a Unavailable x y is (none, calls, places) = nothing_begins c ps new a is none places
begins c ps new number thread stamp a Busy x y is (none, calls, places) = nothing_begins c ps new a is none places
begins c ps new number thread stamp a opening.Stopped x y is (none, calls, places) = nothing_begins c ps new a is none places
begins c ps new number thread stamp a opening.Worn x y is (none, calls, places) = nothing_begins c ps new a is none places

-- ---- a path that goes on, or is another thread's

pub turns : (c : PathCounts) (ps new : Places) (k : PathKey) (p : OpenPath) (a : Option Speculation) (o : Opening) (x y : CallsMade) → CountsAddUp ps c → IsUndecided k ps p
    → TurnsBy o k p a x y ps new → CountsAddUp new c
turns c ps new k p a (Id id) x y is is_open (given, (older, so, places)) = stays c ps new is (ap open_in places ∙ goes_on_open k.place ps p (turned_to id older p) is_open.0.0)
turns c ps new k p a Unavailable x y is is_open (none, calls, places) = stays c ps new is (ap open_in places)
turns c ps new k p a Busy x y is is_open (none, calls, places) = stays c ps new is (ap open_in places)
turns c ps new k p a opening.Stopped x y is is_open (none, calls, places) = stays c ps new is (ap open_in places)
turns c ps new k p a opening.Worn x y is is_open (none, calls, places) = stays c ps new is (ap open_in places)

pub adopts : (c : PathCounts) (ps new : Places) (k : PathKey) (thread : ℕ) (a : Bool) → CountsAddUp ps c → AdoptsPath k thread a ps new → CountsAddUp new c
adopts c ps new k thread true is (p, named, places) = stays c ps new is (ap open_in places ∙ goes_on_open k.place ps p (record p { thread = thread }) named.0)
adopts c ps new k thread false is (none, places) = stays c ps new is (ap open_in places)

-- ---- a path that is thrown away

closed : (ps new : Places) (k : PathKey) (p : OpenPath) → path_at k.place ps ≡ Some p → new ≡ without_path k ps → open_in ps ≡ suc (open_in new)
closed ps new k p at places = closes k.place ps p at ∙ ap (λ (qs : Places). suc (open_in qs)) (sym places)

one_less : (c : PathCounts) (ps new : Places) → CountsAddUp ps c → open_in ps ≡ suc (open_in new) → IsSum (suc (open_in new)) c
one_less c ps new is less = subst (λ (n : ℕ). IsSum n c) less is

pub discards : (c : PathCounts) (ps new : Places) (k : PathKey) (a : Bool) (x y : CallsMade) → CountsAddUp ps c → DiscardsPath k a x y ps new → CountsAddUp new (counted_discard a c)
discards c ps new k true x y is (p, is_open, (older, d, z, first, last, places)) = sum_thrown (open_in new) c (one_less c ps new is (closed ps new k p is_open.0.0 places))
discards c ps new k false x y is (none, (calls, places)) = stays c ps new is (ap open_in places)

pub loses : (c : PathCounts) (ps new : Places) (k : PathKey) (a : Bool) (x y : CallsMade) → CountsAddUp ps c → DiscardsPath k a x y ps new → CountsAddUp new (counted_loss a c)
loses c ps new k true x y is (p, is_open, (older, d, z, first, last, places)) = sum_lost (open_in new) c (one_less c ps new is (closed ps new k p is_open.0.0 places))
loses c ps new k false x y is (none, (calls, places)) = stays c ps new is (ap open_in places)

one_end : (n m : ℕ) → n ≡ suc m → n ≡ 1 + m
one_end n m e = omega (arith, e)

no_end : (n m : ℕ) → n ≡ m → n ≡ 0 + m
no_end n m e = omega (arith, e)

no_ends : (n : ℕ) → n ≡ 0 + 0 + n
no_ends n = omega arith

pub thrown_one : (k : PathKey) (a : Bool) (x y : CallsMade) (ps new : Places) (c later : PathCounts) → DiscardsPath k a x y ps new → later ≡ counted_discard a c → ThrownCounted ps new c later
thrown_one k true x y ps new c later (p, is_open, (older, d, z, first, last, places)) counted = (1, one_end (open_in ps) (open_in new) (closed ps new k p is_open.0.0 places), counted)
thrown_one k false x y ps new c later (none, (calls, places)) counted = (0, no_end (open_in ps) (open_in new) (ap open_in (sym places)), counted)

pub none_thrown : (ps : Places) (c : PathCounts) → ThrownCounted ps ps c c
none_thrown ps c = (0, no_end (open_in ps) (open_in ps) refl, refl)

pub thrown_then : (ps mid new : Places) (c between later : PathCounts) → ThrownCounted ps mid c between → ThrownCounted mid new between later → ThrownCounted ps new c later
thrown_then ps mid new c between later (n, opened, is) (m, further, more) =
    (m + n, omega (arith, opened, further), more ∙ (ap (counted_times m with_one_thrown_away) is ∙ times_times with_one_thrown_away m n c))

pub throws_many : (c later : PathCounts) (ps new : Places) → CountsAddUp ps c → ThrownCounted ps new c later → CountsAddUp new later
throws_many c later ps new is (n, opened, counted) =
    subst (λ (d : PathCounts). CountsAddUp new d) (sym counted) (sum_after with_one_thrown_away sum_thrown n (open_in new) c (subst (λ (s : ℕ). IsSum s c) opened is))

-- ---- a path that is kept, or lost

ended_one : (part : Bool) (d : Decided) (c : PathCounts) → (counted_commit part d c ≡ with_one_kept c) ⊎ (counted_commit part d c ≡ with_one_lost c)
ended_one true d c = inl refl
ended_one false (decided.Copied n) c = inl refl
ended_one false (decided.Lost n) c = inr refl
ended_one false (decided.Thrown n) c = inr refl
ended_one false decided.Void c = inr refl
ended_one false decided.Stopped c = inr refl
ended_one false decided.Worn c = inr refl

-- it is open still
still_open : (part : Bool) (a b : PathEnd) (ps new : Places) (c : PathCounts) → a ≡ b → counted_end part b c ≡ c → open_in new ≡ open_in ps → KeptOne ps new c (counted_end part a c)
still_open part a b ps new c is nothing same = inl (same, ap (λ (e : PathEnd). counted_end part e c) is ∙ nothing)

lost_whole : (part : Bool) (k : PathKey) (p q : OpenPath) (a : PathEnd) (x y : CallsMade) (ps new : Places) (c : PathCounts) → path_at k.place ps ≡ Some p → LosesPath k q a x y ps new
    → KeptOne ps new c (counted_end part a c)
lost_whole part k p q a x y ps new c at ((d, is, so), places) = inr (closed ps new k p at places, inr (ap (λ (e : PathEnd). counted_end part e c) is))

module _ (lacks : Speculation → Type 0) (waits part : Bool) (k : PathKey) (a : PathEnd) (c : PathCounts) (p : OpenPath) where
  newest_one : (n : ℕ) (q : OpenPath) (x y : CallsMade) (ps new : Places) → path_at k.place ps ≡ Some p → CommitsNewest lacks waits n k q a x y ps new → KeptOne ps new c (counted_end part a c)
  newest_one n q x y ps new at (inl (is, asked, none, calls, places)) = still_open part a (path.Waits n) ps new c is refl (ap open_in places ∙ goes_on_open k.place ps p q at)
  newest_one n q x y ps new at (inr (d, is, none, so, places)) =
      inr (
        closed ps new k p at places,
        elim (ended_one part d c) [
          | inl kept ↦ inl (ap (λ (e : PathEnd). counted_end part e c) is ∙ kept)
          | inr lost ↦ inr (ap (λ (e : PathEnd). counted_end part e c) is ∙ lost)
        ],
      )

  rest_one : (b : Bool) (n : ℕ) (q : OpenPath) (x y : CallsMade) (ps new : Places) → path_at k.place ps ≡ Some p → KeepsRest lacks waits b n k q a x y ps new → KeptOne ps new c (counted_end part a c)
  rest_one true n q x y ps new at is = lost_whole part k p q a x y ps new c at is
  rest_one false n q x y ps new at is = newest_one n q x y ps new at is

  part_one : (b : Bool) (n : ℕ) (q : OpenPath) (x y : CallsMade) (ps new : Places) → path_at k.place ps ≡ Some p → GoesOnOrLost b n k q a x y ps new → KeptOne ps new c (counted_end part a c)
  part_one true n q x y ps new at is = lost_whole part k p q a x y ps new c at is
  part_one false n q x y ps new at (is, calls, places) = still_open part a (path.GoesOn n) ps new c is refl (ap open_in places ∙ goes_on_open k.place ps p q at)

  commits_one : (o : Option Speculation) (x y : CallsMade) (ps new : Places) → path_at k.place ps ≡ Some p → Commits lacks waits o k p a x y ps new → KeptOne ps new c (counted_end part a c)
  commits_one None x y ps new at is = newest_one 0 p x y ps new at is
  commits_one (Some id) x y ps new at (inl (is, asked, none, calls, places)) = still_open part a (path.Waits 0) ps new c is refl (ap open_in places)
  commits_one (Some id) x y ps new at (inr (d, z, none, so, on)) = rest_one (loses_block d) (copied_by d) (record p { older = None; is_kept = true }) z y ps new at on

  commits_part_one : (o : Option Speculation) (x y : CallsMade) (ps new : Places) → path_at k.place ps ≡ Some p → CommitsPart lacks waits o k p a x y ps new → KeptOne ps new c (counted_end part a c)
  commits_part_one None x y ps new at is = newest_one 0 p x y ps new at is
  commits_part_one (Some id) x y ps new at (inl (is, asked, none, calls, places)) = still_open part a (path.Waits 0) ps new c is refl (ap open_in places)
  commits_part_one (Some id) x y ps new at (inr (d, z, none, so, on)) = part_one (loses_block d) (copied_by d) (record p { older = None; is_kept = true }) z y ps new at on

kept_one : (lacks : Speculation → Type 0) (waits part : Bool) (k : PathKey) (a : PathEnd) (x y : CallsMade) (ps new : Places) (c : PathCounts) → KeepsPath lacks waits k a x y ps new
    → KeptOne ps new c (counted_end part a c)
kept_one lacks waits part k a x y ps new c (inl (is, none, (calls, places))) = still_open part a path.Over ps new c is refl (ap open_in places)
kept_one lacks waits part k a x y ps new c (inr (p, named, on)) = commits_one lacks waits part k a c p p.older x y ps new named.0 on

pub kept_so : (lacks : Speculation → Type 0) (waits part : Bool) (k : PathKey) (a : PathEnd) (x y : CallsMade) (ps new : Places) (c later : PathCounts) → KeepsPath lacks waits k a x y ps new
    → later ≡ counted_end part a c → KeptOne ps new c later
kept_so lacks waits part k a x y ps new c later kept counted = subst (λ (d : PathCounts). KeptOne ps new c d) (sym counted) (kept_one lacks waits part k a x y ps new c kept)

part_kept_one : (lacks : Speculation → Type 0) (waits part : Bool) (k : PathKey) (a : PathEnd) (x y : CallsMade) (ps new : Places) (c : PathCounts) → KeepsPart lacks waits k a x y ps new
    → KeptOne ps new c (counted_end part a c)
part_kept_one lacks waits part k a x y ps new c (inl (is, none, (calls, places))) = still_open part a path.Over ps new c is refl (ap open_in places)
part_kept_one lacks waits part k a x y ps new c (inr (p, named, on)) = commits_part_one lacks waits part k a c p p.older x y ps new named.0 on

one_balances : (c later : PathCounts) (ps new : Places) → CountsAddUp ps c → KeptOne ps new c later → CountsAddUp new later
one_balances c later ps new is (inl (same, counted)) = subst (λ (d : PathCounts). CountsAddUp new d) (sym counted) (stays c ps new is same)
one_balances c later ps new is (inr (less, inl counted)) = subst (λ (d : PathCounts). CountsAddUp new d) (sym counted) (sum_kept (open_in new) c (one_less c ps new is less))
one_balances c later ps new is (inr (less, inr counted)) = subst (λ (d : PathCounts). CountsAddUp new d) (sym counted) (sum_lost (open_in new) c (one_less c ps new is less))

pub keeps : (part : PathKey → Places → Bool) (lacks : Speculation → Type 0) (waits : Bool) (c : PathCounts) (ps new : Places) (k : PathKey) (a : PathEnd) (x y : CallsMade) → CountsAddUp ps c
    → KeepsPath lacks waits k a x y ps new → CountsAddUp new (counted_end (part k ps) a c)
keeps part lacks waits c ps new k a x y is kept = one_balances c (counted_end (part k ps) a c) ps new is (kept_one lacks waits (part k ps) k a x y ps new c kept)

pub keeps_part : (part : PathKey → Places → Bool) (lacks : Speculation → Type 0) (waits : Bool) (c : PathCounts) (ps new : Places) (k : PathKey) (a : PathEnd) (x y : CallsMade) → CountsAddUp ps c
    → KeepsPart lacks waits k a x y ps new → CountsAddUp new (counted_end (part k ps) a c)
keeps_part part lacks waits c ps new k a x y is kept = one_balances c (counted_end (part k ps) a c) ps new is (part_kept_one lacks waits (part k ps) k a x y ps new c kept)

pub none_kept : (ps : Places) (c : PathCounts) → KeptCounted ps ps c c
none_kept ps c = (0, 0, no_ends (open_in ps), refl)

pub kept_then : (ps mid new : Places) (c between later : PathCounts) → KeptCounted ps mid c between → KeptOne mid new between later → KeptCounted ps new c later
kept_then ps mid new c between later (n, m, opened, is) (inl (same, counted)) = (n, m, omega (arith, opened, same), counted ∙ is)
kept_then ps mid new c between later (n, m, opened, is) (inr (less, inl counted)) = (suc n, m, omega (arith, opened, less), counted ∙ ap with_one_kept is)
kept_then ps mid new c between later (n, m, opened, is) (inr (less, inr counted)) =
    (n, suc m, omega (arith, opened, less), counted ∙ (ap with_one_lost is ∙ lost_between n (counted_times m with_one_lost c)))

sum_split : (n m s : ℕ) → n + m + s ≡ m + (n + s)
sum_split n m s = omega arith

pub keeps_many : (c later : PathCounts) (ps new : Places) → CountsAddUp ps c → KeptCounted ps new c later → CountsAddUp new later
keeps_many c later ps new is (n, m, opened, counted) =
    let all : IsSum (m + (n + open_in new)) c = subst (λ (s : ℕ). IsSum s c) (opened ∙ sum_split n m (open_in new)) is in
    subst (λ (d : PathCounts). CountsAddUp new d) (sym counted)
    (sum_after with_one_kept sum_kept n (open_in new) (counted_times m with_one_lost c) (sum_after with_one_lost sum_lost m (n + open_in new) c all))
