-- What files have whose records went to them one after another.
use Rattle.std.proofs.Common.{◌≡◌, ◌<◌, ◌≤◌, ◌+◌, ◌++◌, ◌==◌, take, inl, inr, ℕ, zero, suc, Bool, true, false, cond, List, [], ◌∷◌, length, get_or, map, refl, ap, sym, subst, arith, All}
use Rattle.std.proofs.Math.Seq.{take-set-lt}
use Rattle.std.proofs.lemmas.Bool.{eqb-true, eqb-false, Decides.nat_tests}
use Rattle.std.proofs.lemmas.List.{length-set, get_or-set_same, get_or-set_other, get_or_push, get_or_append_left, length_push, take_more_set, Elements.All-nil, Elements.All-cons}
use Rattle.std.proofs.lemmas.List.{Elements.All-get_or, Elements.All-weaker, Sorted.IsNonDecreasingBy-short}
use Rattle.std.specs.{List.Sorted.IsNonDecreasingBy, Prelude.slice_set, Prelude.slice_index, Prelude.filter, Prelude.zip}
use Rattle.dspec_ctf.specs.Words.{Record, GoesToFile, Spreads, of_file}

-- of the places that are counted, one has another stamp
pub stamped : (lasts : List ℕ) (count file stamp : ℕ) → file < count → take count (slice_set lasts file stamp) ≡ slice_set (take count lasts) file stamp
stamped lasts count file stamp there = take-set-lt count lasts file stamp there

-- or one more is counted
pub stamped_next : (lasts : List ℕ) (count stamp : ℕ) → count < length lasts → take (count + 1) (slice_set lasts count stamp) ≡ take count lasts ++ stamp ∷ []
stamped_next lasts count stamp there = take_more_set lasts count stamp there

-- the file that a record goes to has its stamp
pub goes-here : (lasts mid : List ℕ) (stamp file : ℕ) → GoesToFile lasts stamp file mid → (file < length mid) × (slice_index mid file ≡ stamp)
goes-here lasts mid stamp file (inl goes) = grind (arith, nat_tests, length-set, get_or-set_same)
goes-here lasts mid stamp file (inr goes) = grind (arith, nat_tests, length_push, get_or_push)

-- others have theirs
goes-kept : (lasts mid : List ℕ) (stamp file other : ℕ) → GoesToFile lasts stamp file mid → (other ≡ file → ⊥) → other < length lasts
    → (other < length mid) × (slice_index mid other ≡ slice_index lasts other)
goes-kept lasts mid stamp file other (inl goes) differs there = grind (arith, nat_tests, length-set, get_or-set_other)
goes-kept lasts mid stamp file other (inr goes) differs there = grind (arith, nat_tests, length_push, get_or_append_left)

-- a record doesn't go before the last of its file
goes-after : (lasts mid : List ℕ) (stamp file : ℕ) → GoesToFile lasts stamp file mid → file < length lasts → slice_index lasts file ≤ stamp
goes-after lasts mid stamp file (inl goes) there = goes.0.not_above
goes-after lasts mid stamp file (inr goes) there = absurd (omega (arith, there, goes.2))

-- files are added one at a time, up to 64
goes-longer : (lasts mid : List ℕ) (stamp file : ℕ) → GoesToFile lasts stamp file mid → length lasts ≤ 64 → (length lasts ≤ length mid) × (length mid ≤ 64)
goes-longer lasts mid stamp file (inl goes) few = grind (arith, nat_tests, length-set)
goes-longer lasts mid stamp file (inr goes) few = grind (arith, nat_tests, length_push)

-- records that don't fall, after one that is before them
cons-at : (r : Record) (rs : List Record) → All (λ q. r.stamp ≤ q.stamp) rs → IsNonDecreasingBy (λ q. q.stamp) rs → (i j : ℕ) (d : Record) → i ≤ j → j < length (r ∷ rs)
    → (get_or (r ∷ rs) i d).stamp ≤ (get_or (r ∷ rs) j d).stamp
cons-at r rs low rise zero zero d below within = omega arith
cons-at r rs low rise zero (suc j) d below within = All-get_or (λ q. r.stamp ≤ q.stamp) rs j d (omega (arith, within)) low
cons-at r rs low rise (suc i) zero d below within = absurd (omega (arith, below))
cons-at r rs low rise (suc i) (suc j) d below within = rise i j d (omega (arith, below)) (omega (arith, within))

-- these records of a file don't fall, nor stand before its last
record Rises (lasts : List ℕ) (file : ℕ) (qs : List Record) : Type 0 where
  pub after : file < length lasts → All (λ q. slice_index lasts file ≤ q.stamp) qs
  pub rising : IsNonDecreasingBy (λ q. q.stamp) qs

one-more : (lasts mid : List ℕ) (r : Record) (file other : ℕ) (ps : List (ℕ × Record)) (here : Bool) → (other == file) ≡ here → GoesToFile lasts r.stamp other mid
    → Rises mid file (map (λ p. p.1) ps) → Rises lasts file (map (λ p. p.1) (cond here ((other, r) ∷ ps) ps))
one-more lasts mid r file other ps true is goes rises =
    let qs : List Record = map (λ p. p.1) ps in
    let same : other ≡ file = eqb-true other file is in
    let at : GoesToFile lasts r.stamp file mid = subst (λ f. GoesToFile lasts r.stamp f mid) same goes in
    let there = goes-here lasts mid r.stamp file at in
    let low : All (λ q. r.stamp ≤ q.stamp) qs = subst (λ s. All (λ q. s ≤ q.stamp) qs) there.1 (rises.after there.0) in
    record {
      after = λ inside.
          let first : slice_index lasts file ≤ r.stamp = goes-after lasts mid r.stamp file at inside in
          All-cons (λ q. slice_index lasts file ≤ q.stamp) r qs first
          (All-weaker (λ q. r.stamp ≤ q.stamp) (λ q. slice_index lasts file ≤ q.stamp) (λ q above. omega (arith, first, above)) qs low);
      rising = λ i j d below within. cons-at r qs low rises.rising i j d below within;
    }
one-more lasts mid r file other ps false is goes rises =
    let qs : List Record = map (λ p. p.1) ps in
    let differs : file ≡ other → ⊥ = λ same. eqb-false other file is (sym same) in
    record {
      after = λ inside.
          let kept = goes-kept lasts mid r.stamp other file goes differs inside in
          subst (λ s. All (λ q. s ≤ q.stamp) qs) kept.1 (rises.after kept.0);
      rising = rises.rising;
    }

rises-from : (lasts new : List ℕ) (rs : List Record) (files : List ℕ) (file : ℕ) → Spreads lasts rs files new → Rises lasts file (of_file file files rs)
rises-from lasts new [] [] file is = grind (arith, nat_tests, All-nil, IsNonDecreasingBy-short)
rises-from lasts new [] (f ∷ fs) file is = elim is [ ]
rises-from lasts new (r ∷ rs) [] file is = elim is [ ]
rises-from lasts new (r ∷ rs) (f ∷ fs) file (mid, (goes, rest)) =
    one-more lasts mid r file f (filter (λ p. p.0 == file) (zip fs rs)) (f == file) refl goes (rises-from mid new rs fs file rest)

pub files-rise : (lasts : List ℕ) (rs : List Record) (files new : List ℕ) → Spreads lasts rs files new → (file : ℕ)
    → IsNonDecreasingBy (λ r. r.stamp) (of_file file files rs) × (file < length lasts → All (λ r. slice_index lasts file ≤ r.stamp) (of_file file files rs))
files-rise lasts rs files new is file =
    let rises = rises-from lasts new rs files file is in
    (rises.rising, rises.after)

-- which files there are in the end
record Fills (rs : List Record) (files lasts new : List ℕ) : Type 0 where
  pub records : map (λ p. p.1) (zip files rs) ≡ rs
  pub numbers : map (λ p. p.0) (zip files rs) ≡ files
  pub there : All (λ file. file < length new) files
  pub longer : length lasts ≤ length new
  pub few : length new ≤ 64

fills-from : (lasts new : List ℕ) (rs : List Record) (files : List ℕ) → length lasts ≤ 64 → Spreads lasts rs files new → Fills rs files lasts new
fills-from lasts new [] [] few is = grind (arith, nat_tests, All-nil)
fills-from lasts new [] (f ∷ fs) few is = elim is [ ]
fills-from lasts new (r ∷ rs) [] few is = elim is [ ]
fills-from lasts new (r ∷ rs) (f ∷ fs) few (mid, (goes, rest)) =
    let longer = goes-longer lasts mid r.stamp f goes few in
    let at = goes-here lasts mid r.stamp f goes in
    let more = fills-from mid new rs fs longer.1 rest in
    record {
      records = ap (λ qs. r ∷ qs) more.records;
      numbers = ap (λ gs. f ∷ gs) more.numbers;
      there = All-cons (λ file. file < length new) f fs (omega (arith, at.0, more.longer)) more.there;
      longer = omega (arith, longer.0, more.longer);
      few = more.few;
    }

pub files-have-all : (lasts : List ℕ) (rs : List Record) (files new : List ℕ) → length lasts ≤ 64 → Spreads lasts rs files new
    → (map (λ p. p.1) (zip files rs) ≡ rs) × (map (λ p. p.0) (zip files rs) ≡ files) × All (λ file. file < length new) files × (length new ≤ 64)
files-have-all lasts rs files new few is = grind (arith, nat_tests, fills-from)
