-- Records that go to files one after another.
use Rattle.std.proofs.Common.{◌≡◌, ◌<◌, ◌≤◌, ◌+◌, ◌-◌, ℕ, suc, List, [], ◌∷◌, ◌++◌, Some, length, get_or, take, drop, replicate, refl, ap, sym, subst, ◌∙◌, arith}
use Rattle.std.proofs.Math.Seq.{take-add}
use Rattle.std.proofs.lemmas.{Bool.Decides.nat_tests, List.length-drop, List.get_or-drop, List.take_more, List.drop_more, List.drop-drop, List.replicate_more, Option.slice_get-get_or}
use Rattle.std.specs.Prelude.{slice_get, slice_range}
use Rattle.dspec_ctf.specs.{Words.Record, Words.GoesToFile, Words.Spreads, Words.AreRuns, Words.run_records, Words.run_files, declared.rows.Run.Run}

-- one record more
pub Spreads-push : (lasts mid new : List ℕ) (rs : List Record) (files : List ℕ) (r : Record) (file : ℕ) → Spreads lasts rs files mid → GoesToFile mid r.stamp file new
    → Spreads lasts (rs ++ r ∷ []) (files ++ file ∷ []) new
Spreads-push lasts mid new [] [] r file is goes = (new, (subst (λ l. GoesToFile l r.stamp file new) is goes, refl))
Spreads-push lasts mid new [] (f ∷ fs) r file is goes = elim is [ ]
Spreads-push lasts mid new (q ∷ rs) [] r file is goes = elim is [ ]
Spreads-push lasts mid new (q ∷ rs) (f ∷ fs) r file (at, (first, rest)) goes = (at, (first, Spreads-push at mid new rs fs r file rest goes))

-- records after others
pub Spreads-append : (lasts mid new : List ℕ) (rs qs : List Record) (files more : List ℕ) → Spreads lasts rs files mid → Spreads mid qs more new
    → Spreads lasts (rs ++ qs) (files ++ more) new
Spreads-append lasts mid new [] qs [] more is then = subst (λ l. Spreads l qs more new) is then
Spreads-append lasts mid new [] qs (f ∷ fs) more is then = elim is [ ]
Spreads-append lasts mid new (r ∷ rs) qs [] more is then = elim is [ ]
Spreads-append lasts mid new (r ∷ rs) qs (f ∷ fs) more (at, (first, rest)) then = (at, (first, Spreads-append at mid new rs qs fs more rest then))

-- one record more of a list goes to the file
pub run-more : (lasts mid new : List ℕ) (rs : List Record) (from place file : ℕ) (r : Record) → from ≤ place → place < length rs → r ≡ get_or rs place r
    → Spreads lasts (slice_range rs from place) (replicate (place - from) file) mid → GoesToFile mid r.stamp file new
    → Spreads lasts (slice_range rs from (place + 1)) (replicate (place + 1 - from) file) new
run-more lasts mid new rs from place file r after within is so_far goes =
    let k : ℕ = place - from in
    let front : List Record = drop from rs in
    let inside : k < length front = omega (arith, after, within, length-drop from rs) in
    let whole : from + k ≡ place = omega (arith, after) in
    let here : get_or front k r ≡ r = get_or-drop from rs k r ∙ ap (λ n. get_or rs n r) whole ∙ sym is in
    let longer : take k front ++ r ∷ [] ≡ take (k + 1) front = ap (λ x. take k front ++ x ∷ []) (sym here) ∙ sym (take_more front k r inside) in
    let sum : k + 1 ≡ place + 1 - from = omega (arith, after) in
    let pushed = Spreads-push lasts mid new (take k front) (replicate k file) r file so_far goes in
    let records = subst (λ xs. Spreads lasts xs (replicate k file ++ file ∷ []) new) longer pushed in
    let files = subst (λ fs. Spreads lasts (take (k + 1) front) fs new) (replicate_more k file) records in
    subst (λ n. Spreads lasts (take n front) (replicate n file) new) sum files

-- a record goes to a file, and those after it
pub run-first : (lasts mid new : List ℕ) (rs : List Record) (place end file : ℕ) → place < length rs → place < end
    → ((r : Record) → slice_get rs place ≡ Some r → GoesToFile lasts r.stamp file mid)
    → Spreads mid (slice_range rs (place + 1) end) (replicate (end - (place + 1)) file) new
    → Spreads lasts (slice_range rs place end) (replicate (end - place) file) new
run-first lasts mid new rs place end file within some goes rest =
    let none : Record = record { epid = 0; stamp = 0; values = [] } in
    let r : Record = get_or rs place none in
    let n : ℕ = end - (place + 1) in
    let sum : suc n ≡ end - place = omega (arith, some) in
    let is : r ∷ drop (place + 1) rs ≡ drop place rs = sym (drop_more rs place none within) in
    let both : Spreads lasts (take (suc n) (r ∷ drop (place + 1) rs)) (replicate (suc n) file) new = (mid, (goes r (slice_get-get_or rs place none within), rest)) in
    let records = subst (λ xs. Spreads lasts (take (suc n) xs) (replicate (suc n) file) new) is both in
    subst (λ m. Spreads lasts (take m (drop place rs)) (replicate m file) new) sum records

-- records of two runs
range-joined : (rs : List Record) (from mid to : ℕ) → from ≤ mid → mid ≤ to → slice_range rs from mid ++ slice_range rs mid to ≡ slice_range rs from to
range-joined rs from mid to below above =
    let n : ℕ = mid - from in
    let m : ℕ = to - mid in
    let whole : from + n ≡ mid = omega (arith, below) in
    let sum : n + m ≡ to - from = omega (arith, below, above) in
    let after : drop mid rs ≡ drop n (drop from rs) = ap (λ k. drop k rs) (sym whole) ∙ sym (drop-drop n from rs) in
    ap (λ xs. take n (drop from rs) ++ take m xs) after ∙ sym (take-add n m (drop from rs)) ∙ ap (λ k. take k (drop from rs)) sum

-- runs one after another have each record once
pub record Covers (lasts : List ℕ) (rs : List Record) (from : ℕ) (runs : List Run) (to : ℕ) (new : List ℕ) : Type 0 where
  pub forward : from ≤ to
  pub records : run_records rs from runs ≡ slice_range rs from to
  pub goes : Spreads lasts (slice_range rs from to) (run_files from runs) new

pub runs-cover : (lasts : List ℕ) (rs : List Record) (from : ℕ) (runs : List Run) (to : ℕ) (new : List ℕ) → AreRuns lasts rs from runs to new → Covers lasts rs from runs to new
runs-cover lasts rs from [] to new is = grind (arith, nat_tests)
runs-cover lasts rs from (run ∷ runs) to new (mid, (one, more)) =
    let rest = runs-cover mid rs run.end runs to new more in
    let below : from ≤ run.end = omega (arith, one.some) in
    let joined = range-joined rs from run.end to below rest.forward in
    record {
      forward = omega (arith, one.some, rest.forward);
      records = ap (λ xs. slice_range rs from run.end ++ xs) rest.records ∙ joined;
      goes = subst (λ xs. Spreads lasts xs (replicate (run.end - from) run.file ++ run_files run.end runs) new) joined
          (Spreads-append lasts mid new (slice_range rs from run.end) (slice_range rs run.end to) (replicate (run.end - from) run.file) (run_files run.end runs) one.goes rest.goes);
    }
