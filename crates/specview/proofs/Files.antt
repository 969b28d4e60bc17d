-- Files that come after others in a folder.
use Rattle.std.proofs.Common.{◌≡◌, ℕ, ◌+◌, ◌<◌, ◌≤◌, List, [], ◌∷◌, ◌++◌, Option, Some, None, length, map, take, get_or, sym, ap, ◌∙◌, subst, append_assoc, arith}
use Rattle.std.proofs.lemmas.{Bool.Decides.nat_tests, List.append-nil, List.take_more, List.map-append, List.length-map, List.length-take-le}
use Rattle.specview.specs.Words.{NamedFile, AddsFiles, written_files, cpu_files}

pub adds_more : (a b c : Option (List NamedFile)) (xs ys : List NamedFile) → AddsFiles a b xs → AddsFiles b c ys → AddsFiles a c (xs ++ ys)
adds_more None b c xs ys one two = tt
adds_more (Some olds) None c xs ys one two = absurd one
adds_more (Some olds) (Some bs) None xs ys one two = absurd two
adds_more (Some olds) (Some bs) (Some cs) xs ys one two = two ∙ (ap (λ l. l ++ ys) one ∙ append_assoc olds xs ys)

files_more : (n : ℕ) (fs : List (List ℕ)) (f : List ℕ) → cpu_files n (fs ++ f ∷ []) ≡ cpu_files n fs ++ written_files (n + length fs) f
files_more n [] f = grind (arith, nat_tests, append-nil)
files_more n (g ∷ fs) f = grind (arith, nat_tests, files_more (n + 1) fs f)

module _ {V : Type 0} (items : V → List ℕ) where
  -- the files so far and one more
  pub next_file : (a b c : Option (List NamedFile)) (fs : List V) (i : ℕ) (f : V) (bytes : List ℕ) → AddsFiles a b (cpu_files 0 (map items (take i fs)))
      → AddsFiles b c (written_files i bytes) → i < length fs → f ≡ get_or fs i f → bytes ≡ items f → AddsFiles a c (cpu_files 0 (map items (take (i + 1) fs)))
  next_file a b c fs i f bytes before new lt is same =
      let within : i ≤ length fs = omega arith in
      let long : length (map items (take i fs)) ≡ i = length-map (take i fs) items ∙ length-take-le i fs within in
      let more : take (i + 1) fs ≡ take i fs ++ f ∷ [] = take_more fs i f lt ∙ ap (λ (x : V). take i fs ++ x ∷ []) (sym is) in
      let whole : cpu_files 0 (map items (take (i + 1) fs)) ≡ cpu_files 0 (map items (take i fs)) ++ written_files i bytes =
      ap (λ xs. cpu_files 0 (map items xs)) more
      ∙ (ap (cpu_files 0) (map-append items (take i fs) (f ∷ []))
      ∙ (files_more 0 (map items (take i fs)) (items f)
      ∙ (ap (λ m. cpu_files 0 (map items (take i fs)) ++ written_files m (items f)) (let z : 0 + length (map items (take i fs)) ≡ i = omega arith in z)
      ∙ ap (λ bs. cpu_files 0 (map items (take i fs)) ++ written_files i bs) (sym same)))) in
      subst (AddsFiles a c) (sym whole) (adds_more a b c (cpu_files 0 (map items (take i fs))) (written_files i bytes) before new)
