-- Lists each element of which has something at its place.
use Rattle.std.proofs.Common.{◌≡◌, ℕ, ◌+◌, ◌<◌, List, [], ◌∷◌, ◌++◌, length, length-append, append_assoc, Option, suc, zero, refl, sym, ap, ◌∙◌, subst, arith}
use Rattle.std.proofs.lemmas.Bool.Decides.{nat_tests}
use Rattle.std.specs.Prelude.{slice_get, slice_index_or, slice_set, map, remove, Some, IsSome}
use Rattle.dspec_c.specs.Words.{Pair, EnabledRows, words_of, CpuIdentity, IsCallable, identity, IsCpuOf, AtHome, CpuStay, CpuSide, AllCalled, AllInside, EachFrom, IsCpuAt, IsPlaceOf, cpu_inside}
use Rattle.dspec_c.specs.Words.{firsts, insides, new_side, waiting_so, Cpu, Shared}

-- the first element, and what is left when it is removed
pub first_and_rest : {A : Type 0} (xs : List A) (x : A) → 0 < length xs → x ≡ slice_index_or xs 0 x → x ∷ remove xs 0 ≡ xs
first_and_rest [] x some is = absurd (omega arith)
first_and_rest (y ∷ ys) x some is = ap (λ z. z ∷ ys) is

-- of all CPUs, the first can be called, and each of the rest
pub first_called : (m : Shared) (xs : List (Cpu EnabledRows)) (x : Cpu EnabledRows) (ys : List (Cpu EnabledRows)) → xs ≡ x ∷ ys → AllCalled m xs → IsCallable m x
first_called m xs x ys e all = all 0 x (ap (λ zs. slice_get zs 0) e)

pub rest_called : (m : Shared) (xs : List (Cpu EnabledRows)) (x : Cpu EnabledRows) (ys : List (Cpu EnabledRows)) → xs ≡ x ∷ ys → AllCalled m xs → AllCalled m ys
rest_called m xs x ys e all c cpu at = all (suc c) cpu (ap (λ zs. slice_get zs (suc c)) e ∙ at)

pub each_push : {X : Type 0} (P : ℕ → X → Type 0) (n : ℕ) (xs : List X) (x : X) → EachFrom P n xs → P (n + length xs) x → EachFrom P n (xs ++ x ∷ [])
each_push P n [] x all is = (subst (λ k. P k x) (omega arith) is, tt)
each_push P n (y ∷ ys) x all is = (all.0, each_push P (suc n) ys x all.1 (subst (λ k. P k x) (omega arith) is))

-- what is put back where it was changes nothing
pub set_back : {A : Type 0} (xs : List A) (c : ℕ) (old new : A) → new ≡ old → old ≡ slice_index_or xs c old → slice_set xs c new ≡ xs
set_back [] c old new e at = refl
set_back (y ∷ ys) zero old new e at = ap (λ z. z ∷ ys) (e ∙ at)
set_back (y ∷ ys) (suc c) old new e at = ap (λ zs. y ∷ zs) (set_back ys c old new e at)

-- a CPU that is at home is the one of its place
pub cpu_at : (shared : Shared) (schema : EnabledRows) (pairs : List Pair) (c : ℕ) (place : Option CpuSide) (home : AtHome) (cpu : Cpu EnabledRows)
    → ((first : CpuSide) → place ≡ Some first → identity home.cpu ≡ identity first.cpu) → cpu ≡ home.cpu → IsPlaceOf shared schema pairs c place → IsCpuAt shared schema pairs c cpu
cpu_at shared schema pairs c place home cpu same f at =
    subst (λ (i : CpuIdentity EnabledRows). IsCpuOf schema (words_of shared) c (slice_get pairs c) i) (sym (ap (λ (y : Cpu EnabledRows). identity y) f ∙ same at.side at.is)) at.cpu

-- one more is taken
pub one_more : (shared : Shared) (schema : EnabledRows) (pairs : List Pair) (cpus : List (Cpu EnabledRows)) (places : List CpuStay) (place : CpuStay) (rest : List CpuStay) (cpu : Cpu EnabledRows)
    (now : List (Cpu EnabledRows))
    → places ≡ place ∷ rest → now ≡ cpus ++ cpu ∷ [] → ((c : ℕ) → IsPlaceOf shared schema pairs c place.first → IsCpuAt shared schema pairs c cpu)
    → EachFrom (IsCpuAt shared schema pairs) 0 cpus × EachFrom (IsPlaceOf shared schema pairs) (length cpus) (firsts places)
    → EachFrom (IsCpuAt shared schema pairs) 0 now × EachFrom (IsPlaceOf shared schema pairs) (length now) (firsts rest)
one_more shared schema pairs cpus places place rest cpu now cons is home all =
    let left = subst (λ (ps : List CpuStay). EachFrom (IsPlaceOf shared schema pairs) (length cpus) (firsts ps)) cons all.1 in
    let count : length (cpus ++ cpu ∷ []) ≡ suc (length cpus) = length-append cpus (cpu ∷ []) ∙ omega arith in (
      subst (EachFrom (IsCpuAt shared schema pairs) 0) (sym is)
          (each_push (IsCpuAt shared schema pairs) 0 cpus cpu all.0 (subst (λ n. IsCpuAt shared schema pairs n cpu) (omega arith) (home (length cpus) left.0))),
      subst (λ n. EachFrom (IsPlaceOf shared schema pairs) n (firsts rest)) (sym (ap length is ∙ count)) left.1,
    )

next_inside : (cpus : List (Cpu EnabledRows)) (cpu : Cpu EnabledRows) (rest : List (Option (Cpu EnabledRows))) → map Some (cpus ++ cpu ∷ []) ++ rest ≡ map Some cpus ++ (Some cpu ∷ rest)
next_inside [] cpu rest = refl
next_inside (x ∷ xs) cpu rest = ap (λ (zs : List (Option (Cpu EnabledRows))). Some x ∷ zs) (next_inside xs cpu rest)

pub one_inside : (cpus : List (Cpu EnabledRows)) (places : List CpuStay) (place : CpuStay) (rest : List CpuStay) (cpu : Cpu EnabledRows) (now : List (Cpu EnabledRows))
    (all : List (Option (Cpu EnabledRows)))
    → places ≡ place ∷ rest → now ≡ cpus ++ cpu ∷ [] → cpu_inside place ≡ Some cpu → map Some cpus ++ insides places ≡ all → map Some now ++ insides rest ≡ all
one_inside cpus places place rest cpu now all cons is inside was = grind (arith, nat_tests, next_inside)

pub first_inside : (places : List CpuStay) (place : CpuStay) (rest : List CpuStay) → places ≡ place ∷ rest → AllInside places → IsSome place.inside
first_inside places place rest cons all = all 0 place (ap (λ xs. slice_get xs 0) cons)

pub rest_inside : (places : List CpuStay) (place : CpuStay) (rest : List CpuStay) → places ≡ place ∷ rest → AllInside places → AllInside rest
rest_inside places place rest cons all = λ c s at. all (suc c) s (ap (λ xs. slice_get xs (suc c)) cons ∙ at)

-- one more of a list has gone over to what is made of each
pub one_mapped : {A B : Type 0} (f : A → B) (done : List B) (xs : List A) (x : A) (rest : List A) (y : B) (now all : List B)
    → xs ≡ x ∷ rest → now ≡ done ++ y ∷ [] → y ≡ f x → done ++ map f xs ≡ all → now ++ map f rest ≡ all
one_mapped f done xs x rest y now all cons is made was =
    ap (λ zs. zs ++ map f rest) is ∙ append_assoc done (y ∷ []) (map f rest) ∙ ap (λ z. done ++ z ∷ map f rest) made ∙ ap (λ zs. done ++ map f zs) (sym cons) ∙ was

-- the places of a session's CPUs
pub each_placed : (shared : Shared) (schema : EnabledRows) (pairs : List Pair) (n : ℕ) (cpus : List (Cpu EnabledRows)) → EachFrom (IsCpuAt shared schema pairs) n cpus
    → EachFrom (IsPlaceOf shared schema pairs) n (firsts (map (waiting_so shared) cpus))
each_placed shared schema pairs n [] all = tt
each_placed shared schema pairs n (cpu ∷ cpus) all =
    (record { side = new_side shared cpu; is = refl; shares = refl; cpu = all.0 }, each_placed shared schema pairs (suc n) cpus all.1)
