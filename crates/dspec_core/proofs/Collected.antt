-- What is collected of each CPU at the close.
use Rattle.std.proofs.Common.{arith, ◌≡◌, ℕ, ◌+◌, List, [], ◌∷◌, ◌++◌, map, sym, ap, ◌∙◌, add-one}
use Rattle.std.proofs.lemmas.{Bool.Decides.nat_tests, List.map-append}
use Rattle.dspec_core.specs.Words.{Record, numbers_below, streams, reports, PlayState, progress_of, history, state_of, stream, report, Deed, Report}
use Rattle.dspec_core.specs.declared.machine.Machine.{Machine}

-- what was collected of so many CPUs, and of one more
pub one_more_cpu : {A : Type 0} (f : ℕ → A) (n : ℕ) (xs new : List A) (x : A) → xs ≡ map f (numbers_below n) → new ≡ xs ++ x ∷ [] → x ≡ f n → new ≡ map f (numbers_below (n + 1))
one_more_cpu f n xs new x is more e =
    more ∙ ((λ i. is i ++ e i ∷ []) ∙ (sym (map-append f (numbers_below n) (n ∷ [])) ∙ ap (λ m. map f (numbers_below m)) (sym (add-one n))))

-- what was collected of all CPUs of a machine that the close has brought to that list
pub streams_there : {S B : Type 0} (m n : Machine S B) (g : List Deed) (xs : List (List Record)) (c : ℕ) → state_of n ≡ record (state_of m) { deeds = g }
    → xs ≡ map (λ a. stream a (history n)) (numbers_below c) → c ≡ n.config.cpus → xs ≡ streams m.config g
streams_there m n g xs c state is all = is ∙ (ap (λ a. map (λ a. stream a (history n)) (numbers_below a)) all ∙ ap (λ (st : PlayState). streams st.config st.deeds) state)

pub reports_there : {S B : Type 0} (m n : Machine S B) (g : List Deed) (xs : List Report) (c : ℕ) → state_of n ≡ record (state_of m) { deeds = g }
    → xs ≡ map (λ a. report n.config a (progress_of (state_of n).progresses a).worn (history n)) (numbers_below c) → c ≡ n.config.cpus
    → xs ≡ reports m.config (λ a. (progress_of (state_of m).progresses a).worn) g
reports_there m n g xs c state is all = grind (arith, nat_tests)
