-- How often each holder stands among the seats.
use Rattle.std.proofs.Common.{◌≡◌, ◌≢◌, ℕ, zero, suc, ◌+◌, ◌≤◌, ◌<◌, true, List, [], ◌∷◌, ◌++◌, set, refl, sym, ap, subst, arith, Some, None}
use Rattle.std.proofs.lemmas.Bool.Decides.{nat_tests}
use mathlib.Core.Option.{some, some-injective, some-ne-none}
use lib.ListN.{get_elem?}
use Rattle.dspec_table.specs.Words.{Cpu, Consumer, Config, Holder, of_cpu, same_holder, holdings, times_among, held_in_all, HaveSeats}
use Rattle.dspec_table.specs.declared.rule.View.{View}

pub total_at : (w : Holder) (views : List View) (a : ℕ) (v : View) → get_elem? views a ≡ some v → times_among w (holdings v) ≤ held_in_all w views
total_at w [] a v e = absurd (some-ne-none v (sym e))
total_at w (x ∷ xs) zero v e = let p = some-injective x v e in subst (λ (y : View). times_among w (holdings y) ≤ held_in_all w (x ∷ xs)) p (omega arith)
total_at w (x ∷ xs) (suc a) v e = let r = total_at w xs a v e in omega arith

-- two seats at two places count both
pub total_two : (w : Holder) (views : List View) (a b : ℕ) (v u : View) → a ≢ b → get_elem? views a ≡ some v → get_elem? views b ≡ some u
    → times_among w (holdings v) + times_among w (holdings u) ≤ held_in_all w views
total_two w [] a b v u n e f = absurd (some-ne-none v (sym e))
total_two w (x ∷ xs) zero zero v u n e f = absurd (n refl)
total_two w (x ∷ xs) zero (suc b) v u n e f =
    let r = total_at w xs b u f in let p = some-injective x v e in subst (λ (y : View). times_among w (holdings y) + times_among w (holdings u) ≤ held_in_all w (x ∷ xs)) p (omega arith)
total_two w (x ∷ xs) (suc a) zero v u n e f =
    let r = total_at w xs a v e in let p = some-injective x u f in subst (λ (y : View). times_among w (holdings v) + times_among w (holdings y) ≤ held_in_all w (x ∷ xs)) p (omega arith)
total_two w (x ∷ xs) (suc a) (suc b) v u n e f = let r = total_two w xs a b v u (λ q. n (ap suc q)) e f in omega arith

pub total_set : (w : Holder) (views : List View) (a : ℕ) (v u : View) → get_elem? views a ≡ some v
    → held_in_all w (set views a u) + times_among w (holdings v) ≡ held_in_all w views + times_among w (holdings u)
total_set w [] a v u e = absurd (some-ne-none v (sym e))
total_set w (x ∷ xs) zero v u e = let p =
    some-injective x v e in subst (λ (y : View). held_in_all w (u ∷ xs) + times_among w (holdings y) ≡ held_in_all w (x ∷ xs) + times_among w (holdings u)) p (omega arith)
total_set w (x ∷ xs) (suc a) v u e = let r = total_set w xs a v u e in omega arith

pub total_snoc : (w : Holder) (views : List View) (u : View) → held_in_all w (views ++ u ∷ []) ≡ held_in_all w views + times_among w (holdings u)
total_snoc w [] u = omega arith
total_snoc w (x ∷ xs) u = let r = total_snoc w xs u in omega arith

total_nobody : (views : List View) → held_in_all None views ≡ 0
total_nobody [] = refl
total_nobody (v ∷ vs) = let t = times_nobody (holdings v) in let r = total_nobody vs in omega arith
  where
    times_nobody : (ps : List (Holder × List Rattle.dspec_deeds.specs.declared.deed.Deed.Deed)) → times_among None ps ≡ 0
    times_nobody [] = refl
    times_nobody (p ∷ ps) = let r = times_nobody ps in omega arith

-- nobody has two seats
pub one_seat : (k : Config) (views : List View) → HaveSeats k views → (w : Holder) → held_in_all w views ≤ 1
one_seat k views seats None = let e = total_nobody views in omega arith
one_seat k views seats (Some Consumer) = let e = seats.consumer in omega arith
one_seat k views seats (Some (Cpu c)) = grind (arith, nat_tests)

-- views that hold the same of each have the same seats
pub same_seats : (k : Config) (old new : List View) → ((w : Holder) → held_in_all w new ≡ held_in_all w old) → HaveSeats k old → HaveSeats k new
same_seats k old new same seats = grind (arith, nat_tests)

-- a CPU with a seat is one of the session
pub of_session : (k : Config) (views : List View) → HaveSeats k views → (by : ℕ) (v : View) → get_elem? views by ≡ some v → same_holder v.who v.who ≡ true → (c : ℕ) → v.who ≡ of_cpu c → c < k.cpus
of_session k views seats by v at me c is = grind (arith, nat_tests, total_at (of_cpu c) views by v at)
