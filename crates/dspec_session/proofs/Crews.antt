-- Four CPUs of a session, taken out and put back.
use Rattle.std.proofs.Common.{◌≡◌, ℕ, ◌+◌, Bool, true, List, [], ◌∷◌, ◌&&◌, length, Some, Option, refl, sym, ap, ◌∙◌, subst, arith}
use Rattle.std.specs.Prelude.{slice_get}
use Rattle.dspec_session.specs.Words.{EnabledRows, offers, Pair, words_of, identity, Consuming, pairs_of, Stays, AllCanWork, AllWorked, Has, IsCpuOf, CanWork, CpuRounds, demonstrated, IsBack}
use Rattle.dspec_session.specs.Words.{Worked, HaveMade, HaveOffered, HaveRoom, IsDemonstrated, all_finished, Cpu, Shared, Session}
use Rattle.dspec_session.specs.declared.demonstration.four.Four.{Four}
use Rattle.dspec_session.proofs.Fours.{at_each}

can_work : (session : Session EnabledRows) → IsDemonstrated session → HaveRoom session.cpus.items → (c : ℕ) (x : Cpu EnabledRows) → slice_get session.cpus.items c ≡ Some x
    → CanWork session.shared 400 x
can_work session is room c x at = record { ready = (is.each c x at).belongs; schema = (is.each c x at).one; unworn = room c x at }

pub all_can_work : (session : Session EnabledRows) (f : Four (Cpu EnabledRows)) → IsDemonstrated session → HaveRoom session.cpus.items
    → session.cpus.items ≡ f.first ∷ f.second ∷ f.third ∷ f.fourth ∷ [] → AllCanWork session.shared f
all_can_work session f is room e = record {
  first = can_work session is room 0 f.first (ap (λ l. slice_get l 0) e);
  second = can_work session is room 1 f.second (ap (λ l. slice_get l 1) e);
  third = can_work session is room 2 f.third (ap (λ l. slice_get l 2) e);
  fourth = can_work session is room 3 f.fourth (ap (λ l. slice_get l 3) e);
}

-- the CPU has its place in the session of those who share this
abbrev pub IsAtPlace : Shared → Option Pair → ℕ → Cpu EnabledRows → Type 0
IsAtPlace shared there c cpu = IsCpuOf demonstrated (words_of shared) c there (identity cpu)

-- a CPU that is back has its place
cpu_back : (shared : Shared) (c : ℕ) (was is : Option Pair) (x y : Cpu EnabledRows) → is ≡ was → IsBack x y → IsAtPlace shared was c x → IsAtPlace shared is c y
cpu_back shared c was is x y same back there =
    subst (λ o. IsCpuOf demonstrated (words_of shared) c o (identity y)) (sym same) (subst (λ i. IsCpuOf demonstrated (words_of shared) c was i) (sym back.same) there)

each_finished : (a b c d : Bool) → (a && (b && (c && d))) ≡ true → (a ≡ true) × (b ≡ true) × (c ≡ true) × (d ≡ true)
each_finished true true true d e = (refl, refl, refl, e)
each_finished a b c d e = absurd (cc (e))

module _ (session : Session EnabledRows) (f : Four (Cpu EnabledRows)) (back : Four (Cpu EnabledRows × Bool)) (is : IsDemonstrated session)
    (e : session.cpus.items ≡ f.first ∷ f.second ∷ f.third ∷ f.fourth ∷ [])
    (worked : AllWorked f back) (new : List (Cpu EnabledRows)) (put : new ≡ back.first.0 ∷ back.second.0 ∷ back.third.0 ∷ back.fourth.0 ∷ []) where
  pub places_back : (consumer : Consuming) → Stays (words_of session.shared) session.consumer consumer → (c : ℕ) (y : Cpu EnabledRows) → slice_get new c ≡ Some y
      → IsAtPlace session.shared (slice_get (pairs_of consumer) c) c y
  places_back consumer stays c y at =
      let P : ℕ → Cpu EnabledRows → Type 0 = λ i x. IsAtPlace session.shared (slice_get (pairs_of consumer) i) i x in
      let same : (i : ℕ) → slice_get (pairs_of consumer) i ≡ slice_get (pairs_of session.consumer) i = λ i. ap (λ l. slice_get l i) stays.same.pairs in
      at_each P back.first.0 back.second.0 back.third.0 back.fourth.0
      (cpu_back session.shared 0 _ _ f.first back.first.0 (same 0) worked.first.worked.back (is.each 0 f.first (ap (λ l. slice_get l 0) e)))
      (cpu_back session.shared 1 _ _ f.second back.second.0 (same 1) worked.second.worked.back (is.each 1 f.second (ap (λ l. slice_get l 1) e)))
      (cpu_back session.shared 2 _ _ f.third back.third.0 (same 2) worked.third.worked.back (is.each 2 f.third (ap (λ l. slice_get l 2) e)))
      (cpu_back session.shared 3 _ _ f.fourth back.fourth.0 (same 3) worked.fourth.worked.back (is.each 3 f.fourth (ap (λ l. slice_get l 3) e)))
      c y (ap (λ l. slice_get l c) (sym put) ∙ at)

  pub four_again : length new ≡ length session.cpus.items
  four_again = ap length put ∙ sym (ap length e)

  offered : (c : ℕ) (x : Cpu EnabledRows) (y : Cpu EnabledRows) (done : Bool) → HaveOffered 0 session.cpus.items → slice_get session.cpus.items c ≡ Some x
      → Worked 400 200 x y done → done ≡ true
      → (p : _) × Has y p × (offers c p ≡ 200)
  offered c x y done fresh at w finished =
      let (p, had, none) = fresh c x at in
      let (q, has, count) = w.offered finished p had in
      let there = (is.each c x at).number in
      let more : offers c q ≡ offers c p + 200 = subst (λ i. offers i q ≡ offers i p + 200) there count in
      (q, has, omega arith)

  pub all_offered : HaveOffered 0 session.cpus.items → all_finished back ≡ true → HaveOffered 200 new
  all_offered fresh finished c y at =
      let all = each_finished back.first.1 back.second.1 back.third.1 back.fourth.1 finished in
      at_each (λ i x. (p : _) × Has x p × (offers i p ≡ 200)) back.first.0 back.second.0 back.third.0 back.fourth.0
      (offered 0 f.first back.first.0 back.first.1 fresh (ap (λ l. slice_get l 0) e) worked.first.worked all.0)
      (offered 1 f.second back.second.0 back.second.1 fresh (ap (λ l. slice_get l 1) e) worked.second.worked all.1)
      (offered 2 f.third back.third.0 back.third.1 fresh (ap (λ l. slice_get l 2) e) worked.third.worked all.2)
      (offered 3 f.fourth back.fourth.0 back.fourth.1 fresh (ap (λ l. slice_get l 3) e) worked.fourth.worked all.3)
      c y (ap (λ l. slice_get l c) (sym put) ∙ at)

  pub all_made : all_finished back ≡ true → HaveMade session.cpus.items new
  all_made finished c y at =
      let all = each_finished back.first.1 back.second.1 back.third.1 back.fourth.1 finished in
      at_each (λ i x. (old : Cpu EnabledRows) × (slice_get session.cpus.items i ≡ Some old) × CpuRounds old 100 x) back.first.0 back.second.0 back.third.0 back.fourth.0
      (f.first, ap (λ l. slice_get l 0) e, worked.first.rounds all.0)
      (f.second, ap (λ l. slice_get l 1) e, worked.second.rounds all.1)
      (f.third, ap (λ l. slice_get l 2) e, worked.third.rounds all.2)
      (f.fourth, ap (λ l. slice_get l 3) e, worked.fourth.rounds all.3)
      c y (ap (λ l. slice_get l c) (sym put) ∙ at)
