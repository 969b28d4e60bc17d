-- A session's CPUs, made one by one.
use Rattle.std.proofs.Common.{◌≡◌, ℕ, zero, suc, ◌+◌, ◌<◌, ◌⊎◌, inl, inr, ⊎_elim, List, [], ◌∷◌, ◌++◌, length, map, refl, sym, ap, ◌∙◌, subst, arith}
use Rattle.std.proofs.lemmas.{Bool.Decides.nat_tests, List.length-append, List.length-map, List.map-append, List.Elements.All-nil, List.Elements.All-push}
use Rattle.std.specs.Prelude.{Some, None, All, remove, slice_get, slice_index_or}
use Rattle.dspec_session_core.specs.Words.{Config, Deed, start_fault, Pair, ConsumerKnows, IsUnusedConsumer, known, cpu_of, fresh_seat, set_up, FreshSeats, IsAt, IsConsumerAt, end_of, words_of}
use Rattle.dspec_session_core.specs.Words.{identity, IsConsumerOf, pairs_of, IsCpuOf, IsSession, IsFresh, ConsumerSeat, CpuSeat, Cpu}
use Rattle.dspec_session_core.specs.declared.session.Session.{Session}
use Rattle.dspec_table.specs.declared.seats.Words.{Words}

-- what stands in a list after a push
pub pushed : {A : Type 0} (xs : List A) (y : A) (i : ℕ) (x : A) → slice_get (xs ++ y ∷ []) i ≡ Some x → (slice_get xs i ≡ Some x) ⊎ ((i ≡ length xs) × (y ≡ x))
pushed [] y zero x e = inr (refl, cc (e))
pushed [] y (suc i) x e = absurd (cc (e))
pushed (z ∷ xs) y zero x e = inl e
pushed (z ∷ xs) y (suc i) x e = ⊎_elim (λ h. inl h) (λ h. inr (ap suc h.0, h.1)) (pushed xs y i x e)

pub still_there : {A : Type 0} (xs : List A) (y : A) (i : ℕ) (x : A) → slice_get xs i ≡ Some x → slice_get (xs ++ y ∷ []) i ≡ Some x
still_there [] y i x e = absurd (cc (e))
still_there (z ∷ xs) y zero x e = e
still_there (z ∷ xs) y (suc i) x e = still_there xs y i x e

pub last_there : {A : Type 0} (xs : List A) (y : A) → slice_get (xs ++ y ∷ []) (length xs) ≡ Some y
last_there [] y = refl
last_there (z ∷ xs) y = last_there xs y

-- what the first of a list leaves
pub first_there : {A : Type 0} (xs : List A) (x : A) → 0 < length xs → x ≡ slice_index_or xs 0 x → slice_get xs 0 ≡ Some x
first_there [] x some is = absurd (omega arith)
first_there (y ∷ ys) x some is = ap Some (sym is)

pub rest_there : {A : Type 0} (xs : List A) (i : ℕ) (x : A) → slice_get (remove xs 0) i ≡ Some x → slice_get xs (suc i) ≡ Some x
rest_there [] i x e = absurd (cc (e))
rest_there (y ∷ ys) i x e = e

rest_count : {A : Type 0} (xs : List A) → 0 < length xs → suc (length (remove xs 0)) ≡ length xs
rest_count [] some = absurd (omega arith)
rest_count (y ∷ ys) some = refl

-- a seat that waits for its CPU
pub record IsSeatOf (words : Words) (k : Config) (c : ℕ) (s : CpuSeat) : Type 0 where
  pub at : IsAt words s
  pub number : cpu_of s ≡ c
  pub fresh : known s ≡ fresh_seat k c

abbrev pairs : List ConsumerKnows → List Pair
pairs es = map (λ (e : ConsumerKnows). e.pair) es

-- so many CPUs are made, and the seats of the others are left
pub record Begun {S : Type 0} (has : Cpu S → List Deed → Type 0) (schema : S) (words : Words) (k : Config) (n : ℕ) (seats : List CpuSeat)
    (cpus : List (Cpu S)) (ends : List ConsumerKnows) : Type 0 where
  pub count : length cpus ≡ n
  pub ends_count : length ends ≡ n
  pub left : n + length seats ≡ k.cpus
  pub seats_are : (i : ℕ) (s : CpuSeat) → slice_get seats i ≡ Some s → IsSeatOf words k (n + i) s
  pub each : (c : ℕ) (cpu : Cpu S) → slice_get cpus c ≡ Some cpu → IsCpuOf schema words c (slice_get (map (λ (e : ConsumerKnows). e.pair) ends) c) (identity cpu) × IsFresh has cpu
  pub unused : All IsUnusedConsumer ends

module _ {S : Type 0} (has : Cpu S → List Deed → Type 0) (schema : S) (words : Words) (k : Config) where
  pub none_begun : (seats : List CpuSeat) (cpus : List (Cpu S)) (ends : List ConsumerKnows) → length seats ≡ k.cpus → ((i : ℕ) (s : CpuSeat) → slice_get seats i ≡ Some s → IsSeatOf words k i s)
      → cpus ≡ [] → ends ≡ [] → Begun has schema words k 0 seats cpus ends
  none_begun seats cpus ends all are cpus_none ends_none = grind (arith, nat_tests, All-nil)

  there_kept : (c : ℕ) (cpu : Cpu S) (es : List ConsumerKnows) (e : ConsumerKnows) → IsCpuOf schema words c (slice_get (pairs es) c) (identity cpu)
      → IsCpuOf schema words c (slice_get (pairs (es ++ e ∷ [])) c) (identity cpu)
  there_kept c cpu es e is = grind (arith, nat_tests, map-append, still_there)

  there_new : (n : ℕ) (cpu : Cpu S) (es : List ConsumerKnows) (e : ConsumerKnows) → length es ≡ n
      → ((p : Pair) → p ≡ (end_of cpu).pair → IsCpuOf schema words n (Some p) (identity cpu)) → e.pair ≡ (end_of cpu).pair
      → IsCpuOf schema words n (slice_get (pairs (es ++ e ∷ [])) n) (identity cpu)
  there_new n cpu es e count is same = grind (arith, nat_tests, map-append, last_there, length-map)

  -- one more
  pub one_begun : (n : ℕ) (seats after : List CpuSeat) (cpus new : List (Cpu S)) (ends more : List ConsumerKnows) (cpu : Cpu S) (e : ConsumerKnows)
      → Begun has schema words k n seats cpus ends → 0 < length seats
      → after ≡ remove seats 0 → new ≡ cpus ++ cpu ∷ [] → more ≡ ends ++ e ∷ [] → ((p : Pair) → p ≡ (end_of cpu).pair → IsCpuOf schema words n (Some p) (identity cpu))
      → e.pair ≡ (end_of cpu).pair → IsFresh has cpu → IsUnusedConsumer e
      → Begun has schema words k (n + 1) after new more
  one_begun n seats after cpus new ends more cpu e was some after_is new_is more_is is same fresh unused =
      subst (λ ss. Begun has schema words k (n + 1) ss new more) (sym after_is)
      (subst (λ xs. Begun has schema words k (n + 1) (remove seats 0) xs more) (sym new_is)
      (subst (λ es. Begun has schema words k (n + 1) (remove seats 0) (cpus ++ cpu ∷ []) es) (sym more_is)
      record {
        count = let c = length-append cpus (cpu ∷ []) in let m = was.count in omega arith;
        ends_count = let c = length-append ends (e ∷ []) in let m = was.ends_count in omega arith;
        left = let c = rest_count seats some in let m = was.left in omega arith;
        seats_are = λ i s there. let z : n + 1 + i ≡ n + suc i = omega arith in subst (λ m. IsSeatOf words k m s) (sym z) (was.seats_are (suc i) s (rest_there seats i s there));
        each = λ c x there. ⊎_elim
            (λ h. let old = was.each c x h in (there_kept c x ends e old.0, old.1))
            (λ h. subst (λ m. IsCpuOf schema words m (slice_get (pairs (ends ++ e ∷ [])) m) (identity x) × IsFresh has x) (sym (h.0 ∙ was.count))
            (subst (λ y. IsCpuOf schema words n (slice_get (pairs (ends ++ e ∷ [])) n) (identity y) × IsFresh has y) h.1 (there_new n cpu ends e was.ends_count is same, fresh)))
            (pushed cpus cpu c x there);
        unused = All-push IsUnusedConsumer ends e was.unused unused;
      }))

  -- the seat that is next
  pub next_seat : (n : ℕ) (seats : List CpuSeat) (cpus : List (Cpu S)) (ends : List ConsumerKnows) (s : CpuSeat) → Begun has schema words k n seats cpus ends
      → 0 < length seats → s ≡ slice_index_or seats 0 s
      → IsSeatOf words k n s
  next_seat n seats cpus ends s was some is = let z : n + 0 ≡ n = omega arith in subst (λ m. IsSeatOf words k m s) z (was.seats_are 0 s (first_there seats s some is))

  -- all are made
  pub all_begun : (session : Session S) (seat : ConsumerSeat) (n : ℕ) (seats : List CpuSeat) (ends : List ConsumerKnows) → words_of session.shared ≡ words
      → session.consumer.seat ≡ seat → IsConsumerAt words seat
      → session.consumer.ends ≡ ends → set_up words ≡ k → start_fault k ≡ None → n ≡ k.cpus → Begun has schema words k n seats session.cpus.items ends → IsSession schema session
  all_begun session seat n seats ends words_is seat_is at ends_is config fine all was = record {
    checked = ap (λ w. start_fault (set_up w)) words_is ∙ (ap start_fault config ∙ fine);
    consumer = subst (λ w. IsConsumerOf w session.consumer) (sym words_is) (subst (λ x. IsConsumerAt words x) (sym seat_is) at);
    all = was.count ∙ (all ∙ (ap (λ (x : Config). x.cpus) (sym config) ∙ ap (λ w. (set_up w).cpus) (sym words_is)));
    each = λ c cpu e. subst (λ w. IsCpuOf schema w c (slice_get (pairs_of session.consumer) c) (identity cpu)) (sym words_is)
        (subst (λ es. IsCpuOf schema words c (slice_get (pairs es) c) (identity cpu)) (sym ends_is) (was.each c cpu e).0);
  }

-- the seats that a start gave
pub seats_wait : (words : Words) (k : Config) (seats : List CpuSeat) → set_up words ≡ k → FreshSeats words seats → (i : ℕ) (s : CpuSeat) → slice_get seats i ≡ Some s → IsSeatOf words k i s
seats_wait words k seats config are i s e = grind (arith, nat_tests)
