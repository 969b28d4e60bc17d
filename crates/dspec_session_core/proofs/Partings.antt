-- The CPUs part from their seats, one by one, and say what is left once all seats are back.
use Rattle.std.proofs.Common.{◌≡◌, ℕ, zero, suc, ◌+◌, ◌<◌, ◌⊎◌, inl, inr, ⊎_elim, List, [], ◌∷◌, ◌++◌, length, map, reverse, Option, Some, None, refl, sym, ap, ◌∙◌, subst, arith}
use Rattle.std.proofs.lemmas.{Bool.Decides.nat_tests, List.length-append, List.length-map, List.reverse-append, Option.slice_get_within, Option.slice_get-map}
use Rattle.std.specs.Prelude.{Bool, option_map, slice_get}
use Rattle.dspec_session_core.specs.{Leaving.Has, Words.Record, Words.scan, Words.start_fault, Words.AreSeats, Words.Ended, Words.known, Words.set_up, Words.ConsumerKnows, Words.seat_of}
use Rattle.dspec_session_core.specs.{Words.config_of, Words.number_in, Words.schema_of, Words.identity, Words.IsAtRest, Words.IsClosing, Words.IsParted, Words.Steady, Words.IsLeft, Words.AreLeft}
use Rattle.dspec_session_core.specs.{Words.AreParting, Words.IsCpuOf, Words.Shape, Words.Config, Words.Deed, Words.View, Words.CpuSeat, Words.Cpu, declared.left.Left.Left}
use Rattle.dspec_deeds.proofs.OwnReads.{reads}
use Rattle.dspec_table.specs.declared.seats.Words.{Words}
use Rattle.dspec_session_core.proofs.{Begins.pushed, ClosingLists.close_of_ended}

-- places in two lists, one after the other
pub after_there : {A : Type 0} (xs ys : List A) (i : ℕ) (y : A) → slice_get ys i ≡ Some y → slice_get (xs ++ ys) (length xs + i) ≡ Some y
after_there [] ys i y e = let z : 0 + i ≡ i = omega arith in subst (λ n. slice_get ys n ≡ Some y) (sym z) e
after_there (x ∷ xs) ys i y e = grind (arith, nat_tests, after_there xs ys i y e)

pub either_there : {A : Type 0} (xs ys : List A) (i : ℕ) (y : A) → slice_get (xs ++ ys) i ≡ Some y → (slice_get xs i ≡ Some y) ⊎ ((j : ℕ) × (i ≡ length xs + j) × (slice_get ys j ≡ Some y))
either_there [] ys i y e = inr (i, omega arith, e)
either_there (x ∷ xs) ys zero y e = inl e
either_there (x ∷ xs) ys (suc i) y e = ⊎_elim (λ h. inl h) (λ h. let is = h.1 in inr (h.0, omega arith, h.2)) (either_there xs ys i y e)

pub mapped_there : {A B : Type 0} (f : A → B) (xs : List A) (i : ℕ) (y : B) → slice_get (map f xs) i ≡ Some y → (x : A) × (slice_get xs i ≡ Some x) × (f x ≡ y)
mapped_there f [] i y e = absurd (cc (e))
mapped_there f (x ∷ xs) zero y e = (x, refl, cc (e))
mapped_there f (x ∷ xs) (suc i) y e = mapped_there f xs i y e

pub map_there : {A B : Type 0} (f : A → B) (xs : List A) (i : ℕ) (x : A) → slice_get xs i ≡ Some x → slice_get (map f xs) i ≡ Some (f x)
map_there f xs i x e = slice_get-map f xs i ∙ ap (option_map f) e

module _ {S : Type 0} (shape_of : S → ℕ → Option Shape) (accepted : S → Record → Bool) (text : S → Record → List ℕ) where
  -- a CPU no call of which is under way parts at rest
  pub at_rest : (schema : S) (words : Words) (c : ℕ) (cpu : Cpu S) (p : List Deed) → Steady shape_of accepted text cpu → number_in cpu ≡ c → config_of cpu ≡ set_up words
      → schema_of cpu ≡ schema → Has shape_of accepted text cpu p
      → IsAtRest (shape_of schema) (set_up words) c (known (seat_of cpu)).own p
  at_rest schema words c cpu p steady number config one has = grind (arith, nat_tests)

  module _ (schema : S) (words : Words) (p : ℕ → List Deed) (seats : List CpuSeat) (cpus : List (Cpu S)) (ends : List ConsumerKnows)
      (are : AreParting shape_of accepted text schema words p seats cpus ends) where
    -- so are all seats
    pub all_at_rest : (c : ℕ) (s : CpuSeat) → slice_get (seats ++ map (λ (cpu : Cpu S). seat_of cpu) cpus) c ≡ Some s → IsAtRest (shape_of schema) (set_up words) c (known s).own (p c)
    all_at_rest c s there = ⊎_elim
        (λ h. (are.parted c s h).rest)
        (λ h.
        let found = mapped_there (λ (cpu : Cpu S). seat_of cpu) cpus h.0 s h.2 in
        let it = are.each h.0 found.0 found.1 in
        subst (λ n. IsAtRest (shape_of schema) (set_up words) n (known s).own (p n)) (sym h.1)
        (subst (λ x. IsAtRest (shape_of schema) (set_up words) (length seats + h.0) (known x).own (p (length seats + h.0))) found.2
        (at_rest schema words (length seats + h.0) found.0 (p (length seats + h.0)) it.1 it.0.number it.0.belongs.config it.0.one it.2)))
        (either_there seats (map (λ (cpu : Cpu S). seat_of cpu) cpus) c s there)

    pub seats_all : length (seats ++ map (λ (cpu : Cpu S). seat_of cpu) cpus) ≡ (set_up words).cpus
    seats_all =
        let a = length-append seats (map (λ (cpu : Cpu S). seat_of cpu) cpus) in
        let b = length-map cpus (λ (cpu : Cpu S). seat_of cpu) in
        let c = are.all in
        omega arith

    -- what the close knows of each list
    pub closings : (last : List ℕ) (consumer : View) → start_fault (set_up words) ≡ None → (e : Ended (set_up words) last (seats ++ map (λ (cpu : Cpu S). seat_of cpu) cpus) consumer)
        → (g : List Deed) × ((i : ℕ) (cpu : Cpu S) → slice_get cpus i ≡ Some cpu → IsClosing (shape_of schema) (set_up words) last (length seats + i) (p (length seats + i)) e.log g)
    closings last consumer fine e =
        let all = seats ++ map (λ (cpu : Cpu S). seat_of cpu) cpus in
        let found = close_of_ended (shape_of schema) (set_up words) last all consumer fine seats_all e p all_at_rest in (
          found.0,
          λ i cpu there.
              let c = length seats + i in
              let at : slice_get all c ≡ Some (seat_of cpu) = after_there seats (map (λ (x : Cpu S). seat_of x) cpus) i (seat_of cpu) (map_there (λ (x : Cpu S). seat_of x) cpus i cpu there) in
              let rest = all_at_rest c (seat_of cpu) at in
              let lt : c < (set_up words).cpus = let w = slice_get_within cpus i cpu there in let a = are.all in omega arith in
              record {
                shows = e.shows;
                sound = e.sound;
                rests = e.rests;
                idle = sym (reads (set_up words) c e.log).apart.scanning ∙ (ap (λ h. scan (set_up words) c h) (e.of_each c (seat_of cpu) at) ∙ rest.idle);
                part_is = rest.own ∙ sym (e.of_each c (seat_of cpu) at);
                legal = found.1.close.legal;
                closed = found.1.close.own c lt;
              },
        )

  -- the seats, once all have parted
  pub are_seats : (schema : S) (words : Words) (p : ℕ → List Deed) (seats : List CpuSeat) (cpus : List (Cpu S)) (ends : List ConsumerKnows)
      → AreParting shape_of accepted text schema words p seats cpus ends → cpus ≡ []
      → AreSeats words seats
  are_seats schema words p seats cpus ends are none = record {
    all = let a = are.all in let n : length cpus ≡ 0 = ap length none in omega arith;
    each = λ c s there. let it = are.parted c s there in (it.at, it.number);
  }

  -- one more has parted
  pub one_parted : (schema : S) (words : Words) (p : ℕ → List Deed) (seats : List CpuSeat) (cpu : Cpu S) (cpus : List (Cpu S)) (end : ConsumerKnows) (ends : List ConsumerKnows)
      → AreParting shape_of accepted text schema words p seats (cpu ∷ cpus) (end ∷ ends) → AreParting shape_of accepted text schema words p (seats ++ seat_of cpu ∷ []) cpus ends
  one_parted schema words p seats cpu cpus end ends are =
      let n = length seats in
      let count : length (seats ++ seat_of cpu ∷ []) ≡ n + 1 = length-append seats (seat_of cpu ∷ []) in
      let first = are.each 0 cpu refl in
      let z : n + 0 ≡ n = omega arith in
      let rest : IsAtRest (shape_of schema) (set_up words) n (known (seat_of cpu)).own (p n)
      = subst (λ m. IsAtRest (shape_of schema) (set_up words) m (known (seat_of cpu)).own (p m)) z
      (at_rest schema words (n + 0) cpu (p (n + 0)) first.1 first.0.number first.0.belongs.config first.0.one first.2) in
      record {
        all = let a = are.all in omega arith;
        ends_all = let a = are.ends_all in omega arith;
        parted = λ c s there. ⊎_elim
            (λ h. are.parted c s h)
            (λ h. subst (λ m. IsParted (shape_of schema) words m (p m) s) (sym h.0) (subst (λ x. IsParted (shape_of schema) words n (p n) x) h.1
            record { at = (first.0.belongs.table, first.1.config ∙ first.0.belongs.config); number = first.1.seat ∙ (first.0.number ∙ z); rest = rest }))
            (pushed seats (seat_of cpu) c s there);
        each = λ i x there.
            let here = are.each (suc i) x there in
            let m : n + suc i ≡ length (seats ++ seat_of cpu ∷ []) + i = omega arith in
            subst (λ c. IsCpuOf schema words c (slice_get (map (λ (e : ConsumerKnows). e.pair) ends) i) (identity x) × Steady shape_of accepted text x × Has shape_of accepted text x (p c)) m here;
      }

  -- what is left of one more
  pub one_left_more : (k : Config) (words : List ℕ) (n m : ℕ) (cpu : Cpu S) (cpus : List (Cpu S)) (end : ConsumerKnows) (ends : List ConsumerKnows) (inner : List Left) (l : Left)
      → m ≡ n + 1 → AreLeft shape_of accepted text k words m cpus ends (reverse inner) → IsLeft shape_of accepted text k words n cpu end.taken l
      → AreLeft shape_of accepted text k words n (cpu ∷ cpus) (end ∷ ends) (reverse (inner ++ l ∷ []))
  one_left_more k words n m cpu cpus end ends inner l next rest first =
      subst (λ ls. AreLeft shape_of accepted text k words n (cpu ∷ cpus) (end ∷ ends) ls) (sym (reverse-append inner (l ∷ []))) go
    where
      go : AreLeft shape_of accepted text k words n (cpu ∷ cpus) (end ∷ ends) (l ∷ reverse inner)
      go zero x e f at_cpu at_end at_left =
          let a : cpu ≡ x = cc (at_cpu) in
          let b : end ≡ e = cc (at_end) in
          let c : l ≡ f = cc (at_left) in
          let z : n ≡ n + 0 = omega arith in
          subst (λ y. IsLeft shape_of accepted text k words (n + 0) y e.taken f) a
          (subst (λ y. IsLeft shape_of accepted text k words (n + 0) cpu y.taken f) b
          (subst (λ y. IsLeft shape_of accepted text k words (n + 0) cpu end.taken y) c
          (subst (λ y. IsLeft shape_of accepted text k words y cpu end.taken l) z first)))
      go (suc i) x e f at_cpu at_end at_left = let z : m + i ≡ n + suc i = omega arith in subst (λ y. IsLeft shape_of accepted text k words y x e.taken f) z (rest i x e f at_cpu at_end at_left)
