-- One CPU parts from its seat, before those after it.
use Rattle.std.proofs.Common.{◌≡◌, ℕ, ◌+◌, ◌≤◌, List, [], ◌∷◌, ◌++◌, length, map, reverse, Option, Some, None, refl, sym, ap, ◌∙◌, subst, if◌then◌else◌, arith}
use Rattle.std.proofs.lemmas.{Bool.Decides.nat_tests, List.length-append}
use Rattle.std.specs.Prelude.{Bool, Result, Ok, is_ok, slice_get}
use Rattle.dspec_session_core.specs.{Leaving.Has, Words.Record, Words.start_fault, Words.Ended, Words.last_set_up, Words.set_up, Words.CpuKnows, Words.ConsumerKnows, Words.config_of, Words.end_of}
use Rattle.dspec_session_core.specs.{Words.number_in, Words.seat_of, Words.worn_of, Words.AreItsWords, Words.RestHasList, Words.waiting, Words.IsClosing, Words.IsRestOf, Words.Leaves, Words.IsLeft}
use Rattle.dspec_session_core.specs.{Words.AreLeft, Words.AreParting, Words.Shape, Words.Deed, Words.LastWords, Words.View, Words.CpuSeat, Words.Cpu, Words.CpuRest, declared.left.Left.Left}
use Rattle.dspec_table.specs.declared.seats.Words.{Words}
use Rattle.dspec_session_core.proofs.{Leavings.closing_same, Leavings.leaves_same, Partings.closings, Partings.one_left_more}

-- what a push that was unwrapped left
pub pushed_is : {A T E : Type 0} (r : Result T E) (u : T) (new more old : A) → r ≡ Ok u → new ≡ (if is_ok r then more else old) → new ≡ more
pushed_is r u new more old is e = e ∙ ap (λ x. if is_ok x then more else old) is

-- the first stands at place 0
pub stands_first : {A : Type 0} (xs rest : List A) (x : A) → x ∷ rest ≡ xs → slice_get xs 0 ≡ Some x
stands_first xs rest x e = subst (λ ys. slice_get ys 0 ≡ Some x) e refl

module _ {S : Type 0} (shape_of : S → ℕ → Option Shape) (accepted : S → Record → Bool) (text : S → Record → List ℕ)
    (schema : S) (words : Words) (p : ℕ → List Deed) (seats : List CpuSeat) (cpus : List (Cpu S)) (ends : List ConsumerKnows) (are : AreParting shape_of accepted text schema words p seats cpus ends)
    (cpu : Cpu S) (rest : List (Cpu S)) (other : ConsumerKnows) (others : List ConsumerKnows) (cpus_are : cpu ∷ rest ≡ cpus) (ends_are : other ∷ others ≡ ends) where
  -- with the first of the CPUs and of the ends
  split : AreParting shape_of accepted text schema words p seats (cpu ∷ rest) (other ∷ others)
  split = grind (arith, nat_tests)

  pub next_pair : other.pair ≡ (end_of cpu).pair
  next_pair = let it = (split.each 0 cpu refl).0.pair in cc (it)

  pub next_number : number_in cpu ≡ length seats
  next_number = let z : length seats + 0 ≡ length seats = omega arith in (split.each 0 cpu refl).0.number ∙ z

  pub next_config : config_of cpu ≡ set_up words
  next_config = (split.each 0 cpu refl).0.belongs.config

  pub next_fine : start_fault (set_up words) ≡ None
  next_fine = ap start_fault (sym next_config) ∙ (split.each 0 cpu refl).1.checked

  pub next_has : Has shape_of accepted text cpu (p (length seats))
  next_has = let z : length seats + 0 ≡ length seats = omega arith in subst (λ n. Has shape_of accepted text cpu (p n)) z (split.each 0 cpu refl).2

  pub next_few : (end : CpuKnows) (x : CpuRest S) → IsRestOf cpu end x → length (waiting x.held_back ++ reverse end.handed) ≤ 1 + length end.spares
  next_few end x is =
      let few = (split.each 0 cpu refl).1.few in
      let a : length (waiting x.held_back ++ reverse end.handed)
      ≡ length (waiting cpu.held_back ++ reverse (end_of cpu).handed) = λ i. length (waiting (is.held_back i) ++ reverse (is.end_is i).handed) in
      let b : length end.spares ≡ length (end_of cpu).spares = λ i. length (is.end_is i).spares in
      omega arith

  pub next_words : (last : LastWords) (end : CpuKnows) (x : CpuRest S) → IsRestOf cpu end x → last_set_up last ≡ set_up words → AreItsWords last x.config x.cpu
  next_words last end x is same = grind (arith, nat_tests, next_config, next_number, split)

  -- what the close knows of the CPU's list
  pub next_closing : (last : List ℕ) (consumer : View) (e : Ended (set_up words) last (seats ++ map (λ (x : Cpu S). seat_of x) cpus) consumer) (end : CpuKnows) (x : CpuRest S) → IsRestOf cpu end x
      → (g : List Deed) × IsClosing (shape_of x.schema) x.config last x.cpu (p (length seats)) e.log g
  next_closing last consumer e end x is =
      let found = closings shape_of accepted text schema words p seats cpus ends are last consumer next_fine e in
      let z : length seats + 0 ≡ length seats = omega arith in
      let at = subst (λ n. IsClosing (shape_of schema) (set_up words) last n (p n) e.log found.0) z (found.1 0 cpu (stands_first cpus rest cpu cpus_are)) in (
        found.0,
        closing_same shape_of accepted text last (p (length seats)) e.log found.0 schema x.schema (set_up words) x.config (length seats) x.cpu
            (sym (is.schema ∙ (split.each 0 cpu refl).0.one)) (sym (is.config ∙ next_config)) (sym (is.number ∙ next_number)) at,
      )

  -- what is left of it, before what is left of those after it
  pub next_left : (last : List ℕ) (new : List CpuSeat) (end : CpuKnows) (x : CpuRest S) (inner more : List Left) (l : Left) → new ≡ seats ++ seat_of cpu ∷ [] → IsRestOf cpu end x
      → ((q : List Deed) → Has shape_of accepted text cpu q → RestHasList (shape_of x.schema) (accepted x.schema) (text x.schema) x end.handed q)
      → Leaves shape_of accepted text (λ q. RestHasList (shape_of x.schema) (accepted x.schema) (text x.schema) x end.handed q) last other.taken l x.schema x.config x.cpu x.side.counts.worn
      → AreLeft shape_of accepted text (set_up words) last (length new) rest others (reverse inner) → more ≡ inner ++ l ∷ []
      → AreLeft shape_of accepted text (set_up words) last (length seats) cpus ends (reverse more)
  next_left last new end x inner more l new_is is lists leaves before more_is =
      let n = length seats in
      let count : length new ≡ n + 1 = ap length new_is ∙ length-append seats (seat_of cpu ∷ []) in
      let mine = leaves_same shape_of accepted text (λ q. RestHasList (shape_of x.schema) (accepted x.schema) (text x.schema) x end.handed q) last other.taken l x.schema
      cpu.schema x.config (set_up words) x.cpu n x.side.counts.worn (worn_of cpu)
      is.schema (is.config ∙ next_config) (is.number ∙ next_number) is.worn leaves in
      let first : IsLeft shape_of accepted text (set_up words) last n cpu other.taken l = λ q log g has closing. mine q log g (lists q has) closing in
      subst (λ ls. AreLeft shape_of accepted text (set_up words) last n cpus ends (reverse ls)) (sym more_is)
      (subst (λ xs. AreLeft shape_of accepted text (set_up words) last n xs ends (reverse (inner ++ l ∷ []))) cpus_are
      (subst (λ es. AreLeft shape_of accepted text (set_up words) last n (cpu ∷ rest) es (reverse (inner ++ l ∷ []))) ends_are
      (one_left_more shape_of accepted text (set_up words) last n (length new) cpu rest other others inner l count before first)))
