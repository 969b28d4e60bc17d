-- Each deed is in the list of exactly one seat.
use Rattle.std.proofs.Common.{◌≡◌, ◌≤◌, ◌<◌, ◌⊎◌, ◌+◌, ℕ, zero, suc, true, false, if◌then◌else◌, List, [], ◌∷◌, ◌++◌, Some, refl, sym, ap, ◌∙◌, subst, ⊎_elim, inl, inr, arith}
use mathlib.Core.Option.{some}
use lib.ListN.{get_elem?}
use Rattle.atomic_table.specs.Table.{State}
use Rattle.dspec_table.specs.{Words.Config, Words.Actor, Words.Cpu, Words.Consumer, Words.Deed, Words.author, Words.HasAuthors, Words.Holder, Words.doer, Words.part_of, Words.same_holder, Words.In}
use Rattle.dspec_table.specs.{Words.HasOneSeat, Words.holdings, Words.times_among, Words.held_in_all, Words.HaveSeats, Words.WordsRule, declared.rule.View.View}
use Rattle.dspec_deeds.proofs.TestLemmas.{either_way}
use Rattle.dspec_table.proofs.{Adding.same_turned, AtEnd.part_in, HolderTests.same_holder_tells, HolderTests.part_next}

-- who is counted stands there
among_those : (w : Holder) (ps : List (Holder × List Deed)) → 1 ≤ times_among w ps → (p : Holder × List Deed) × In p ps × (same_holder w p.0 ≡ true)
among_those w [] le = absurd (omega arith)
among_those w (p ∷ ps) le = ⊎_elim
    (λ (t : same_holder w p.0 ≡ true). (p, inl refl, t))
    (λ (f : same_holder w p.0 ≡ false).
    let others : 1 ≤ 0 + times_among w ps = subst (λ b. 1 ≤ (if b then 1 else 0) + times_among w ps) f le in
    let r = among_those w ps (omega arith) in
    (r.0, inr r.1, r.2))
    (either_way (same_holder w p.0))

among_views : (w : Holder) (views : List View) → 1 ≤ held_in_all w views → (by : ℕ) × (v : View) × (get_elem? views by ≡ some v) × (1 ≤ times_among w (holdings v))
among_views w [] le = absurd (omega arith)
among_views w (v ∷ vs) le = ⊎_elim
    (λ (here : 1 ≤ times_among w (holdings v)). (0, v, refl, here))
    (λ (none : times_among w (holdings v) ≡ 0). let r = among_views w vs (omega arith) in (suc r.0, r.1, r.2, r.3))
    (one_or_none (times_among w (holdings v)))
  where
    one_or_none : (n : ℕ) → (1 ≤ n) ⊎ (n ≡ 0)
    one_or_none zero = inr refl
    one_or_none (suc n) = inl (omega arith)

-- a deed of w stands in w's part of a list, at its place
part_at : (w : Holder) (later : List Deed) (d : Deed) (before : List Deed) → same_holder w (doer d before) ≡ true
    → (newer : List Deed) × (part_of w (later ++ d ∷ before) ≡ newer ++ d ∷ part_of w before)
part_at w [] d before me = ([], part_next w d before ∙ rw me refl)
part_at w (x ∷ xs) d before me =
    let r = part_at w xs d before me in
    ⊎_elim
    (λ (t : same_holder w (doer x (xs ++ d ∷ before)) ≡ true). (x ∷ r.0, part_next w x (xs ++ d ∷ before) ∙ rw t (ap (λ l. x ∷ l) r.1)))
    (λ (f : same_holder w (doer x (xs ++ d ∷ before)) ≡ false). (r.0, part_next w x (xs ++ d ∷ before) ∙ rw f r.1))
    (either_way (same_holder w (doer x (xs ++ d ∷ before))))

within : (k : Config) (later : List Deed) (d : Deed) (before : List Deed) → HasAuthors k (later ++ d ∷ before) → (c : ℕ) → author d before ≡ Cpu c → c < k.cpus
within k [] d before authors = authors.1
within k (x ∷ xs) d before authors = within k xs d before authors.0

has_one : (k : Config) (views : List View) → HaveSeats k views → (a : Actor) → ((c : ℕ) → a ≡ Cpu c → c < k.cpus) → held_in_all (Some a) views ≡ 1
has_one k views seats (Cpu c) lt = seats.cpus c (lt c refl)
has_one k views seats Consumer lt = seats.consumer

pub owners : (k : Config) (st : State ℕ View) (kept : WordsRule k st) (later before : List Deed) (d : Deed) → kept.log ≡ later ++ d ∷ before → HasOneSeat st.views d before
owners k st kept later before d is =
    let w : Holder = doer d before in
    let one = has_one k st.views kept.seats (author d before) (within k later d before (subst (HasAuthors k) is kept.authors)) in
    let seat = among_views w st.views (omega arith) in
    let knows = kept.knows seat.0 seat.1 seat.2 in
    let held = among_those w (holdings seat.1) seat.3 in
    let whose : Holder = held.0.0 in
    let place = part_at whose later d before (same_turned w whose held.2) in
    record {
      by = seat.0;
      view = seat.1;
      at = seat.2;
      holding = held.0;
      among = held.1;
      holds = (sym (same_holder_tells w whose held.2), (place.0, sym (part_in kept.log (holdings seat.1) held.0 knows.parts held.1) ∙ (ap (part_of whose) is ∙ place.1)));
      one = one;
    }
