-- Parts of a record, one after the other.
use Rattle.std.proofs.Common.{◌≡◌, ◌≤◌, ◌<◌, ◌+◌, ◌*◌, ◌^◌, ◌++◌, ◌∷◌, ◌∙◌, ◌&&◌, ℕ, Bool, true, false, IsTrue, List, [], length, take, drop, Option, Some, None, option_map, nat_lt, ltb, ap, refl}
use Rattle.std.proofs.Common.{sym, subst, arith, length-append}
use Rattle.std.proofs.lemmas.List.{take_at, drop_at}
use Rattle.std.specs.Prelude.{option_and_then, if◌then◌else◌}
use Rattle.dspec_probe.specs.Words.{width, rounded_up, after, fields_end, number_of_words, value_number, AreFree, ArePacked, fits, fields_end-le, both, both_of, Field}

pub fits-long : (fs : List Field) (vs : List ℕ) → IsTrue (fits fs vs) → length vs ≡ length fs
fits-long [] [] h = refl
fits-long [] (v ∷ vs) h = absurd (cc)
fits-long (f ∷ fs) [] h = absurd (cc)
fits-long (f ∷ fs) (v ∷ vs) h = omega (arith, fits-long fs vs (both (ltb v (256 ^ width f)) (fits fs vs) h).1)

and-both : (a b : Bool) → IsTrue a → IsTrue b → IsTrue (a && b)
and-both true b first second = second
and-both false b first second = absurd (cc)

pub fits-append : (fs gs : List Field) (vs us : List ℕ) → IsTrue (fits fs vs) → IsTrue (fits gs us) → IsTrue (fits (fs ++ gs) (vs ++ us))
fits-append [] gs [] us h more = more
fits-append [] gs (v ∷ vs) us h more = absurd (cc)
fits-append (f ∷ fs) gs [] us h more = absurd (cc)
fits-append (f ∷ fs) gs (v ∷ vs) us h more =
    let parts : IsTrue (ltb v (256 ^ width f)) × IsTrue (fits fs vs) = both (ltb v (256 ^ width f)) (fits fs vs) h in
    and-both (ltb v (256 ^ width f)) (fits (fs ++ gs) (vs ++ us)) parts.0 (fits-append fs gs vs us parts.1 more)

not-less : (n m : ℕ) → n ≤ m → nat_lt m n ≡ false
not-less n m le = grind (arith, le)

-- what both parts' numbers stand for
pub both-back : {V W : Type 0} (first : List ℕ → Option V) (others : List ℕ → Option W) (fs : List Field) (vs us : List ℕ) (x : V) (y : W)
    → length vs ≡ length fs → first vs ≡ Some x → others us ≡ Some y → both_of (length fs) first others (vs ++ us) ≡ Some (x, y)
both-back first others fs vs us x y long is_x is_y =
    let enough : nat_lt (length (vs ++ us)) (length vs) ≡ false = not-less (length vs) (length (vs ++ us)) (omega (arith, length-append vs us)) in
    ap (λ n. both_of n first others (vs ++ us)) (sym long)
    ∙ ap (λ b. if b then None else option_and_then (λ v. option_map (λ w. (v, w)) (others (drop (length vs) (vs ++ us)))) (first (take (length vs) (vs ++ us)))) enough
    ∙ ap (λ ns. option_and_then (λ v. option_map (λ w. (v, w)) (others (drop (length vs) (vs ++ us)))) (first ns)) (take_at vs us (length vs) refl)
    ∙ ap (option_and_then (λ v. option_map (λ w. (v, w)) (others (drop (length vs) (vs ++ us))))) is_x
    ∙ ap (λ ns. option_map (λ w. (x, w)) (others ns)) (drop_at vs us (length vs) refl)
    ∙ ap (option_map (λ w. (x, w))) is_y

fields_end-append : (start : ℕ) (fs gs : List Field) → fields_end start (fs ++ gs) ≡ fields_end (fields_end start fs) gs
fields_end-append start [] gs = refl
fields_end-append start (f ∷ fs) gs = fields_end-append (after start (width f) (width f)) fs gs

value_number-append : (start : ℕ) (fs gs : List Field) (vs us : List ℕ) → IsTrue (fits fs vs)
    → value_number start (fs ++ gs) (vs ++ us) ≡ value_number start fs vs + value_number (fields_end start fs) gs us
value_number-append start [] gs [] us h = omega arith
value_number-append start [] gs (v ∷ vs) us h = absurd (cc)
value_number-append start (f ∷ fs) gs [] us h = absurd (cc)
value_number-append start (f ∷ fs) gs (v ∷ vs) us h =
    omega (arith, value_number-append (after start (width f) (width f)) fs gs vs us (both (ltb v (256 ^ width f)) (fits fs vs) h).1)

-- there is room for the first part, and after it for the others
pub first-free : (start : ℕ) (fs gs : List Field) (ws : List ℕ) → AreFree start (fs ++ gs) ws → AreFree start fs ws
first-free start fs gs ws free = record { near = omega (arith, free.near, length-append fs gs); below = free.below }

pub later-free : (start end : ℕ) (fs gs : List Field) (vs old new : List ℕ) → AreFree start (fs ++ gs) old → ArePacked start fs vs old end new
    → number_of_words new < 256 ^ end → AreFree end gs new
later-free start end fs gs vs old new free packed below = record {
  near = subst (λ e. rounded_up e 8 + 8 * length gs ≤ 72) (sym packed.end_is) (omega (arith, free.near, length-append fs gs, fields_end-le start fs));
  below = below;
}

pub both-packed : (start mid end : ℕ) (fs gs : List Field) (vs us old between new : List ℕ) → IsTrue (fits fs vs) → ArePacked start fs vs old mid between
    → ArePacked mid gs us between end new → ArePacked start (fs ++ gs) (vs ++ us) old end new
both-packed start mid end fs gs vs us old between new fit first later = record {
  end_is = later.end_is ∙ ap (λ m. fields_end m gs) first.end_is ∙ sym (fields_end-append start fs gs);
  added = omega (arith, first.added, later.added, value_number-append start fs gs vs us fit, ap (λ m. value_number m gs us) first.end_is);
}
