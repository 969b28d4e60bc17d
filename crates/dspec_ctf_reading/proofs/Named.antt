-- Values stand in order, under names by their places.
use Rattle.std.proofs.Common.{arith, ◌≡◌, ◌+◌, false, ℕ, List, [], ◌∷◌, ◌++◌, length, map, Some, refl, ap}
use Rattle.std.proofs.lemmas.Bool.Decides.{nat_tests}
use Rattle.std.specs.{List.enumerate_from, List.range_with_len, Option.option_map_or}
use Rattle.dspec_ctf_reading.specs.Words.{Header, ProbeNames, event_name, names_by, given_for, given_name, stamp_value, named_values, Names, Numbered, Given}
use Rattle.dspec_record.specs.declared.header.Header.TheVariants as header

-- the values
pub values-of : (name : ℕ → List ℕ) (n : ℕ) (vs : List ℕ) → map (λ (v : List ℕ × ℕ). v.1) (map (λ p. (name p.0, p.1)) (enumerate_from n vs)) ≡ vs
values-of name n [] = refl
values-of name n (v ∷ vs) = ap (λ more. v ∷ more) (values-of name (n + 1) vs)

pub stamped-values : (h : Header) (stamp : ℕ) (vs : List (List ℕ × ℕ)) (us : List ℕ) → map (λ (v : List ℕ × ℕ). v.1) vs ≡ us
    → h ≡ header.Two → map (λ (v : List ℕ × ℕ). v.1) (stamp_value false h stamp ++ vs) ≡ stamp ∷ us
stamped-values header.One stamp vs us is two = absurd (cc)
stamped-values header.Two stamp vs us is two = ap (λ more. stamp ∷ more) is

pub plain-values : (h : Header) (stamp : ℕ) (vs : List (List ℕ × ℕ)) (us : List ℕ) → map (λ (v : List ℕ × ℕ). v.1) vs ≡ us
    → h ≡ header.One → map (λ (v : List ℕ × ℕ). v.1) (stamp_value false h stamp ++ vs) ≡ us
plain-values header.One stamp vs us is one = is
plain-values header.Two stamp vs us is one = absurd (cc)

-- the names
names-of : (name other : ℕ → List ℕ) → ((k : ℕ) → name k ≡ other k) → (n : ℕ) (vs : List ℕ)
    → map (λ (v : List ℕ × ℕ). v.0) (map (λ p. (name p.0, p.1)) (enumerate_from n vs)) ≡ map other (range_with_len n (length vs))
names-of name other each n [] = refl
names-of name other each n (v ∷ vs) = grind (arith, nat_tests, names-of name other each (n + 1) vs)

pub event-called : (names : Names) (epid : ℕ) (n : ProbeNames) → given_for names epid ≡ Some n → (names_by names).event epid ≡ n.event.now
unfolding event_name
event-called Numbered epid n is = absurd (cc)
event-called (Given names) epid n is = ap (λ o. option_map_or (λ m. m.event.now) o []) is

pub fields-called : (names : Names) (epid : ℕ) (n : ProbeNames) (vs : List ℕ) → given_for names epid ≡ Some n
    → map (λ (v : List ℕ × ℕ). v.0) (named_values ((names_by names).field epid) vs) ≡ map (given_name n) (range_with_len 0 (length vs))
fields-called Numbered epid n vs is = absurd (cc)
fields-called (Given names) epid n vs is =
    names-of ((names_by (Given names)).field epid) (given_name n) (λ k. ap (λ o. option_map_or (λ m. given_name m k) o []) is) 0 vs
