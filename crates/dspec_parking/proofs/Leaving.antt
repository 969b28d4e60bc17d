-- When a ring goes each block has its end, and the oldest went first.
use Rattle.std.proofs.Common.{◌≡◌, ℕ, ◌+◌, Bool, true, false, List, [], ◌∷◌, ◌++◌, length, map, cond, refl, sym, ap, subst, ◌∙◌, true≢false, arith, append-nil}
use Rattle.std.proofs.lemmas.List.Sums.{sum_by-cons}
use Rattle.std.specs.{List.AllByRecursion, List.list_any, Prelude.if◌then◌else◌, Prelude.◌||◌}
use Rattle.dspec_parking.specs.Words.{ParkingPlace, standing_in, EndsAll, BlockFate, GoesOnBy, HasEnded, KeepsParking, OldestFirst, Register, entered, evicted, expired, fate_count, is_fate}
use Rattle.dspec_parking.specs.Words.{is_given_up, kept, left, standing, ParkingState}
use Rattle.dspec_parking.proofs.Ending.{came_from, counted, given_up, goes_on, goes_to, goes_to_counts, length-goes_to, passed_ended}
use Rattle.dspec_parking.proofs.Lists.{AllByRecursion-append}

-- each block has one fate
one_fate : (f : BlockFate) → 1 ≡ cond (is_fate kept f) 1 0 + cond (is_fate evicted f) 1 0 + cond (is_fate expired f) 1 0 + cond (is_fate standing f) 1 0 + cond (is_fate left f) 1 0
one_fate standing = refl
one_fate kept = refl
one_fate evicted = refl
one_fate expired = refl
one_fate left = refl

all_counted : (es : Register) → length es ≡ fate_count kept es + fate_count evicted es + fate_count expired es + fate_count standing es + fate_count left es
all_counted [] = refl
all_counted (e ∷ es) =
    let in_kept : fate_count kept (e ∷ es) ≡ cond (is_fate kept e.fate) 1 0 + fate_count kept es = sum_by-cons (counted kept) e es in
    let in_evicted : fate_count evicted (e ∷ es) ≡ cond (is_fate evicted e.fate) 1 0 + fate_count evicted es = sum_by-cons (counted evicted) e es in
    let in_expired : fate_count expired (e ∷ es) ≡ cond (is_fate expired e.fate) 1 0 + fate_count expired es = sum_by-cons (counted expired) e es in
    let in_standing : fate_count standing (e ∷ es) ≡ cond (is_fate standing e.fate) 1 0 + fate_count standing es = sum_by-cons (counted standing) e es in
    let in_left : fate_count left (e ∷ es) ≡ cond (is_fate left e.fate) 1 0 + fate_count left es = sum_by-cons (counted left) e es in
    let rest : length es ≡ fate_count kept es + fate_count evicted es + fate_count expired es + fate_count standing es + fate_count left es = all_counted es in
    let one : 1 ≡ cond (is_fate kept e.fate) 1 0 + cond (is_fate evicted e.fate) 1 0 + cond (is_fate expired e.fate) 1 0 + cond (is_fate standing e.fate) 1 0 + cond (is_fate left e.fate) 1 0 =
    one_fate e.fate in
    let more : length (e ∷ es) ≡ length es + 1 = omega arith in
    omega arith

none_stands : (es : Register) → AllByRecursion HasEnded es → fate_count standing es ≡ 0
none_stands [] all = refl
none_stands (e ∷ es) all =
    let more : fate_count standing (e ∷ es) ≡ cond (is_fate standing e.fate) 1 0 + fate_count standing es = sum_by-cons (counted standing) e es in
    let ended : cond {A = ℕ} (is_fate standing e.fate) 1 0 ≡ 0 = ap (λ (b : Bool). cond {A = ℕ} b 1 0) all.0 in
    let rest : fate_count standing es ≡ 0 = none_stands es all.1 in
    omega arith

-- the ring goes, and all its places with it
pub ends_all : (register : Register) (s : ParkingState) → KeepsParking register s → (later : Register) × EndsAll register s later
ends_all register s keeps =
    let ps = s.ring.places in
    let c = s.counts in
    let later = goes_to left keeps.passed ps [] in
    let from = came_from keeps.passed ps [] in
    let whole : from ≡ register = ap (λ (l : List ParkingPlace). keeps.passed ++ map entered l) (append-nil ps) ∙ sym keeps.places in
    let n : ℕ = standing_in ps in
    let was_standing : fate_count standing later + n ≡ fate_count standing register + 0 = goes_to_counts left standing keeps.passed ps [] ∙ ap (λ (r : Register). fate_count standing r + 0) whole in
    let was_kept : fate_count kept later + 0 ≡ fate_count kept register + 0 = goes_to_counts left kept keeps.passed ps [] ∙ ap (λ (r : Register). fate_count kept r + 0) whole in
    let was_evicted : fate_count evicted later + 0 ≡ fate_count evicted register + 0 = goes_to_counts left evicted keeps.passed ps [] ∙ ap (λ (r : Register). fate_count evicted r + 0) whole in
    let was_expired : fate_count expired later + 0 ≡ fate_count expired register + 0 = goes_to_counts left expired keeps.passed ps [] ∙ ap (λ (r : Register). fate_count expired r + 0) whole in
    let was_left : fate_count left later + 0 ≡ fate_count left register + n = goes_to_counts left left keeps.passed ps [] ∙ ap (λ (r : Register). fate_count left r + n) whole in
    let ended : AllByRecursion HasEnded later = AllByRecursion-append HasEnded (keeps.passed ++ map (given_up left) ps) [] (passed_ended left keeps.passed ps refl keeps.ended) tt in
    let none : fate_count standing later ≡ 0 = none_stands later ended in
    let all = keeps.counts in
    let c_parked : c.parked ≡ length register = all.parked in
    let c_standing : c.standing ≡ fate_count standing register = all.standing in
    let c_expired : c.expired ≡ fate_count expired register = all.expired in
    let c_kept : c.kept ≡ fate_count kept register = all.kept in
    let c_evicted : c.evicted ≡ fate_count evicted register = all.evicted in
    let sums : c.parked ≡ c.kept + c.evicted + c.expired + c.standing = keeps.sums in
    let five : length register ≡ fate_count kept register + fate_count evicted register + fate_count expired register + fate_count standing register + fate_count left register =
    all_counted register in
    let long : length later ≡ length register = length-goes_to left keeps.passed ps [] ∙ ap length whole in (
      later,
      record {
        goes = subst (λ (r : Register). GoesOnBy left r later) whole (goes_on left keeps.passed ps []);
        ended = ended;
        parked = omega arith;
        kept = omega arith;
        evicted = omega arith;
        expired = omega arith;
        left = omega arith;
      },
    )

-- what stands in the ring, or was kept there, isn't given up
not_given_up : (b : Bool) → (if is_fate evicted (if b then kept else standing) then true else is_fate expired (if b then kept else standing)) ≡ false
not_given_up true = refl
not_given_up false = refl

none_given_up : (ps : List ParkingPlace) → list_any is_given_up (map entered ps) ≡ false
none_given_up [] = refl
none_given_up (p ∷ ps) = ap (λ (b : Bool). b || list_any is_given_up (map entered ps)) (not_given_up p.is_kept) ∙ none_given_up ps

oldest_there : (ps : List ParkingPlace) → OldestFirst (map entered ps)
oldest_there [] = tt
oldest_there (p ∷ ps) = (λ some. absurd (true≢false (sym some ∙ none_given_up ps)), oldest_there ps)

oldest_passed : (passed : Register) (ps : List ParkingPlace) → AllByRecursion HasEnded passed → OldestFirst (passed ++ map entered ps)
oldest_passed [] ps all = oldest_there ps
oldest_passed (e ∷ passed) ps all = (λ some. all.0, oldest_passed passed ps all.1)

pub oldest_first : (register : Register) (s : ParkingState) → KeepsParking register s → OldestFirst register
oldest_first register s keeps = subst OldestFirst (sym keeps.places) (oldest_passed keeps.passed s.ring.places keeps.ended)
