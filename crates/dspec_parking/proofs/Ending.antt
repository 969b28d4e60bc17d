-- Blocks that end together: those that stand in places which the tail passes.
use Rattle.std.proofs.Common.{◌≡◌, ℕ, ◌+◌, Bool, true, false, List, [], ◌∷◌, ◌++◌, length, map, cond, refl, sym, ap, ap₂, subst, ◌∙◌, inl, inr, arith, append_assoc, length-append}
use Rattle.std.proofs.lemmas.List.{length-map, map-append, Sums.sum_by-append, Sums.sum_by-cons}
use Rattle.std.specs.{List.AllByRecursion, Prelude.if◌then◌else◌, Prelude.not}
use Rattle.dspec_parking.specs.Words.{ParkingPlace, StoredBlock, is_standing, standing_in, BlockFate, GoesBy, GoesOnBy, HasEnded, ParkedOnce, Register, fate_count, entered, is_fate, kept, standing}
use Rattle.dspec_parking.proofs.Lists.{AllByRecursion-append}

-- what a place becomes in the register when the tail passes it
abbrev pub given_up : BlockFate → ParkingPlace → ParkedOnce
given_up end p = record { block = p.block; fate = if p.is_kept then kept else end }

-- the register, when some of the oldest places are given up
abbrev pub goes_to : BlockFate → Register → List ParkingPlace → List ParkingPlace → Register
goes_to end passed gone rest = (passed ++ map (given_up end) gone) ++ map entered rest

abbrev pub came_from : Register → List ParkingPlace → List ParkingPlace → Register
came_from passed gone rest = passed ++ map entered (gone ++ rest)

came_from_parts : (passed : Register) (gone rest : List ParkingPlace) → came_from passed gone rest ≡ (passed ++ map entered gone) ++ map entered rest
came_from_parts passed gone rest = ap (λ (l : Register). passed ++ l) (map-append entered gone rest) ∙ sym (append_assoc passed (map entered gone) (map entered rest))

-- one block, where it has this fate
abbrev pub counted : BlockFate → ParkedOnce → ℕ
counted f e = cond (is_fate f e.fate) 1 0

-- a number, where it is asked for
abbrev pub asked : Bool → ℕ → ℕ
asked b n = cond b n 0

asked_none : (b : Bool) → asked b 0 ≡ 0
asked_none true = refl
asked_none false = refl

asked_sum : (b : Bool) (m n : ℕ) → asked b (m + n) ≡ asked b m + asked b n
asked_sum true m n = refl
asked_sum false m n = refl

swapped : (m n : ℕ) → m + n ≡ n + m
swapped m n = omega arith

-- one place: what it counts when it is given up, and what it counted
one_counts : (end f : BlockFate) (b : Bool)
    → cond (is_fate f (if b then kept else end)) 1 0 + asked (is_fate f standing) (cond (not b) 1 0) ≡ cond (is_fate f (if b then kept else standing)) 1 0 + asked (is_fate f end) (cond (not b) 1 0)
one_counts end f true =
    let none_asked : asked (is_fate f standing) 0 ≡ 0 = asked_none (is_fate f standing) in
    let none_given : asked (is_fate f end) 0 ≡ 0 = asked_none (is_fate f end) in
    ap (λ (n : ℕ). cond (is_fate f kept) 1 0 + n) (none_asked ∙ sym none_given)
one_counts end f false = swapped (cond (is_fate f end) 1 0) (cond (is_fate f standing) 1 0)

four_parts : (a b c d e f g h : ℕ) → a + c ≡ e + g → b + d ≡ f + h → (a + b) + (c + d) ≡ (e + f) + (g + h)
four_parts a b c d e f g h first rest = omega arith

given_counts : (end f : BlockFate) (ps : List ParkingPlace)
    → fate_count f (map (given_up end) ps) + asked (is_fate f standing) (standing_in ps) ≡ fate_count f (map entered ps) + asked (is_fate f end) (standing_in ps)
given_counts end f [] = ap (λ (n : ℕ). 0 + n) (asked_none (is_fate f standing) ∙ sym (asked_none (is_fate f end)))
given_counts end f (p ∷ ps) =
    let one_given : ℕ = cond (is_fate f (given_up end p).fate) 1 0 in
    let one_there : ℕ = cond (is_fate f (entered p).fate) 1 0 in
    let one : ℕ = cond (is_standing p) 1 0 in
    let given : fate_count f (map (given_up end) (p ∷ ps)) ≡ one_given + fate_count f (map (given_up end) ps) = sum_by-cons (counted f) (given_up end p) (map (given_up end) ps) in
    let there : fate_count f (map entered (p ∷ ps)) ≡ one_there + fate_count f (map entered ps) = sum_by-cons (counted f) (entered p) (map entered ps) in
    let stood : standing_in (p ∷ ps) ≡ one + standing_in ps = sum_by-cons (λ (q : ParkingPlace). cond (is_standing q) 1 0) p ps in
    let asks_left : asked (is_fate f standing) (standing_in (p ∷ ps)) ≡ asked (is_fate f standing) one + asked (is_fate f standing) (standing_in ps) =
    ap (asked (is_fate f standing)) stood ∙ asked_sum (is_fate f standing) one (standing_in ps) in
    let asks_right : asked (is_fate f end) (standing_in (p ∷ ps)) ≡ asked (is_fate f end) one + asked (is_fate f end) (standing_in ps) =
    ap (asked (is_fate f end)) stood ∙ asked_sum (is_fate f end) one (standing_in ps) in
    let first : one_given + asked (is_fate f standing) one ≡ one_there + asked (is_fate f end) one = one_counts end f p.is_kept in
    let rest : fate_count f (map (given_up end) ps) + asked (is_fate f standing) (standing_in ps) ≡ fate_count f (map entered ps) + asked (is_fate f end) (standing_in ps) = given_counts end f ps in
    ap₂ ◌+◌ given asks_left ∙ four_parts one_given (fate_count f (map (given_up end) ps)) (asked (is_fate f standing) one) (asked (is_fate f standing) (standing_in ps))
    one_there (fate_count f (map entered ps)) (asked (is_fate f end) one) (asked (is_fate f end) (standing_in ps)) first rest ∙ sym (ap₂ ◌+◌ there asks_right)

joined : (p o t l a b x y : ℕ) → x ≡ (p + o) + l → y ≡ (p + t) + l → o + a ≡ t + b → x + a ≡ y + b
joined p o t l a b x y whole before parts = omega arith

pub goes_to_counts : (end f : BlockFate) (passed : Register) (gone rest : List ParkingPlace)
    → fate_count f (goes_to end passed gone rest) + asked (is_fate f standing) (standing_in gone) ≡ fate_count f (came_from passed gone rest) + asked (is_fate f end) (standing_in gone)
goes_to_counts end f passed gone rest =
    let over = map (given_up end) gone in
    let there = map entered gone in
    let later = map entered rest in
    let whole : fate_count f (goes_to end passed gone rest) ≡ (fate_count f passed + fate_count f over) + fate_count f later =
    sum_by-append (counted f) (passed ++ over) later ∙ ap (λ (n : ℕ). n + fate_count f later) (sum_by-append (counted f) passed over) in
    let before : fate_count f (came_from passed gone rest) ≡ (fate_count f passed + fate_count f there) + fate_count f later =
    ap (fate_count f) (came_from_parts passed gone rest) ∙ sum_by-append (counted f) (passed ++ there) later ∙ ap (λ (n : ℕ). n + fate_count f later) (sum_by-append (counted f) passed there) in
    joined (fate_count f passed) (fate_count f over) (fate_count f there) (fate_count f later) (asked (is_fate f standing) (standing_in gone)) (asked (is_fate f end) (standing_in gone))
    (fate_count f (goes_to end passed gone rest)) (fate_count f (came_from passed gone rest)) whole before (given_counts end f gone)

pub length-goes_to : (end : BlockFate) (passed : Register) (gone rest : List ParkingPlace) → length (goes_to end passed gone rest) ≡ length (came_from passed gone rest)
length-goes_to end passed gone rest =
    let over : length (map (given_up end) gone) ≡ length gone = length-map gone (given_up end) in
    let there : length (map entered gone) ≡ length gone = length-map gone entered in
    let whole : length (goes_to end passed gone rest) ≡ (length passed + length (map (given_up end) gone)) + length (map entered rest) =
    length-append (passed ++ map (given_up end) gone) (map entered rest) ∙ ap (λ (n : ℕ). n + length (map entered rest)) (length-append passed (map (given_up end) gone)) in
    let before : length (came_from passed gone rest) ≡ (length passed + length (map entered gone)) + length (map entered rest) =
    ap length (came_from_parts passed gone rest) ∙ length-append (passed ++ map entered gone) (map entered rest)
    ∙ ap (λ (n : ℕ). n + length (map entered rest)) (length-append passed (map entered gone)) in
    omega arith

-- each that was passed has ended
ended_so : (end : BlockFate) (b : Bool) → is_fate standing end ≡ false → is_fate standing (if b then kept else end) ≡ false
ended_so end true is = refl
ended_so end false is = is

given_ended : (end : BlockFate) (ps : List ParkingPlace) → is_fate standing end ≡ false → AllByRecursion HasEnded (map (given_up end) ps)
given_ended end [] is = tt
given_ended end (p ∷ ps) is = (ended_so end p.is_kept is, given_ended end ps is)

pub passed_ended : (end : BlockFate) (passed : Register) (gone : List ParkingPlace) → is_fate standing end ≡ false → AllByRecursion HasEnded passed
    → AllByRecursion HasEnded (passed ++ map (given_up end) gone)
passed_ended end passed gone is all = AllByRecursion-append HasEnded passed (map (given_up end) gone) all (given_ended end gone is)

-- the register goes on
goes_same : (end : BlockFate) (es : Register) → GoesOnBy end es es
goes_same end [] = tt
goes_same end (e ∷ es) = (inl refl, goes_same end es)

goes_append : (end : BlockFate) (xs ys cs ds : Register) → GoesOnBy end xs ys → GoesOnBy end cs ds → GoesOnBy end (xs ++ cs) (ys ++ ds)
goes_append end [] [] cs ds front back = back
goes_append end [] (y ∷ ys) cs ds front back = absurd front
goes_append end (x ∷ xs) [] cs ds front back = absurd front
goes_append end (x ∷ xs) (y ∷ ys) cs ds front back = (front.0, goes_append end xs ys cs ds front.1 back)

goes_one : (end : BlockFate) (block : StoredBlock) (b : Bool)
    → GoesBy end (record { block = block; fate = if b then kept else standing }) (record { block = block; fate = if b then kept else end })
goes_one end block true = inl refl
goes_one end block false = inr (refl, refl)

goes_given : (end : BlockFate) (ps : List ParkingPlace) → GoesOnBy end (map entered ps) (map (given_up end) ps)
goes_given end [] = tt
goes_given end (p ∷ ps) = (goes_one end p.block p.is_kept, goes_given end ps)

pub goes_on : (end : BlockFate) (passed : Register) (gone rest : List ParkingPlace) → GoesOnBy end (came_from passed gone rest) (goes_to end passed gone rest)
goes_on end passed gone rest =
    subst (λ (r : Register). GoesOnBy end r (goes_to end passed gone rest)) (sym (came_from_parts passed gone rest))
    (goes_append end (passed ++ map entered gone) (passed ++ map (given_up end) gone) (map entered rest) (map entered rest)
    (goes_append end passed passed (map entered gone) (map (given_up end) gone) (goes_same end passed) (goes_given end gone)) (goes_same end (map entered rest)))
