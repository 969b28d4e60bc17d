-- Places of CPUs, looked at, tended and left one after another.
use Rattle.std.proofs.Common.{◌≡◌, ℕ, zero, suc, ◌+◌, ◌<◌, ◌≤◌, ◌⊎◌, inl, inr, ⊎_elim, Bool, true, false, List, [], ◌∷◌, ◌++◌, length, map, append_assoc, Option, Some, None, refl, sym, ap, ◌∙◌}
use Rattle.std.proofs.Common.{subst, arith}
use Rattle.std.proofs.lemmas.{Bool.Decides.nat_tests, List.map-set, List.map_push, Option.slice_get_read, Option.slice_get-map}
use Rattle.std.specs.Option.{option_map, option_map_or}
use Rattle.std.specs.Prelude.{◌&&◌, Result, Ok, Err, MatchBool, MatchResult, IsSome, is_some, slice_get, slice_index_or, slice_set}
use Rattle.dspec_threads.specs.Words.{EnabledRows, CallsMade, called, no_calls, IsCallable, identity, ServedOnce, ComesHome, IsHomeOf, IsOfRank, Rank, AllIn, AreCpusOf, AreAtPlaces, AtOne, ComesIn}
use Rattle.dspec_threads.specs.Words.{EachPair, IsCallableInside, IsOneOut, IsAtPlace, IsAtPlaceSo, KeepsPlace, LooksAndSends, Rests, SendsOut, ServesInside, StaysIn, TendsPlace, Whereabouts}
use Rattle.dspec_threads.specs.Words.{all_whereabouts, is_in_at, waits_inside, whereabouts, who_is_in, Cpu, Shared}
use Rattle.dspec_threads.specs.declared.place.LanePlace.{LanePlace}
use Rattle.dspec.proofs.Serving.{not_served, served_again}
use Rattle.dspec_threads.proofs.{Homes.comes_at, Homes.still_of_rank, Pairs.EachTo, Pairs.each_seen, Pairs.each_set, Pairs.pair_at, Pairs.set_there, Pairs.set_twice, Pairs.so_far_at}

module _ {D : Type 0} (R : Whereabouts → Whereabouts → Type 0) where
  -- of one place, as it was read and written
  pub at_one : (ps : List (LanePlace D)) (i : ℕ) (p q : LanePlace D) → i < length ps → p ≡ slice_index_or ps i p → R (whereabouts p) (whereabouts q)
      → AtOne R i (all_whereabouts ps) (all_whereabouts (slice_set ps i q))
  at_one ps i p q lt at does = grind (arith, nat_tests, slice_get-map, slice_get_read, map-set)

pub there_read : {D : Type 0} (ps : List (LanePlace D)) (i : ℕ) (p : LanePlace D) → i < length ps → p ≡ slice_index_or ps i p → slice_get (all_whereabouts ps) i ≡ Some (whereabouts p)
there_read ps i p h1 h2 = grind (arith, nat_tests, slice_get-map, slice_get_read)

pub in_at_one : {D : Type 0} (ps : List (LanePlace D)) (i : ℕ) (p q : LanePlace D) → i < length ps → p ≡ slice_index_or ps i p
    → is_in_at i (all_whereabouts (slice_set ps i q)) ≡ is_some (whereabouts q).inside
in_at_one ps i p q h1 h2 = grind (arith, nat_tests, slice_get-map, slice_get_read, map-set, set_there)

-- of the first so many all are inside, or one isn't
abbrev pub InTo : List Whereabouts → ℕ → Type 0
InTo [] n = Unit {0}
InTo (w ∷ ws) zero = Unit {0}
InTo (w ∷ ws) (suc n) = IsSome w.inside × InTo ws n

abbrev pub OutTo : List Whereabouts → ℕ → Type 0
OutTo [] n = ⊥
OutTo (w ∷ ws) zero = ⊥
OutTo (w ∷ ws) (suc n) = (w.inside ≡ None) ⊎ OutTo ws n

pub none_in_yet : (ws : List Whereabouts) → InTo ws 0
none_in_yet [] = tt
none_in_yet (w ∷ ws) = tt

in_set : (ws : List Whereabouts) (n : ℕ) (x w : Whereabouts) → InTo ws n → slice_get ws n ≡ Some x → IsSome w.inside → InTo (slice_set ws n w) (suc n)
in_set [] n x w all at is = absurd (cc (at))
in_set (v ∷ vs) zero x w all at is = (is, none_in_yet vs)
in_set (v ∷ vs) (suc n) x w all at is = (all.0, in_set vs n x w all.1 at is)

out_set : (ws : List Whereabouts) (n : ℕ) (w : Whereabouts) → OutTo ws n → OutTo (slice_set ws n w) (suc n)
out_set [] n w out = absurd out
out_set (v ∷ vs) zero w out = absurd out
out_set (v ∷ vs) (suc n) w (inl e) = inl e
out_set (v ∷ vs) (suc n) w (inr out) = inr (out_set vs n w out)

out_there : (ws : List Whereabouts) (n : ℕ) (x w : Whereabouts) → slice_get ws n ≡ Some x → w.inside ≡ None → OutTo (slice_set ws n w) (suc n)
out_there [] n x w at e = absurd (cc (at))
out_there (v ∷ vs) zero x w at e = inl e
out_there (v ∷ vs) (suc n) x w at e = inr (out_there vs n x w at e)

no_one : {X : Type 0} (o : Option X) → false ≡ is_some o → o ≡ None
no_one None e = refl
no_one (Some x) e = absurd (cc (e))

seen_at : (R : Whereabouts → Whereabouts → Type 0) (n : ℕ) (xs ys : List Whereabouts) (one : AtOne R n xs ys) → is_in_at n ys ≡ is_some one.is.inside
seen_at R n xs ys one =
    ap (λ ws. is_in_at n ws) one.all ∙ ap (λ o. option_map_or (λ (w : Whereabouts). is_some w.inside) o false) (set_there xs n one.was one.is one.there)

module _ (R : Whereabouts → Whereabouts → Type 0) (n : ℕ) (xs ys : List Whereabouts) (one : AtOne R n xs ys) where
  pub in_further : InTo xs n → true ≡ is_in_at n ys → InTo ys (suc n)
  in_further all is = subst (λ ws. InTo ws (suc n)) (sym one.all) (in_set xs n one.was one.is all one.there (sym (is ∙ seen_at R n xs ys one)))

  pub out_further : OutTo xs n → OutTo ys (suc n)
  out_further out = subst (λ ws. OutTo ws (suc n)) (sym one.all) (out_set xs n one.is out)

  pub out_here : false ≡ is_in_at n ys → OutTo ys (suc n)
  out_here is = subst (λ ws. OutTo ws (suc n)) (sym one.all) (out_there xs n one.was one.is one.there (no_one one.is.inside (is ∙ seen_at R n xs ys one)))

pub all_in : (ws : List Whereabouts) (n : ℕ) → InTo ws n → length ws ≤ n → AllIn (who_is_in ws)
all_in [] n all few c o at = absurd (cc (at))
all_in (w ∷ ws) zero all few c o at = absurd (omega (arith, few))
all_in (w ∷ ws) (suc n) all few zero o at = let e : w.inside ≡ o = cc (at) in subst (λ p. IsSome p) e all.0
all_in (w ∷ ws) (suc n) all few (suc c) o at = all_in ws n all.1 (omega (arith, few)) c o at

pub one_out : (ws : List Whereabouts) (n : ℕ) → OutTo ws n → IsOneOut (who_is_in ws)
one_out [] n out = absurd out
one_out (w ∷ ws) zero out = absurd out
one_out (w ∷ ws) (suc n) (inl e) = (0, ap Some e)
one_out (w ∷ ws) (suc n) (inr out) = let rest = one_out ws n out in (suc rest.0, rest.1)

next_is : (n : ℕ) → suc n ≡ n + 1
next_is n = omega arith

in_or_out : (R : Whereabouts → Whereabouts → Type 0) (n : ℕ) (xs ys : List Whereabouts) (one : AtOne R n xs ys) (a b : Bool) → MatchBool a (InTo xs n) (OutTo xs n) → b ≡ is_in_at n ys
    → MatchBool (a && b) (InTo ys (suc n)) (OutTo ys (suc n))
in_or_out R n xs ys one true true all is = in_further R n xs ys one all is
in_or_out R n xs ys one true false all is = out_here R n xs ys one is
in_or_out R n xs ys one false b out is = out_further R n xs ys one out

-- one place more was looked at
pub one_more_looked : (R : Whereabouts → Whereabouts → Type 0) (n : ℕ) (xs ys : List Whereabouts) (one : AtOne R n xs ys) (a b r : Bool) → MatchBool a (InTo xs n) (OutTo xs n) → b ≡ is_in_at n ys
    → r ≡ (a && b) → MatchBool r (InTo ys (n + 1)) (OutTo ys (n + 1))
one_more_looked R n xs ys one a b r before is e =
    subst (λ k. MatchBool r (InTo ys k) (OutTo ys k)) (next_is n) (subst (λ t. MatchBool t (InTo ys (suc n)) (OutTo ys (suc n))) (sym e) (in_or_out R n xs ys one a b before is))

pub all_or_one : (ws : List Whereabouts) (n : ℕ) (b : Bool) → MatchBool b (InTo ws n) (OutTo ws n) → length ws ≤ n → MatchBool b (AllIn (who_is_in ws)) (IsOneOut (who_is_in ws))
all_or_one ws n true all few = all_in ws n all few
all_or_one ws n false out few = one_out ws n out

-- who stands at a place, where all are inside
pub inside_there : (ws : List Whereabouts) (cpus : List (Cpu EnabledRows)) (c : ℕ) (cpu : Cpu EnabledRows) → who_is_in ws ≡ map Some cpus → slice_get cpus c ≡ Some cpu
    → (w : Whereabouts) × (slice_get ws c ≡ Some w) × (w.inside ≡ Some cpu)
inside_there [] [] c cpu e at = absurd (cc (at))
inside_there [] (x ∷ xs) c cpu e at = absurd (cc (e))
inside_there (w ∷ ws) [] c cpu e at = absurd (cc (at))
inside_there (w ∷ ws) (x ∷ xs) zero cpu e at = let is : w.inside ≡ Some cpu = cc (e, at) in (w, refl, is)
inside_there (w ∷ ws) (x ∷ xs) (suc c) cpu e at = let rest : who_is_in ws ≡ map Some xs = cc (e) in inside_there ws xs c cpu rest at

-- the first that is inside is taken out
pub first_in : (ws : List Whereabouts) (w : Whereabouts) (vs : List Whereabouts) → ws ≡ w ∷ vs → AllIn (who_is_in ws) → IsSome w.inside
first_in ws w vs e all = all 0 w.inside (ap (λ l. slice_get (who_is_in l) 0) e)

pub rest_in : (ws : List Whereabouts) (w : Whereabouts) (vs : List Whereabouts) → ws ≡ w ∷ vs → AllIn (who_is_in ws) → AllIn (who_is_in vs)
rest_in ws w vs e all c o at = all (suc c) o (ap (λ l. slice_get (who_is_in l) (suc c)) e ∙ at)

-- as many as were read, after those that were
pub one_more_at_home : (ys : List Whereabouts) (now all : List Whereabouts) (rest : List (Cpu EnabledRows)) (cpu : Cpu EnabledRows) (left : List (Cpu EnabledRows)) (y : Whereabouts)
    → rest ≡ cpu ∷ left → y ≡ waits_inside cpu → now ≡ ys ++ y ∷ [] → ys ++ map waits_inside rest ≡ all → now ++ map waits_inside left ≡ all
one_more_at_home ys now all rest cpu left y cons made is was =
    ap (λ xs. xs ++ map waits_inside left) is ∙ (append_assoc ys (y ∷ []) (map waits_inside left) ∙ (ap (λ z. ys ++ z ∷ map waits_inside left) made
    ∙ (ap (λ xs. ys ++ map waits_inside xs) (sym cons) ∙ was)))

pub one_more_out : (xs now : List (Cpu EnabledRows)) (cpu : Cpu EnabledRows) (ws : List Whereabouts) (w : Whereabouts) (vs : List Whereabouts) (all : List (Option (Cpu EnabledRows)))
    → ws ≡ w ∷ vs → w.inside ≡ Some cpu → now ≡ xs ++ cpu ∷ [] → map Some xs ++ who_is_in ws ≡ all → map Some now ++ who_is_in vs ≡ all
one_more_out xs now cpu ws w vs all cons is e was =
    ap (λ ys. map Some ys ++ who_is_in vs) e
    ∙ (ap (λ os. os ++ who_is_in vs) (map_push Some xs cpu)
    ∙ (append_assoc (map Some xs) (Some cpu ∷ []) (who_is_in vs)
    ∙ (ap (λ o. map Some xs ++ o ∷ who_is_in vs) (sym is) ∙ (ap (λ ls. map Some xs ++ who_is_in ls) (sym cons) ∙ was))))

pub stays_itself : (o : Option (Cpu EnabledRows)) → StaysIn o o
stays_itself None = tt
stays_itself (Some cpu) = refl

module _ (done : ℕ → CallsMade → Type 0) where
  pub each_stays : (xs ys : List Whereabouts) → EachPair (ComesIn done) xs ys → EachPair StaysIn (who_is_in xs) (who_is_in ys)
  each_stays xs ys each = each_seen (ComesIn done) (λ (w : Whereabouts). w.inside) StaysIn (λ x y is. is.stays) xs ys each

  pub each_serves : (xs ys : List Whereabouts) → EachPair (TendsPlace done) xs ys → EachPair ServesInside (who_is_in xs) (who_is_in ys)
  each_serves xs ys each = each_seen (TendsPlace done) (λ (w : Whereabouts). w.inside) ServesInside (λ x y is. is.serves) xs ys each

  pub unchanged : (x y : Whereabouts) → y ≡ x → ComesIn done x y
  unchanged x y e = subst (λ (w : Whereabouts). ComesIn done x w) (sym e) (record { keeps = λ r c is. is; stays = stays_itself x.inside })

  -- a CPU that came home rests
  came_home : (r : Rank) (c : ℕ) (before : List (Cpu EnabledRows)) (cpu : Cpu EnabledRows) → IsHomeOf r c before → ComesHome done before cpu → IsOfRank r c cpu × Rests done c (called cpu)
  came_home r c before cpu home allowed = grind (arith, nat_tests, comes_at, not_served)

  pub comes_in : (x y : Whereabouts) (before : List (Cpu EnabledRows)) (cpu : Cpu EnabledRows) → false ≡ is_some x.inside → x.came ≡ Some before → ComesHome done before cpu
      → y.inside ≡ Some cpu → ComesIn done x y
  comes_in x y before cpu out came allowed now = grind (arith, nat_tests, no_one, came_home)

  -- a CPU that never moved
  pub begins : (r : Rank) (c : ℕ) (cpu : Cpu EnabledRows) → IsOfRank r c cpu → no_calls ≡ called cpu → IsAtPlace done r c (waits_inside cpu)
  begins r c cpu is none = (is, record { returned = called cpu; worked = inl (sym none); served = not_served (called cpu) })

  served_rests : (c : ℕ) (x y : CallsMade) → Rests done c x → ServedOnce x y → Rests done c y
  served_rests c x y rests once = record { returned = rests.returned; worked = rests.worked; served = served_again rests.returned x y rests.served once }

  pub tended : (x y : Whereabouts) (old new : Cpu EnabledRows) → x.inside ≡ Some old → y.inside ≡ Some new → identity new ≡ identity old → ServedOnce (called old) (called new) → TendsPlace done x y
  tended x y old new was is same once = record {
    keeps = λ r c there.
        let here : IsOfRank r c old × Rests done c (called old) = subst (λ o. IsAtPlaceSo done r c o x.came) was there in
        subst (λ o. IsAtPlaceSo done r c o y.came) (sym is) (still_of_rank r c old new same here.0, served_rests c (called old) (called new) here.1 once);
    serves = subst (λ o. ServesInside o y.inside) (sym was) (subst (λ o. ServesInside (Some old) o) (sym is) (same, once));
  }

  -- who goes out is that CPU
  pub sends_out : {E : Type 0} (x y : Whereabouts) (cpu lane : Cpu EnabledRows) → x.inside ≡ Some cpu → y.inside ≡ None → y.came ≡ Some (cpu ∷ []) → lane ≡ cpu
      → SendsOut done {E = E} (Ok (Some lane)) x y
  sends_out x y cpu lane was none came same = record {
    keeps = λ r c there.
        let here : IsOfRank r c cpu × Rests done c (called cpu) = subst (λ (o : Option (Cpu EnabledRows)). IsAtPlaceSo done r c o x.came) was there in
        let home : IsHomeOf r c (cpu ∷ []) = record { first = cpu; was = refl; is = here.0 } in
        subst (λ (o : Option (Cpu EnabledRows)). IsAtPlaceSo done r c o y.came) (sym none) (subst (λ o. IsAtPlaceSo done r c None o) (sym came) home);
    sends = (ap Some same ∙ sym was, none);
  }

  callable_so : (r : Rank) (c : ℕ) (shared : Shared) (o : Option (Cpu EnabledRows)) (came : Option (List (Cpu EnabledRows))) → r.shared ≡ shared → IsAtPlaceSo done r c o came
      → (cpu : Cpu EnabledRows) → o ≡ Some cpu → IsCallable shared cpu
  callable_so r c shared None came same is cpu e = absurd (cc (e))
  callable_so r c shared (Some x) came same is cpu e = grind (arith, nat_tests)

  pub callable_there : (shared : Shared) (ws : List Whereabouts) (c : ℕ) (w : Whereabouts) → AreCpusOf done shared ws → slice_get ws c ≡ Some w → IsCallableInside shared w
  callable_there shared ws c w (r, same, all) at cpu e = callable_so r c shared w.inside w.came same (all c w at) cpu e

  -- after a look too
  pub callable_after : (shared : Shared) (ws : List Whereabouts) (c : ℕ) (w v : Whereabouts) → AreCpusOf done shared ws → slice_get ws c ≡ Some w → ComesIn done w v → IsCallableInside shared v
  callable_after shared ws c w v (r, same, all) at comes cpu e = callable_so r c shared v.inside v.came same (comes.keeps r c (all c w at)) cpu e

  module _ (R : Whereabouts → Whereabouts → Type 0) (keeps : (x y : Whereabouts) → R x y → KeepsPlace done x y) where
    pub each_placed : (r : Rank) (xs ys : List Whereabouts) → EachPair R xs ys → AreAtPlaces done r xs → AreAtPlaces done r ys
    each_placed r xs ys each all c w at = let (x, there, does) = pair_at R xs ys c w each at in keeps x w does r c (all c x there)

    pub placed_so_far : (shared : Shared) (xs ys : List Whereabouts) (n : ℕ) → EachTo R xs ys n → AreCpusOf done shared xs → AreCpusOf done shared ys
    placed_so_far shared xs ys n each (r, same, all) = (
      r,
      same,
      λ c w at.
          let (x, there, does) = so_far_at R xs ys n c w each at in
          ⊎_elim (λ e. subst (λ (v : Whereabouts). IsAtPlace done r c v) (sym e) (all c x there)) (λ d. keeps x w d r c (all c x there)) does,
    )

    -- of one place
    pub one_placed : (i : ℕ) (xs ys : List Whereabouts) → AtOne R i xs ys → EachPair (KeepsPlace done) xs ys
    one_placed i xs ys one =
        subst (λ ws. EachPair (KeepsPlace done) xs ws) (sym one.all) (each_set (KeepsPlace done) (λ x k c is. is) xs i one.was one.is one.there (keeps one.was one.is one.does))

  module _ {E : Type 0} where
    pub sends_keeps : (a : Result (Option (Cpu EnabledRows)) E) (x y : Whereabouts) → LooksAndSends done a x y → KeepsPlace done x y
    sends_keeps a x y is r c there = is.sends.keeps r c (is.comes.keeps r c there)

    -- who is sent out
    pub sent_from : (a : Result (Option (Cpu EnabledRows)) E) (o : Option (Cpu EnabledRows)) (cpu : Cpu EnabledRows) (r : Rank) (c : ℕ) (x y : Whereabouts) → LooksAndSends done a x y
        → a ≡ Ok o → o ≡ Some cpu
        → IsAtPlace done r c x → IsOfRank r c cpu × Rests done c (called cpu)
    sent_from a o cpu r c x y is e f there =
        let sends : (o ≡ is.looked.inside) × (y.inside ≡ None) = subst (λ (b : Result (Option (Cpu EnabledRows)) E). MatchResult b (λ p. (p ≡ is.looked.inside) × (y.inside ≡ None))
        (λ _. y ≡ is.looked)) e is.sends.sends in
        subst (λ p. IsAtPlaceSo done r c p is.looked.came) (sym sends.0 ∙ f) (is.comes.keeps r c there)

    -- what is seen of it
    hands_so : (a : Result (Option (Cpu EnabledRows)) E) (c : ℕ) (xs : List Whereabouts) (x z y : Whereabouts) → slice_get xs c ≡ Some x
        → MatchResult a (λ o. (o ≡ z.inside) × (y.inside ≡ None)) (λ _. y ≡ z)
        → MatchResult a (λ o. (o ≡ option_map_or (λ p. p)
        (slice_get (slice_set (who_is_in xs) c z.inside) c) None) × (slice_set (who_is_in xs) c y.inside ≡ slice_set (slice_set (who_is_in xs) c z.inside) c None))
        (λ _. slice_set (who_is_in xs) c y.inside ≡ slice_set (who_is_in xs) c z.inside)
    hands_so (Ok o) c xs x z y at is = (
      is.0 ∙ sym (ap (λ p. option_map_or (λ q. q) p None)
          (set_there (who_is_in xs) c x.inside z.inside (slice_get-map (λ (w : Whereabouts). w.inside) xs c ∙ ap (option_map (λ (w : Whereabouts). w.inside)) at))),
      ap (λ p. slice_set (who_is_in xs) c p) is.1 ∙ sym (set_twice (who_is_in xs) c z.inside None),
    )
    hands_so (Err e) c xs x z y at is = ap (λ (w : Whereabouts). slice_set (who_is_in xs) c w.inside) is

    abbrev pub seen_after : (a : Result (Option (Cpu EnabledRows)) E) (c : ℕ) (xs ys : List Whereabouts) → AtOne (LooksAndSends done a) c xs ys → List (Option (Cpu EnabledRows))
    seen_after a c xs ys one = slice_set (who_is_in xs) c one.does.looked.inside

    pub seen_later : (a : Result (Option (Cpu EnabledRows)) E) (c : ℕ) (xs ys : List Whereabouts) (one : AtOne (LooksAndSends done a) c xs ys)
        → EachPair StaysIn (who_is_in xs) (seen_after a c xs ys one)
    seen_later a c xs ys one =
        each_set StaysIn stays_itself (who_is_in xs) c one.was.inside one.does.looked.inside
        (slice_get-map (λ (w : Whereabouts). w.inside) xs c ∙ ap (option_map (λ (w : Whereabouts). w.inside)) one.there) one.does.comes.stays

    pub seen_handed : (a : Result (Option (Cpu EnabledRows)) E) (c : ℕ) (xs ys : List Whereabouts) (one : AtOne (LooksAndSends done a) c xs ys)
        → MatchResult a (λ o. (o ≡ option_map_or (λ p. p) (slice_get (seen_after a c xs ys one) c) None) × (who_is_in ys ≡ slice_set (seen_after a c xs ys one) c None))
        (λ _. who_is_in ys ≡ seen_after a c xs ys one)
    seen_handed a c xs ys one =
        let now : who_is_in ys ≡ slice_set (who_is_in xs) c one.is.inside = ap who_is_in one.all ∙ map-set (λ (w : Whereabouts). w.inside) xs c one.is in
        let here = hands_so a c xs one.was one.does.looked one.is one.there one.does.sends.sends in
        subst (λ l. MatchResult a (λ o. (o ≡ option_map_or (λ p. p) (slice_get (seen_after a c xs ys one) c) None) × (l ≡ slice_set (seen_after a c xs ys one) c None))
        (λ _. l ≡ seen_after a c xs ys one)) (sym now) here
