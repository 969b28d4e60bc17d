-- Tending one place after another: whose places they are, and how many, stays.
use Rattle.std.proofs.Common.{arith, ◌≡◌, ◌<◌, ◌+◌, ℕ, List, [], ◌∷◌, length, Bool, false, Option, Some, None, suc, zero, refl, sym, ap, ◌∙◌, subst}
use Rattle.std.proofs.lemmas.{Bool.Decides.nat_tests, List.length-map, List.length-set, Option.slice_get_read}
use Rattle.std.specs.Prelude.{IfSome, MatchOption, is_some, slice_get, slice_index_or, slice_set}
use Rattle.rtrb.specs.Ring.{known_free, sent}
use Rattle.dspec_c.specs.Words.{IsAtHomeOf, IsSameSide, EnabledRows, identity, Theirs, ServicedSo, AtHome, CpuStay, IsPlaceWith, IsUnused, CpuSide, AreTended, IsTended, IsTendedWhole, ServedAtHome}
use Rattle.dspec_c.specs.Words.{ServedIfThere, ServedThere, TendsOne, Going, IsWhole, firsts, Served, Cpu, Shared}
use Rattle.dspec_c.proofs.{Homes.IsPlace, Homes.WayOf, Homes.same_there, Looking.first_at, Options.if_true, Options.or_this}

-- a service of a CPU in its box
pub served_boxed : (n : ℕ) (told : Served) (old new : AtHome) (was cpu : Cpu EnabledRows) (refused : ℕ) → record { cpu = cpu; refused = refused } ≡ old → was ≡ cpu → n ≡ told.settled
    → ServicedSo told was new.cpu → new.refused ≡ refused → ServedAtHome n old new
served_boxed n told old new was cpu refused e f count done same = grind (arith, nat_tests)

module _ {R : Type 0} where
  still_unused : (first : CpuSide) (received : List CpuSide) (way : Option (WayOf CpuSide R)) (inside : Option AtHome) (y : AtHome)
      → IfSome way (λ w. IsUnused first received (sent w) (known_free w) inside) → IfSome way (λ w. IsUnused first received (sent w) (known_free w) (Some y))
  still_unused first received None inside y is = tt
  still_unused first received (Some w) inside y is = record { came = is.came; went = is.went; room = is.room; is = refl }

  -- the CPU that was served is at its place
  pub served_in : (received : List CpuSide) (way : Option (WayOf CpuSide R)) (inside now : Option AtHome) (x y : AtHome) → IsPlace IsSameSide IsAtHomeOf received way inside → inside ≡ Some x →
      identity y.cpu ≡ identity x.cpu
      → now ≡ Some y → IsPlace IsSameSide IsAtHomeOf received way now
  served_in received way inside now x y is at same e = subst (λ (o : Option AtHome). IsPlace IsSameSide IsAtHomeOf received way o) (sym e)
      (is.0, is.1, record { out = tt; same = same ∙ same_there is.0 received inside x is.2 at }, still_unused is.0 received way inside y is.3)

pub served_there : (n : ℕ) (old new : CpuStay) (x y : AtHome) → old.inside ≡ Some x → new.first ≡ old.first → new.waits ≡ old.waits → new.inside ≡ Some y → ServedAtHome n x y
    → ServedIfThere n old new
served_there n old new x y at first waits is served =
    subst (λ (o : Option AtHome). MatchOption o ((n ≡ 0) × (new ≡ old)) (λ home. ServedThere n home old new)) (sym at)
    (record { first = first; waits = waits; left = y; is = is; served = served })

none_there : (o : Option AtHome) (n : ℕ) (s : CpuStay) → n ≡ 0 → false ≡ is_some o → MatchOption o ((n ≡ 0) × (s ≡ s)) (λ home. ServedThere n home s s)
none_there None n s zero_is e = (zero_is, refl)
none_there (Some x) n s zero_is e = absurd (subst (λ (t : Bool). if_true t) (sym e) tt)

pub not_there : (s : CpuStay) → false ≡ is_some s.inside → ServedIfThere 0 s s
not_there s e = none_there s.inside 0 s refl e

served_first : (o : Option AtHome) (n : ℕ) (old new : CpuStay) → MatchOption o ((n ≡ 0) × (new ≡ old)) (λ home. ServedThere n home old new) → new.first ≡ old.first
served_first None n old new is = ap (λ (s : CpuStay). s.first) is.1
served_first (Some home) n old new is = is.first

tended_first : (n : ℕ) (old new : CpuStay) → IsTended n old new → new.first ≡ old.first
tended_first n old new is = served_first is.looked.inside n is.looked new is.served ∙ is.came.first

set_firsts : (xs : List CpuStay) (c : ℕ) (s t : CpuStay) → slice_get xs c ≡ Some s → t.first ≡ s.first → firsts (slice_set xs c t) ≡ firsts xs
set_firsts [] c s t at same = refl
set_firsts (x ∷ xs) zero s t at same = ap (λ (o : Option CpuSide). o ∷ firsts xs) (same ∙ sym (ap (λ (o : Option CpuStay). (or_this x o).first) at))
set_firsts (x ∷ xs) (suc c) s t at same = ap (λ (os : List (Option CpuSide)). x.first ∷ os) (set_firsts xs c s t at same)

one_firsts : (c n : ℕ) (xs ys : List CpuStay) → TendsOne c n xs ys → firsts ys ≡ firsts xs
one_firsts c n xs ys is = ap (λ (zs : List CpuStay). firsts zs) is.all ∙ set_firsts xs c is.was is.is is.there (tended_first n is.was is.is is.tended)

one_length : (c n : ℕ) (xs ys : List CpuStay) → TendsOne c n xs ys → length ys ≡ length xs
one_length c n xs ys is = ap (λ (zs : List CpuStay). length zs) is.all ∙ length-set xs c is.is

pub tended_firsts : (c n : ℕ) (xs ys : List CpuStay) → AreTended c n xs ys → firsts ys ≡ firsts xs
tended_firsts zero n xs ys is = ap (λ (zs : List CpuStay). firsts zs) is.1
tended_firsts (suc c) n xs ys is = one_firsts c is.2 is.0 ys is.4 ∙ tended_firsts c is.1 xs is.0 is.3

pub tended_length : (c n : ℕ) (xs ys : List CpuStay) → AreTended c n xs ys → length ys ≡ length xs
tended_length zero n xs ys is = ap (λ (zs : List CpuStay). length zs) is.1
tended_length (suc c) n xs ys is = one_length c is.2 is.0 ys is.4 ∙ tended_length c is.1 xs is.0 is.3

-- one place, as it was read and written
pub tends_one : (c n : ℕ) (xs : List CpuStay) (x y : CpuStay) → c < length xs → x ≡ slice_index_or xs c x → IsTended n x y → TendsOne c n xs (slice_set xs c y)
tends_one c n xs x y small at is = record { was = x; is = y; there = slice_get_read xs (length xs) c x refl small at; tended = is; all = refl }

pub place_here : (shared : Shared) (xs : List CpuStay) (c : ℕ) (x : CpuStay) → c < length xs → x ≡ slice_index_or xs c x
    → ((first : Option CpuSide) → slice_get (firsts xs) c ≡ Some first → IsPlaceWith shared first) → IsPlaceWith shared x.first
place_here shared xs c x small at belongs = belongs x.first (first_at xs c x (slice_get_read xs (length xs) c x refl small at))

-- whose the places are stays, while they are tended
pub place_on : (shared : Shared) (c n : ℕ) (xs ys : List CpuStay) (k : ℕ) (first : Option CpuSide) → AreTended c n xs ys
    → ((j : ℕ) (f : Option CpuSide) → slice_get (firsts xs) j ≡ Some f → IsPlaceWith shared f) → slice_get (firsts ys) k ≡ Some first → IsPlaceWith shared first
place_on shared c n xs ys k first is belongs at = belongs k first (subst (λ (fs : List (Option CpuSide)). slice_get fs k ≡ Some first) (tended_firsts c n xs ys is) at)

-- one place more
pub one_more : (c n here : ℕ) (xs ys zs : List CpuStay) → AreTended c n xs ys → TendsOne c here ys zs → AreTended (suc c) (n + here) xs zs
one_more c n here xs ys zs is one = (ys, n, here, is, one, refl)

pub tended_so : (n c : ℕ) (w old now : Going) → w ≡ old → now.shared ≡ w.shared → now.cpus ≡ w.cpus → now.consumer ≡ w.consumer → c ≡ length w.places → AreTended c n w.places now.places
    → IsTendedWhole n old now
tended_so n c w old now seen e f g count is = subst (λ (x : Going). IsTendedWhole n x now) seen
    (record { shared = e; cpus = f; consumer = g; places = subst (λ m. AreTended m n w.places now.places) count is })

-- a session has as many places as CPUs
pub places_counted : (shared : Shared) (n : ℕ) (places : List CpuStay) (theirs : Option Theirs) → IsWhole shared n (firsts places) theirs → n ≡ length places
places_counted shared n places theirs is = is.count ∙ sym is.ending.all ∙ length-map places (λ (s : CpuStay). s.first)

pub whole_on : (shared : Shared) (n : ℕ) (places now : List CpuStay) (theirs : Option Theirs) → IsWhole shared n (firsts places) theirs → firsts now ≡ firsts places
    → IsWhole shared n (firsts now) theirs
whole_on shared n places now theirs is e = subst (λ (xs : List (Option CpuSide)). IsWhole shared n xs theirs) (sym e) is
