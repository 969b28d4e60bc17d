-- A session of one CPU decides itself what becomes of its buffers.
use Rattle.std.proofs.Common.{arith, ◌≡◌, ◌≢◌, ◌⊎◌, ◌<◌, ℕ, Bool, true, false, ◌&&◌, ◌==◌, List, [], ◌∷◌, ◌++◌, length, Option, Some, None, refl, ap, subst, ◌∙◌, inl, inr, if◌then◌else◌}
use Rattle.std.proofs.lemmas.Bool.Decides.{nat_tests}
use Rattle.std.specs.List.{AllByRecursion}
use Rattle.dspec_paths.specs.Words.{author, callers, calls_on, count_of, empties, HasAuthors, held, is_among, is_commit, is_discard, IsLegal, joined, latest, Offer, ruling, Ruling, same_id}
use Rattle.dspec_paths.specs.Words.{SettlesAs, solo_of, Speculation, spoken_granted, spoken_kept, undecided, committed, verdict, Config, DecideFate, Deed, Trace, Scan, Opened, Miss, Speculate}
use Rattle.dspec_paths.specs.Words.{Commit, Discard, Settle, Seal, Release, Halt, SpeculateFate, DecidesItself, did, done_by, commit, Did, discard, emptied, service, speculated, traced, Shape}
use Rattle.dspec_deeds.specs.{History.discarded, declared.calls.Actor.TheVariants.Cpu}
use Rattle.dspec_deeds.specs.declared.deed.DecideFate.TheVariants as decide
use Rattle.dspec_deeds.specs.declared.deed.SpeculateFate.TheVariants as speculate
use Rattle.dspec_deeds.proofs.TestLemmas.{and_tells, either_way}

-- each deed of a CPU is CPU 0's
abbrev IsZeros : Deed → List Deed → Type 0
IsZeros d h = (c : ℕ) → author d h ≡ Cpu c → c ≡ 0

below_one : (k : Config) (c : ℕ) → k.cpus ≡ 1 → c < k.cpus → c ≡ 0
below_one k c one lt = grind (arith, nat_tests)

is_zeros : (k : Config) (d : Deed) (h : List Deed) → k.cpus ≡ 1 → HasAuthors k (d ∷ h) → IsZeros d h
is_zeros k d h one has c is = below_one k c one (has.1 c is)

-- the callers are none, or CPU 0
abbrev AtMostZero : List ℕ → Type 0
AtMostZero cs = (cs ≡ []) ⊎ (cs ≡ 0 ∷ [])

joined_at_most : (o : Option ℕ) (cs : List ℕ) → ((c : ℕ) → o ≡ Some c → c ≡ 0) → AtMostZero cs → AtMostZero (joined o cs)
joined_at_most None cs zero at = at
joined_at_most (Some c) cs zero (inl none) = rw (none, zero c refl) (inr refl)
joined_at_most (Some c) cs zero (inr one) = rw (one, zero c refl) (inr refl)

calls_zero : (id : Speculation) (d : Deed) (h : List Deed) → IsZeros d h → (c : ℕ) → calls_on id d ≡ Some c → c ≡ 0
calls_zero id (Speculate a j r f) h zeros c is = elim (either_way (spoken_granted f && same_id id j)) [
  | inl t ↦ zeros c (ap Cpu (some_same a c (subst (λ (b : Bool). (if b then Some a else None) ≡ Some c) t is)))
  | inr n ↦ absurd (none_some c (subst (λ (b : Bool). (if b then Some a else None) ≡ Some c) n is))
]
  where
    some_same : (a c : ℕ) → Some a ≡ Some c → a ≡ c
    some_same a c e = cc (e)

    none_some : (c : ℕ) → None ≢ Some c
    none_some c e = cc (e)
calls_zero id (Trace a r f) h zeros c is = cc (is)
calls_zero id (Scan a running) h zeros c is = cc (is)
calls_zero id (Opened a j) h zeros c is = cc (is)
calls_zero id (Miss a s busy) h zeros c is = cc (is)
calls_zero id (Commit a j f) h zeros c is = cc (is)
calls_zero id (Discard a j f) h zeros c is = cc (is)
calls_zero id (Settle a j f) h zeros c is = cc (is)
calls_zero id (Seal a) h zeros c is = cc (is)
calls_zero id (Release s) h zeros c is = cc (is)
calls_zero id Halt h zeros c is = cc (is)

callers_at_most : (k : Config) (id : Speculation) (h : List Deed) → k.cpus ≡ 1 → HasAuthors k h → AtMostZero (callers id h)
callers_at_most k id [] one has = inl refl
callers_at_most k id (d ∷ h) one has = joined_at_most (calls_on id d) (callers id h) (calls_zero id d h (is_zeros k d h one has)) (callers_at_most k id h one has.0)

-- a speculation that is granted to nobody has no record
joined_none : (o : Option ℕ) (cs : List ℕ) → joined o cs ≡ [] → (o ≡ None) × (cs ≡ [])
joined_none None cs none = (refl, none)
joined_none (Some c) [] none = cc (none)
joined_none (Some c) (x ∷ cs) none = go (is_among c (x ∷ cs)) none
  where
    go : (b : Bool) → (if b then x ∷ cs else c ∷ x ∷ cs) ≡ [] → (Some c ≡ None) × (x ∷ cs ≡ [])
    go true e = cc (e)
    go false e = cc (e)

kept_is_granted : (f : SpeculateFate) → spoken_kept f ≡ true → spoken_granted f ≡ true
kept_is_granted speculate.Kept e = refl
kept_is_granted speculate.Dropped e = refl
kept_is_granted speculate.Void e = cc (e)
kept_is_granted speculate.Stopped e = cc (e)

not_kept : (c a : ℕ) (id j : Speculation) (f : SpeculateFate) → (if spoken_granted f && same_id id j then Some a else None) ≡ None → (spoken_kept f && ((c == a) && same_id id j)) ≡ false
not_kept c a id j f none = elim (either_way (spoken_kept f && ((c == a) && same_id id j))) [
  | inl t ↦
      let both = and_tells (spoken_kept f) ((c == a) && same_id id j) t in
      let same = (and_tells (c == a) (same_id id j) both.1).1 in
      absurd (some_none a (rw (kept_is_granted f both.0, same) at none))
  | inr n ↦ n
]
  where
    some_none : (a : ℕ) → Some a ≢ None
    some_none a e = cc (e)

nothing_left : (b : Bool) (os : List Offer) → os ≡ [] → (if b then [] else os) ≡ []
nothing_left true os none = refl
nothing_left false os none = none

held_still : (c : ℕ) (id : Speculation) (d : Deed) (h : List Deed) → calls_on id d ≡ None → held c id h ≡ [] → held c id (d ∷ h) ≡ []
held_still c id (Speculate a j r f) h none still = rw (not_kept c a id j f none) still
held_still c id (Trace a r f) h none still = still
held_still c id (Scan a running) h none still = still
held_still c id (Opened a j) h none still = still
held_still c id (Miss a s busy) h none still = still
held_still c id (Commit a j f) h none still = nothing_left (empties c id (Commit a j f)) (held c id h) still
held_still c id (Discard a j f) h none still = nothing_left (empties c id (Discard a j f)) (held c id h) still
held_still c id (Settle a j f) h none still = nothing_left (empties c id (Settle a j f)) (held c id h) still
held_still c id (Seal a) h none still = still
held_still c id (Release s) h none still = still
held_still c id Halt h none still = still

held_none : (c : ℕ) (id : Speculation) (h : List Deed) → callers id h ≡ [] → held c id h ≡ []
held_none c id [] none = refl
held_none c id (d ∷ h) none =
    let before = joined_none (calls_on id d) (callers id h) none in
    held_still c id d h before.0 (held_none c id h before.1)

-- the decision is CPU 0's
abbrev IsRuledByZero : Ruling → Type 0
IsRuledByZero undecided = Unit {0}
IsRuledByZero (committed c) = c ≡ 0
IsRuledByZero (discarded c) = c ≡ 0

latest_zeros : (v w : Ruling) → IsRuledByZero v → IsRuledByZero w → IsRuledByZero (latest v w)
latest_zeros undecided w a b = b
latest_zeros (committed c) w a b = a
latest_zeros (discarded c) w a b = a

ruling_zeros : (id : Speculation) (d : Deed) (h : List Deed) → IsZeros d h → IsRuledByZero (ruling id d)
ruling_zeros id (Commit a j f) h zeros = go (is_commit f && same_id id j)
  where
    go : (b : Bool) → IsRuledByZero (if b then committed a else undecided)
    go true = zeros a refl
    go false = tt
ruling_zeros id (Discard a j f) h zeros = go (is_discard f && same_id id j)
  where
    go : (b : Bool) → IsRuledByZero (if b then discarded a else undecided)
    go true = zeros a refl
    go false = tt
ruling_zeros id (Trace a r f) h zeros = tt
ruling_zeros id (Scan a running) h zeros = tt
ruling_zeros id (Opened a j) h zeros = tt
ruling_zeros id (Miss a s busy) h zeros = tt
ruling_zeros id (Speculate a j r f) h zeros = tt
ruling_zeros id (Settle a j f) h zeros = tt
ruling_zeros id (Seal a) h zeros = tt
ruling_zeros id (Release s) h zeros = tt
ruling_zeros id Halt h zeros = tt

verdict_zeros : (k : Config) (id : Speculation) (h : List Deed) → k.cpus ≡ 1 → HasAuthors k h → IsRuledByZero (verdict id h)
verdict_zeros k id [] one has = tt
verdict_zeros k id (d ∷ h) one has = latest_zeros (ruling id d) (verdict id h) (ruling_zeros id d h (is_zeros k d h one has)) (verdict_zeros k id h one has.0)

some_is_not_none : (c : ℕ) → Some c ≢ None
some_is_not_none c e = cc (e)

-- what CPU 0 didn't decide alone was discarded before anybody was its caller
settles_nothing : (v : Ruling) (cs : List ℕ) (f : DecideFate) → IsRuledByZero v → AtMostZero cs → SettlesAs v f → solo_of v cs ≡ None → (is_discard f ≡ true) × (cs ≡ [])
settles_nothing undecided cs f zero at so apart = absurd so
settles_nothing (committed c) cs f zero (inl none) so apart = absurd (some_is_not_none c (rw none at apart))
settles_nothing (committed c) cs f zero (inr one) so apart = absurd (some_is_not_none 0 (rw (one, zero) at apart))
settles_nothing (discarded c) cs f zero (inl none) so apart = (so, none)
settles_nothing (discarded c) cs f zero (inr one) so apart = absurd (some_is_not_none 0 (rw (one, zero) at apart))

-- a deed's part in what CPU 0 did
decides_commit : (id : Speculation) (f : DecideFate) → is_discard f ≡ false → DecidesItself (emptied commit id f)
decides_commit id (decide.Copied n) e = refl
decides_commit id (decide.Lost n) e = tt
decides_commit id (decide.Thrown n) e = cc (e)
decides_commit id decide.Void e = tt
decides_commit id decide.Stopped e = tt

decides_discard : (id : Speculation) (f : DecideFate) → is_commit f ≡ false → DecidesItself (emptied discard id f)
decides_discard id (decide.Copied n) e = cc (e)
decides_discard id (decide.Lost n) e = tt
decides_discard id (decide.Thrown n) e = inl refl
decides_discard id decide.Void e = tt
decides_discard id decide.Stopped e = tt

decides_service : (id : Speculation) (f : DecideFate) → is_discard f ≡ true → count_of f ≡ 0 → DecidesItself (emptied service id f)
decides_service id (decide.Copied n) e none = cc (e)
decides_service id (decide.Lost n) e none = tt
decides_service id (decide.Thrown n) e none = inr none
decides_service id decide.Void e none = tt
decides_service id decide.Stopped e none = tt

if_done : (b : Bool) (x : Did) (ds : List Did) → DecidesItself x → AllByRecursion DecidesItself ds → AllByRecursion DecidesItself ((if b then x ∷ [] else []) ++ ds)
if_done true x ds is all = (is, all)
if_done false x ds is all = all

settled_so : (shape : ℕ → Option Shape) (k : Config) (a : ℕ) (id : Speculation) (f : DecideFate) (h : List Deed) → k.cpus ≡ 1 → IsLegal shape k (Settle a id f ∷ h)
    → DecidesItself (emptied service id f)
settled_so shape k a id f h one legal =
    let sound = legal.0.0.1.1.1 in
    let only = settles_nothing (verdict id h) (callers id h) f (verdict_zeros k id h one legal.1.0) (callers_at_most k id h one legal.1.0) sound.1 sound.2 in
    let fits = legal.0.1.1 in
    let told : count_of f ≡ length (held a id h) = rw only.0 at fits in
    decides_service id f only.0 (told ∙ ap length (held_none a id h only.1))

pub decides_itself : (shape : ℕ → Option Shape) (k : Config) (h : List Deed) → k.cpus ≡ 1 → IsLegal shape k h → AllByRecursion DecidesItself (did 0 h)
decides_itself shape k [] one legal = tt
decides_itself shape k (d ∷ h) one legal = go d legal (decides_itself shape k h one ((legal.0.0.0, legal.0.1.0), legal.1.0))
  where
    go : (d : Deed) → IsLegal shape k (d ∷ h) → AllByRecursion DecidesItself (did 0 h) → AllByRecursion DecidesItself (done_by 0 d ++ did 0 h)
    go (Trace a r f) legal all = if_done (0 == a) (traced r f) (did 0 h) tt all
    go (Speculate a id r f) legal all = if_done (0 == a) (speculated id r f) (did 0 h) tt all
    go (Commit a id f) legal all = if_done (0 == a) (emptied commit id f) (did 0 h) (decides_commit id f legal.0.0.1.1.1) all
    go (Discard a id f) legal all = if_done (0 == a) (emptied discard id f) (did 0 h) (decides_discard id f legal.0.0.1.1.1) all
    go (Settle a id f) legal all = if_done (0 == a) (emptied service id f) (did 0 h) (settled_so shape k a id f h one legal) all
    go (Scan a running) legal all = all
    go (Opened a id) legal all = all
    go (Miss a s busy) legal all = all
    go (Seal a) legal all = all
    go (Release s) legal all = all
    go Halt legal all = all
