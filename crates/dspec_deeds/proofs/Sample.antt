-- The laws at one small history: they ask for nothing that cannot be, and Seals come where they are to come.
use Rattle.std.proofs.Common.{◌≡◌, ◌<◌, ℕ, zero, suc, true, List, [], ◌∷◌, Option, None, refl, subst, inl, inr, arith}
use Rattle.dspec_deeds.specs.Words.{Shape, Record, Speculation, part, scan, HasAuthors, IsSound, IsLegal, IsOwn, bare, woven, HaveLists}
use Rattle.dspec_deeds.specs.declared.{calls.Actor.TheVariants.Cpu, config.Config.Config, config.Policy.TheVariants.Switch, deed.Deed.Deed, deed.Deed.TheVariants.Trace, deed.Deed.TheVariants.Scan}
use Rattle.dspec_deeds.specs.declared.{deed.Deed.TheVariants.Opened, deed.Deed.TheVariants.Speculate, deed.Deed.TheVariants.Discard, deed.Deed.TheVariants.Seal, deed.Deed.TheVariants.Release}
use Rattle.dspec_deeds.specs.declared.deed.TraceFate.TheVariants as traced
use Rattle.dspec_deeds.specs.declared.deed.SpeculateFate.TheVariants as spoken
use Rattle.dspec_deeds.specs.declared.deed.DecideFate.TheVariants as decided
use Rattle.dspec_deeds.proofs.WovenLists.{weaves}

abbrev k : Config
k = record { cpus = 2; nspec = 1; bufsize = 64; specsize = 64; max_issues = 100; max_calls = 100; policy = Switch }

abbrev id : Speculation
id = record { issue = 0; slot = 1 }

abbrev r : Record
r = record { epid = 0; stamp = 0; values = [] }

abbrev shape : ℕ → Option Shape
shape e = None

abbrev started : List Deed
started = Speculate 0 id r spoken.Kept ∷ Opened 0 id ∷ Scan 0 true ∷ []

abbrev h : List Deed
h = Release 1 ∷ Discard 0 id (decided.Thrown 1) ∷ Trace 1 r traced.Kept ∷ started

abbrev p : ℕ → List Deed
p zero = Seal 0 ∷ Release 1 ∷ Discard 0 id (decided.Thrown 1) ∷ Seal 0 ∷ started
p (suc c) = Seal 1 ∷ Trace 1 r traced.Kept ∷ Seal 1 ∷ Seal 1 ∷ []

abbrev w : List Deed
w = Seal 0 ∷ Release 1 ∷ Discard 0 id (decided.Thrown 1) ∷ Seal 1 ∷ Trace 1 r traced.Kept ∷ Seal 0 ∷ Speculate 0 id r spoken.Kept ∷ Opened 0 id ∷ Scan 0 true ∷ Seal 1 ∷ Seal 1 ∷ []

it_is : woven 2 p h ≡ w
it_is = refl

sound : IsSound k h
sound = (
  (((((tt, (refl, (refl, refl))), (refl, (refl, omega arith, refl, refl))), (refl, (refl, (refl, refl)))), (refl, (refl, refl))), (refl, (refl, refl, (refl, refl)))),
  (inr refl, ((refl, inl (λ e. cc e)), release_free)),
)
  where
    release_free : (c : ℕ) → Cpu 0 ≡ Cpu c → scan k c (Discard 0 id (decided.Thrown 1) ∷ Trace 1 r traced.Kept ∷ started) ≡ 0
    release_free c by = let same : 0 ≡ c = cc in subst (λ x. scan k x (Discard 0 id (decided.Thrown 1) ∷ Trace 1 r traced.Kept ∷ started) ≡ 0) same refl

of_zero : (c : ℕ) → Cpu 0 ≡ Cpu c → c < 2
of_zero c e = let same : 0 ≡ c = cc in omega arith

of_one : (c : ℕ) → Cpu 1 ≡ Cpu c → c < 2
of_one c e = let same : 1 ≡ c = cc in omega arith

authors : HasAuthors k h
authors = ((((((tt, of_zero), of_zero), of_zero), of_one), of_zero), of_zero)

own : (c : ℕ) → c < 2 → IsOwn shape k c (p c)
own zero lt = (((((((tt, refl, tt), refl, tt), refl, refl), refl, (omega arith, refl, refl)), refl, refl), refl, refl), refl, (omega arith, refl, refl))
own (suc zero) lt = ((((tt, refl, (omega arith, refl, refl)), refl, (omega arith, refl, refl)), refl, refl), refl, (omega arith, refl, refl))
own (suc (suc c)) lt = absurd (omega arith)

parts : (c : ℕ) → c < 2 → bare (p c) ≡ part (Cpu c) h
parts zero lt = refl
parts (suc zero) lt = refl
parts (suc (suc c)) lt = absurd (omega arith)

lists : HaveLists shape k p h
lists = record { own = own; parts = parts }

legal : IsLegal shape k w
legal = (weaves shape k h p sound refl authors lists).legal
