-- What the page says of records.
use Rattle.std.proofs.Common.{◌≡◌, ◌≢◌, ℕ, suc, Bool, true, false, ◌||◌, if◌then◌else◌, List, [], ◌∷◌, length, map, Option, Some, refl, sym, subst, ◌∙◌, inl, inr, true≢false}
use Rattle.std.specs.List.{AllByRecursion}
use Rattle.dspec_deeds.proofs.TestLemmas.{either_way, id_is_itself, or_true}
use Rattle.dspec_paths.specs.Words.{DecideFate, SpeculateFate, By, Did, traced, speculated, emptied, emptied_fate, handed, HandedRecord, once_emptied, some, speculated_fate, waits_for, taken}
use Rattle.dspec_paths.specs.Words.{discarded, is_same_id, Speculation, Places, PathState, nobodys, going, keeping, kept, thrown_away, lost, PathBook, Became, FateOf, HasFates, KeepsPaths}
use Rattle.dspec_paths.specs.Words.{DecidesItself, copies, throws, did, commit, discard, held_for, TellNumbers, Shape, IsLegal, Config, Deed}
use Rattle.dspec_deeds.specs.declared.deed.DecideFate.TheVariants.{Copied, Lost, Thrown, Void, Stopped}
use Rattle.dspec_deeds.specs.declared.deed.SpeculateFate.TheVariants as speculate
use Rattle.dspec_promise.proofs.{Emptying.emptied_one, Emptying.emptied_other, Emptying.waits_tells, KeptFates.numbers_told}
use Rattle.dspec_paths.proofs.OneCpu.{decides_itself}

-- a record's fate tells which call there was
abbrev Tells : List Did → HandedRecord → Type 0
Tells ds o = (id : Speculation) → o.to ≡ Some id → (o.fate ≡ taken → some (copies id) ds ≡ true) × (o.fate ≡ discarded → some (throws id) ds ≡ true)

more : (a b : Bool) → b ≡ true → (a || b) ≡ true
more a b is = subst (λ (v : Bool). (a || v) ≡ true) (sym is) (or_true a)

tells_more : (d : Did) (ds : List Did) (o : HandedRecord) → Tells ds o → Tells (d ∷ ds) o
tells_more d ds o tells id to = (
  λ is. more (copies id d) (some (copies id) ds) ((tells id to).0 is),
  λ is. more (throws id d) (some (throws id) ds) ((tells id to).1 is),
)

all_more : (d : Did) (ds : List Did) (os : List HandedRecord) → AllByRecursion (Tells ds) os → AllByRecursion (Tells (d ∷ ds)) os
all_more d ds [] all = tt
all_more d ds (o ∷ os) (one, all) = (tells_more d ds o one, all_more d ds os all)

-- what was just emptied
first : (a b : Bool) → a ≡ true → (a || b) ≡ true
first a b is = subst (λ (v : Bool). (v || b) ≡ true) (sym is) refl

-- whoever copies commits, and whoever throws away discards
abbrev IsItself : By → DecideFate → Type 0
IsItself b (Copied n) = b ≡ commit
IsItself b (Thrown n) = b ≡ discard
IsItself b f = Unit {0}

emptied_tells : (b : By) (f : DecideFate) (ds : List Did) (id : Speculation) → IsItself b f
    → (emptied_fate f ≡ taken → some (copies id) (emptied b id f ∷ ds) ≡ true) × (emptied_fate f ≡ discarded → some (throws id) (emptied b id f ∷ ds) ≡ true)
emptied_tells b (Copied n) ds id itself =
    subst (λ (c : By). (taken ≡ taken → some (copies id) (emptied c id (Copied n) ∷ ds) ≡ true) × (taken ≡ discarded → some (throws id) (emptied c id (Copied n) ∷ ds) ≡ true)) (sym itself)
    (λ is. first (is_same_id id id) (some (copies id) ds) (id_is_itself id), λ is. cc (is))
emptied_tells b (Lost n) ds id itself = (λ is. cc (is), λ is. cc (is))
emptied_tells b (Thrown n) ds id itself =
    subst (λ (c : By). (discarded ≡ taken → some (copies id) (emptied c id (Thrown n) ∷ ds) ≡ true) × (discarded ≡ discarded → some (throws id) (emptied c id (Thrown n) ∷ ds) ≡ true)) (sym itself)
    (λ is. cc (is), λ is. first (is_same_id id id) (some (throws id) ds) (id_is_itself id))
emptied_tells b Void ds id itself = (λ is. cc (is), λ is. cc (is))
emptied_tells b Stopped ds id itself = (λ is. cc (is), λ is. cc (is))

some_same : (i k : Speculation) → Some i ≡ Some k → i ≡ k
some_same i k e = cc (e)

one_emptied : (b : By) (j : Speculation) (f : DecideFate) (ds : List Did) (o : HandedRecord) → IsItself b f → Tells ds o → Tells (emptied b j f ∷ ds) (once_emptied j f o)
one_emptied b j f ds o itself tells = elim (either_way (waits_for j o)) [
  | inl e ↦
      subst (Tells (emptied b j f ∷ ds)) (sym (emptied_one j f o e))
      (λ id to.
      let same : j ≡ id = some_same j id (sym (waits_tells j o e).0 ∙ to) in
      subst (λ (v : Speculation). (emptied_fate f ≡ taken → some (copies v) (emptied b j f ∷ ds) ≡ true) × (emptied_fate f ≡ discarded → some (throws v) (emptied b j f ∷ ds) ≡ true)) same
      (emptied_tells b f ds j itself))
  | inr e ↦ subst (Tells (emptied b j f ∷ ds)) (sym (emptied_other j f o e)) (tells_more (emptied b j f) ds o tells)
]

all_emptied : (b : By) (j : Speculation) (f : DecideFate) (ds : List Did) (os : List HandedRecord) → IsItself b f → AllByRecursion (Tells ds) os
    → AllByRecursion (Tells (emptied b j f ∷ ds)) (map (once_emptied j f) os)
all_emptied b j f ds [] itself all = tt
all_emptied b j f ds (o ∷ os) itself (one, all) = (one_emptied b j f ds o itself one, all_emptied b j f ds os itself all)

-- where no record is in the buffer none changes
none_waits : (j : Speculation) (o : HandedRecord) (os : List HandedRecord) → length (held_for j (o ∷ os)) ≡ 0 → (waits_for j o ≡ false) × (length (held_for j os) ≡ 0)
none_waits j o os none = elim (either_way (waits_for j o)) [
  | inl t ↦ absurd (more_than_none (length (held_for j os)) (subst (λ (b : Bool). length (if b then o.content ∷ held_for j os else held_for j os) ≡ 0) t none))
  | inr n ↦ (n, subst (λ (b : Bool). length (if b then o.content ∷ held_for j os else held_for j os) ≡ 0) n none)
]
  where
    more_than_none : (n : ℕ) → suc n ≢ 0
    more_than_none n e = cc (e)

all_stay : (b : By) (j : Speculation) (f : DecideFate) (ds : List Did) (os : List HandedRecord) → length (held_for j os) ≡ 0 → AllByRecursion (Tells ds) os
    → AllByRecursion (Tells (emptied b j f ∷ ds)) (map (once_emptied j f) os)
all_stay b j f ds [] none all = tt
all_stay b j f ds (o ∷ os) none (one, all) =
    let apart = none_waits j o os none in
    (subst (Tells (emptied b j f ∷ ds)) (sym (emptied_other j f o apart.0)) (tells_more (emptied b j f) ds o one), all_stay b j f ds os apart.1 all)

abbrev ToldNone : DecideFate → ℕ → Type 0
ToldNone (Thrown n) m = n ≡ m
ToldNone f m = Unit {0}

told_none : (b : By) (j : Speculation) (f : DecideFate) (ds : List Did) → TellNumbers (emptied b j f ∷ ds) → ToldNone f (length (held_for j (handed ds)))
told_none b j (Thrown n) ds numbers = numbers.1
told_none b j (Copied n) ds numbers = tt
told_none b j (Lost n) ds numbers = tt
told_none b j Void ds numbers = tt
told_none b j Stopped ds numbers = tt

all_decided : (b : By) (j : Speculation) (f : DecideFate) (ds : List Did) (os : List HandedRecord) → DecidesItself (emptied b j f) → ToldNone f (length (held_for j os))
    → AllByRecursion (Tells ds) os → AllByRecursion (Tells (emptied b j f ∷ ds)) (map (once_emptied j f) os)
all_decided b j (Copied n) ds os itself told all = all_emptied b j (Copied n) ds os itself all
all_decided b j (Lost n) ds os itself told all = all_emptied b j (Lost n) ds os tt all
all_decided b j (Thrown n) ds os (inl itself) told all = all_emptied b j (Thrown n) ds os itself all
all_decided b j (Thrown n) ds os (inr none) told all = all_stay b j (Thrown n) ds os (sym told ∙ none) all
all_decided b j Void ds os itself told all = all_emptied b j Void ds os tt all
all_decided b j Stopped ds os itself told all = all_emptied b j Stopped ds os tt all

not_yet : (f : SpeculateFate) → (speculated_fate f ≢ taken) × (speculated_fate f ≢ discarded)
not_yet speculate.Kept = (λ e. cc (e), λ e. cc (e))
not_yet speculate.Dropped = (λ e. cc (e), λ e. cc (e))
not_yet speculate.Void = (λ e. cc (e), λ e. cc (e))
not_yet speculate.Stopped = (λ e. cc (e), λ e. cc (e))

all_tell : (ds : List Did) → AllByRecursion DecidesItself ds → TellNumbers ds → AllByRecursion (Tells ds) (handed ds)
all_tell [] all numbers = tt
all_tell (traced r f ∷ ds) (itself, all) numbers = (λ id to. cc (to), all_more (traced r f) ds (handed ds) (all_tell ds all numbers))
all_tell (speculated id r f ∷ ds) (itself, all) numbers =
    (λ j to. (λ e. absurd ((not_yet f).0 e), λ e. absurd ((not_yet f).1 e)), all_more (speculated id r f) ds (handed ds) (all_tell ds all numbers))
all_tell (emptied b id f ∷ ds) (itself, all) numbers = all_decided b id f ds (handed ds) itself (told_none b id f ds numbers) (all_tell ds all numbers.0)

fate_of : (s : PathState) (cut : Bool) (id : Speculation) (ds : List Did) (o : HandedRecord) → (o.fate ≡ taken → some (copies id) ds ≡ true) × (o.fate ≡ discarded → some (throws id) ds ≡ true)
    → Became s cut id ds → FateOf s cut o
fate_of nobodys cut id ds o tells is = tt
fate_of (going i) true id ds o tells is = λ e. true≢false (sym (tells.0 e) ∙ is)
fate_of (going i) false id ds o tells is = (λ e. true≢false (sym (tells.0 e) ∙ is.0), λ e. true≢false (sym (tells.1 e) ∙ is.1))
fate_of (keeping i) true id ds o tells is = λ e. true≢false (sym (tells.0 e) ∙ is)
fate_of (keeping i) false id ds o tells is = λ e. true≢false (sym (tells.1 e) ∙ is)
fate_of kept true id ds o tells is = λ e. true≢false (sym (tells.0 e) ∙ is)
fate_of kept false id ds o tells is = λ e. true≢false (sym (tells.1 e) ∙ is)
fate_of thrown_away cut id ds o tells is = λ e. true≢false (sym (tells.0 e) ∙ is)
fate_of lost cut id ds o tells is = λ e. true≢false (sym (tells.0 e) ∙ is)

each_fate : (book : PathBook) (ps : Places) (ds : List Did) (os : List HandedRecord) → KeepsPaths book ps ds → AllByRecursion (Tells ds) os → HasFates book os
each_fate book ps ds [] keeps all = tt
each_fate book ps ds (o ∷ os) keeps (one, all) = (
  λ id to. fate_of (book.state (book.owner id)) (book.is_cut id) id ds o (one id to) (keeps.became id),
  each_fate book ps ds os keeps all,
)

pub fates : (book : PathBook) (ps : Places) (ds : List Did) → AllByRecursion DecidesItself ds → TellNumbers ds → KeepsPaths book ps ds → HasFates book (handed ds)
fates book ps ds all numbers keeps = each_fate book ps ds (handed ds) keeps (all_tell ds all numbers)

pub one_cpu_fates : (shape : ℕ → Option Shape) (k : Config) (h : List Deed) (book : PathBook) (ps : Places) → k.cpus ≡ 1 → IsLegal shape k h → KeepsPaths book ps (did 0 h)
    → HasFates book (handed (did 0 h))
one_cpu_fates shape k h book ps one legal keeps = fates book ps (did 0 h) (decides_itself shape k h one legal) (numbers_told shape k 0 h legal.0) keeps
