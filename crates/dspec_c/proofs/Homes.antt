-- What was handed out, a CPU or the consumer, stays what went through its ring, and so does what comes home.
use Rattle.std.proofs.Common.{arith, ◌≡◌, ℕ, ◌<◌, Global, List, [], ◌∷◌, ◌++◌, Bool, false, Option, Some, None, refl, sym, ap, ◌∙◌, subst}
use Rattle.std.proofs.lemmas.Bool.Decides.{nat_tests}
use Rattle.std.specs.Prelude.{IfSome, slice_get}
use Rattle.core.specs.Option.{is_some}
use Rattle.rtrb.specs.{Ring.known_free, Ring.sent, declared.producer.Producer.Producer}
use Rattle.dspec_c.specs.Words.{EnabledRows, words_of, Belongs, CpuIdentity, IsCallable, identity, AtHome, CpuStay, IsDesk, IsAtHomeOf, IsOut, IsSameAsAll, IsSameSide, IsUnused, LeavesPlace}
use Rattle.dspec_c.specs.Words.{CpuSide, cpu_side_of, Cpu, Shared}
use Rattle.dspec_c.proofs.Options.{if_none, if_true, or_this, the_none, unless}

pub allowed : {A : Type 0} (Same : A → A → Type 0) (sent : List A) (a : A) → IsOut Same sent a → IsSameAsAll Same sent a
allowed Same sent a is = subst (λ xs. IsSameAsAll Same xs a) (sym is.was) (is.same, tt)

-- there is one first
pub one_first : {A : Type 0} (received : List A) (a b : A) → slice_get received 0 ≡ Some a → slice_get received 0 ≡ Some b → a ≡ b
one_first received a b e f = ap (λ (o : Option _). or_this a o) (sym e ∙ f)

-- the way home, whatever its rule is
abbrev pub WayOf : Type 0 → Type 0 → Type 0
WayOf A R = Producer A Global R

-- a place, whatever its way out is
module _ {A B R : Type 0} (Same : A → A → Type 0) (Home : A → B → Type 0) where
  abbrev pub IsPlace : List A → Option (WayOf A R) → Option B → Type 0
  IsPlace received way inside =
      (first : A) × (slice_get received 0 ≡ Some first) × IsDesk Home first received inside × IfSome way (λ w. IsUnused first received (sent w) (known_free w) inside)

  pub opened : (received : List A) (w : WayOf A R) (a : A) (home : B) → received ≡ a ∷ [] → sent w ≡ a ∷ [] → 0 < known_free w → Home a home → IsPlace received (Some w) (Some home)
  opened received w a home e f room is = (a, ap (λ xs. slice_get xs 0) e, record { out = tt; same = is }, record { came = e; went = f; room = room; is = refl })

  -- while nothing is inside, nothing waits
  none_waits : (first : A) (received : List A) (way : Option (WayOf A R)) (P : WayOf A R → Type 0) → IfSome way (λ w. IsUnused first received (sent w) (known_free w) (the_none B)) → IfSome way P
  none_waits first received None P is = tt
  none_waits first received (Some w) P is = absurd (subst (λ y. unless y) is.is tt)

  pub came : (a : A) (home : B) (received new : List A) (way : Option (WayOf A R)) (inside : Option B) → IsPlace received way inside → false ≡ is_some inside
      → new ≡ received ++ a ∷ [] → IsSameAsAll Same received a → ((first : A) → Same first a → Home first home) → IsPlace new way (Some home)
  came a home received new way None is none e all then = let first = is.0 in let was = is.2.out in (
    first,
    ap (λ xs. slice_get xs 0) e ∙ ap (λ xs. slice_get (xs ++ a ∷ []) 0) was,
    record { out = tt; same = then first (subst (λ xs. IsSameAsAll Same xs a) was all).0 },
    none_waits first received way _ is.3,
  )
  came a home received new way (Some x) is none e all then = absurd (subst (λ y. unless y) none tt)

  pub stayed : (received new : List A) (way : Option (WayOf A R)) (inside : Option B) → IsPlace received way inside → new ≡ received → IsPlace new way inside
  stayed received new way inside is e = subst (λ xs. IsPlace xs way inside) (sym e) is

  -- and once what waited is handed out
  left_empty : (received : List A) (way : Option (WayOf A R)) (w : WayOf A R) (inside : Option B) → IsPlace received way inside → way ≡ Some w → IsPlace received None None
  left_empty received None w inside is at = absurd (subst (λ (o : Option (WayOf A R)). if_none o) at tt)
  left_empty received (Some x) w inside is at = (is.0, is.1, record { out = is.3.came; same = tt }, tt)

  pub left_so : (received : List A) (way after : Option (WayOf A R)) (w : WayOf A R) (inside left : Option B) → IsPlace received way inside → way ≡ Some w → after ≡ None → left ≡ None
      → IsPlace received after left
  left_so received way after w inside left is at e f =
      subst (λ (o : Option (WayOf A R)). IsPlace received o left) (sym e) (subst (λ (o : Option B). IsPlace received None o) (sym f) (left_empty received way w inside is at))

  -- where nothing waited
  pub not_waiting : (received : List A) (way after : Option (WayOf A R)) (inside : Option B) → IsPlace received way inside → after ≡ None → IsPlace received after inside
  not_waiting received way after inside is e = subst (λ (o : Option (WayOf A R)). IsPlace received o inside) (sym e) (is.0, is.1, is.2, tt)

  -- and once it went through another ring, to leave by that
  pub left_again : (received : List A) (way : Option (WayOf A R)) (inside : Option B) (side : A) → received ≡ side ∷ [] → is_some way ≡ false → inside ≡ None → IsPlace received way inside
  left_again received None inside side e none f =
      subst (λ (o : Option B). IsPlace received None o) (sym f) (side, ap (λ xs. slice_get xs 0) e, record { out = e; same = tt }, tt)
  left_again received (Some w) inside side e none f = absurd (subst (λ (t : Bool). if_true t) none tt)

  -- what waits is inside, is the one that went through, and there is room on the way
  pub is_unused : (received : List A) (way : Option (WayOf A R)) (w : WayOf A R) (inside : Option B) → (is : IsPlace received way inside) → way ≡ Some w
      → IsUnused is.0 received (sent w) (known_free w) inside
  is_unused received None w inside is at = absurd (subst (λ (o : Option (WayOf A R)). if_none o) at tt)
  is_unused received (Some x) w inside is at =
      subst (λ (y : WayOf A R). IsUnused is.0 received (sent y) (known_free y) inside) (ap (λ (o : Option (WayOf A R)). or_this x o) at) is.3

-- what is inside is the same as the first
pub inside_same : {A B : Type 0} (Home : A → B → Type 0) (first : A) (received : List A) (inside : Option B) (x : B) → IsDesk Home first received inside → inside ≡ Some x → Home first x
inside_same Home first received None x is at = absurd (subst (λ (o : Option _). if_none o) at tt)
inside_same Home first received (Some y) x is at = subst (λ z. Home first z) (ap (λ (o : Option _). or_this y o) at) is.same

-- what a call leaves of a CPU that is out
pub stays_out : (sent : List CpuSide) (shared : Shared) (old new : Cpu EnabledRows) (n m free : ℕ)
    → IsCallable shared old × IsOut IsSameSide sent (cpu_side_of shared old n) × (0 < free)
    → identity new ≡ identity old → IsCallable shared new × IsOut IsSameSide sent (cpu_side_of shared new m) × (0 < free)
stays_out sent shared old new n m free is same = (
  subst (λ (i : CpuIdentity EnabledRows). Belongs (words_of shared) i) (sym same) is.0,
  record { first = is.1.first; was = is.1.was; same = record { shared = is.1.same.shared; cpu = same ∙ is.1.same.cpu } },
  is.2,
)

-- the CPU inside is the first
pub same_there : (first : CpuSide) (received : List CpuSide) (inside : Option AtHome) (x : AtHome) → IsDesk IsAtHomeOf first received inside → inside ≡ Some x → identity x.cpu ≡ identity first.cpu
same_there first received inside x is at = inside_same IsAtHomeOf first received inside x is at

-- those can call it who share what it went through with
pub callable_so : (shared : Shared) (first : CpuSide) (x : Cpu EnabledRows) → IsCallable shared first.cpu → identity x ≡ identity first.cpu → IsCallable shared x
callable_so shared first x can same = subst (λ (i : CpuIdentity EnabledRows). Belongs (words_of shared) i) (sym same) can

pub goes_out : (went : List CpuSide) (first side : CpuSide) → went ≡ first ∷ [] → side.shared ≡ first.shared → identity side.cpu ≡ identity first.cpu → IsOut IsSameSide went side
goes_out went first side e f g = record { first = first; was = e; same = record { shared = f; cpu = g } }

-- a CPU that was inside leaves its place, which is that CPU's from then on as it was
pub leaves_so : (shared : Shared) (old new : CpuStay) (was now out : CpuSide) (cpu : AtHome) → old.first ≡ Some was → old.inside ≡ Some cpu → identity cpu.cpu ≡ identity was.cpu
    → out ≡ record { shared = shared; cpu = cpu.cpu; refused = cpu.refused } → new.first ≡ Some now → IsSameSide now out → new.inside ≡ None → new.waits ≡ false → LeavesPlace shared old out new
leaves_so shared old new was now out cpu at inside same is stays belongs gone waits = grind (arith, nat_tests, or_this)
