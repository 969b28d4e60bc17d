-- Where the claim is true of a row, it is the row at the place that is looked at.
use Rattle.std.proofs.Common.{◌≡◌, ◌<◌, ◌+◌, ◌-◌, ◌%◌, ◌^◌, ℕ, zero, suc, List, [], get_or, take, Option, Some, None, refl, sym, ◌∙◌, ap, arith}
use Rattle.std.proofs.lemmas.List.{get_or_default}
use Rattle.dspec_record.specs.{Words.IsFilled, Words.claimed, Words.words_in, declared.enabling.Enablings.TheInside.Inside, declared.field.Field.Field}
use Rattle.dspec_record.proofs.Claiming.{claimed-some, claimed-place}
use Rattle.dspec_record.proofs.enabling.Enablings.claimed_row.Goals.{then-self-place-via-then-self-place, then-self-place-via-else-self-place+then-words-count}
use Rattle.dspec_record.proofs.enabling.Enablings.claimed_row.Goals.{then-self-place-via-else-self-place+else-words-count+then-count-eq0}
use Rattle.dspec_record.proofs.enabling.Enablings.claimed_row.Goals as goal

abbrev place_of : ℕ → ℕ
place_of claim = (claim + (2 ^ 64 - 1)) % 2 ^ 64 % 64

below : (claim : ℕ) → place_of claim < 64
below claim = omega arith

-- a claim that is true of nothing at its place is true of no row
untrue : (a : Inside) (claim n : ℕ) → IsFilled a → claim < 2 ^ 64
    → (get_or a.claims (place_of claim) 0 ≡ claim → words_in (get_or a.rows (place_of claim) []) ≡ n → 0 < n → ⊥)
    → (found : Option (List Field)) → claimed (take a.count a.rows) claim n ≡ found → None ≡ claimed (take a.count a.rows) claim n
untrue a claim n is small fails None found = sym found
untrue a claim n is small fails (Some fs) found =
    let at = claimed-place a.rows a.claims a.count claim n (place_of claim) is.places is.few is.rest is.claims small fs found refl in
    absurd (fails at.0 at.1 at.2)

-- a row is read whatever stands in the place of one that isn't there
row-at : (a : Inside) (claim : ℕ) (other : List Field) → IsFilled a → get_or a.rows (place_of claim) other ≡ get_or a.rows (place_of claim) []
row-at a claim other is =
    let none : List Field = [] in
    get_or_default a.rows (place_of claim) other none (omega (arith, below claim, is.places))

pub returns-then-self-place : goal.returns-then-self-place
returns-then-self-place c =
    let a = c.self.inside in
    let n : ℕ = c.args.count in
    let claim : ℕ = c.args.claim in
    let none : None ≡ claimed (take a.count a.rows) claim n =
    untrue a claim n c.self.invariant c.ranges.claim.fits
    (elim c.then-self-place.branch [
      | then-self-place-via-then-self-place w ↦ λ is words some. w.if-self-place.true is
      | then-self-place-via-else-self-place+then-words-count w ↦
          λ is words some. w.if-words-count.true (w.words.ensures ∙ ap words_in (row-at a claim c.index-self-place.result c.self.invariant) ∙ words)
      | then-self-place-via-else-self-place+else-words-count+then-count-eq0 w ↦ λ is words some. absurd (omega (arith, some, w.if-count-eq0.true))
    ]) (claimed (take a.count a.rows) claim n) refl in
    none ∙ ap (λ e. claimed e.rows claim n) c.self.view_is

pub returns : goal.returns
returns c =
    let a = c.self.inside in
    let row = row-at a c.args.claim c.index-self-place.result c.self.invariant in
    ap Some row
    ∙ sym (claimed-some a.rows a.claims a.count c.args.claim c.args.count (place_of c.args.claim) c.self.invariant.places c.self.invariant.few c.self.invariant.rest c.self.invariant.claims
    (below c.args.claim) c.if-self-place.false (ap words_in (sym row) ∙ sym c.words.ensures ∙ c.if-words-count.false) (positive c.args.count c.if-count-eq0.false))
    ∙ ap (λ e. claimed e.rows c.args.claim c.args.count) c.self.view_is
  where
    positive : (n : ℕ) → (n ≡ 0 → ⊥) → 0 < n
    positive zero none = absurd (none refl)
    positive (suc n) none = omega arith
