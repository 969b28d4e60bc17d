-- Cited by calls. The settlements of the close, told of one CPU's own list and the words alone.
use Rattle.std.specs.Prelude.{ℕ, zero, suc, ◌≡◌, ◌<◌, List, [], ◌∷◌, false, Option, if◌then◌else◌}
use Rattle.dspec_interleaving.specs.Words.Outside.{Shape, Speculation, settle_at, SlotState, part, ack, word_at, verdict, is_undecided, Headline, IsLegal, held, settle_fate, is_granted}
use Rattle.dspec_interleaving.specs.Words.Outside.{WaitsUndecided, ReadsAlike, Config, Cpu, Consumer, Deed, Settle}

module _ (shape : ℕ → Option Shape) (k : Config) (words : ℕ → SlotState) (c : ℕ) where
  -- what the CPU has still to settle in a slot
  abbrev pub own_closed_slot : ℕ → List Deed → List Deed
  own_closed_slot s p =
      if is_granted (settle_at (words s) (ack c s p)) then
      Settle c record { issue = (words s).issue; slot = s } (settle_fate shape k c p record { issue = (words s).issue; slot = s } (words s).code) ∷ p
      else p

  -- in the first n slots, upwards
  abbrev pub own_closed : ℕ → List Deed → List Deed
  own_closed zero p = p
  own_closed (suc n) p = own_closed_slot (suc n) (own_closed n p)

-- the close of a session: a legal list whose part of each CPU is its list, then the settlements of the close, whose part of
-- the consumer is the consumer's, in which nothing decided is held, and what waits is undecided
pub record IsCloseOf (shape : ℕ → Option Shape) (k : Config) (p : ℕ → List Deed) (h g : List Deed) : Type 0 where
  pub legal : IsLegal shape k g
  pub own : (c : ℕ) → c < k.cpus → part (Cpu c) g ≡ own_closed shape k (λ s. word_at s h) c k.nspec (p c)
  pub consumer : part Consumer g ≡ part Consumer h
  pub none_held : (c : ℕ) (id : Speculation) → c < k.cpus → is_undecided (verdict id g) ≡ false → held c id g ≡ []
  pub waits : WaitsUndecided k g
  pub reads : (c : ℕ) → c < k.cpus → ReadsAlike k c (own_closed shape k (λ s. word_at s h) c k.nspec (p c)) g
  pub headline : (c : ℕ) → c < k.cpus → Headline k c g
