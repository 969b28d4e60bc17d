-- Cited by calls. What is promised of every state of a play.
use Rattle.std.specs.Prelude.{ℕ, Option}
use Rattle.dspec_interleaving.specs.{Coherent.PlayState, Coherent.IsCoherent, Words.Outside.Shape, Words.Outside.Headline}

-- the state is coherent, so its list of deeds is legal and the laws of plays go on from it; and the headline is true of
-- that list for each CPU
pub record HasHeadline (shape : ℕ → Option Shape) (st : PlayState) : Type 0 where
  pub coherent : IsCoherent shape st
  pub headline : (c : ℕ) → Headline st.config c st.deeds
