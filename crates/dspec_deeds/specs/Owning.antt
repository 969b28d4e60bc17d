-- Cited by calls. The own part of what makes a list legal, stated over one CPU's list alone. The latest deed is at the head.
use Rattle.std.specs.Prelude.{ℕ, ◌≡◌, ◌==◌, Bool, true, false, List, [], ◌∷◌, Option}
use Rattle.dspec_deeds.specs.{History.is_among, History.callers, History.settled, History.ack, History.scan, Legal.CpuLegal, Legal.sealed_last, Marks.mark, Own.offers, Own.held, Own.dropped_in}
use Rattle.dspec_deeds.specs.{Own.accepted, Own.active, Own.full, Own.growing, Own.batches, Own.seals, Own.calls, Reports.missed_busy, Reports.speculative, Reports.report, Words.Outside.Shape}
use Rattle.dspec_deeds.specs.{Words.Outside.Speculation, declared.config.Config.Config, declared.deed.Deed.Deed, declared.deed.Deed.TheVariants.Trace, declared.deed.Deed.TheVariants.Scan}
use Rattle.dspec_deeds.specs.{declared.deed.Deed.TheVariants.Opened, declared.deed.Deed.TheVariants.Miss, declared.deed.Deed.TheVariants.Speculate, declared.deed.Deed.TheVariants.Commit}
use Rattle.dspec_deeds.specs.{declared.deed.Deed.TheVariants.Discard, declared.deed.Deed.TheVariants.Settle, declared.deed.Deed.TheVariants.Seal, declared.deed.Deed.TheVariants.Release}
use Rattle.dspec_deeds.specs.{declared.deed.Deed.TheVariants.Halt}

-- the deed names the CPU, or is a Release
abbrev pub is_of : ℕ → Deed → Bool
is_of c (Trace a r f) = c == a
is_of c (Scan a running) = c == a
is_of c (Opened a id) = c == a
is_of c (Miss a s busy) = c == a
is_of c (Speculate a id r f) = c == a
is_of c (Commit a id f) = c == a
is_of c (Discard a id f) = c == a
is_of c (Settle a id f) = c == a
is_of c (Seal a) = c == a
is_of c (Release s) = true
is_of c Halt = false

module _ (shape : ℕ → Option Shape) (k : Config) where
  -- in a CPU's own list each Release is its own, and comes with no Seal directly before it
  abbrev pub CpuRow : List Deed → Deed → Type 0
  CpuRow p (Release s) = sealed_last p ≡ false
  CpuRow p d = CpuLegal shape k p d

  -- a CPU's own list, legal in the own part
  abbrev pub IsOwn : ℕ → List Deed → Type 0
  IsOwn c [] = Unit {0}
  IsOwn c (d ∷ p) = IsOwn c p × (is_of c d ≡ true) × CpuRow p d

-- what is read off a CPU's own deeds, its Seals apart, is the same in both lists
pub record ReadsApart (k : Config) (c : ℕ) (g h : List Deed) : Type 0 where
  pub scanning : scan k c g ≡ scan k c h
  pub offering : offers c g ≡ offers c h
  pub calling : calls c g ≡ calls c h
  pub buffers : (id : Speculation) → held c id g ≡ held c id h
  pub dropping : (id : Speculation) → dropped_in c id g ≡ dropped_in c id h
  pub taking : accepted c g ≡ accepted c h
  pub closing : full c g ≡ full c h
  pub called : (id : Speculation) → is_among c (callers id g) ≡ is_among c (callers id h)
  pub settling : (id : Speculation) → settled c id g ≡ settled c id h
  pub acks : (s : ℕ) → ack c s g ≡ ack c s h
  pub marking : (s : ℕ) → mark c s g ≡ mark c s h
  pub missing : missed_busy c g ≡ missed_busy c h
  pub spoken : speculative c g ≡ speculative c h
  pub reporting : (worn : ℕ) → report k c worn g ≡ report k c worn h

-- and with its Seals
pub record ReadsAlike (k : Config) (c : ℕ) (g h : List Deed) : Type 0 where
  pub apart : ReadsApart k c g h
  pub sealing : seals c g ≡ seals c h
  pub principal : active c g ≡ active c h
  pub filling : growing c g ≡ growing c h
  pub sealed : batches c g ≡ batches c h
