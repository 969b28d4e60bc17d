-- The headline, of every legal list of deeds.
use Rattle.std.proofs.{Common.arith, Common.ℕ, Common.List, Common.Option, lemmas.Bool.Decides.nat_tests}
use Rattle.dspec_deeds.specs.{Words.Shape, Words.IsAllowed, Words.FateLaw, Words.Headline, declared.config.Config.Config, declared.deed.Deed.Deed}
use Rattle.dspec_deeds.proofs.{Acceptance.acceptance_law, Balance.balance, DeedEffects.Accounts, DeedEffects.legal_accounts, FateCounts.taken_count, FateCounts.dropped_count}
use Rattle.dspec_deeds.proofs.{FateCounts.discarded_count, FateCounts.void_count, HeldOffers.fate_within, HeldOffers.times_taken, OfferedContents.accepted_contents, Prefixes.prefix_law}
use Rattle.dspec_deeds.proofs.{SpokenRecords.held_count}

-- the fate law, of every list whose deeds have their effects for the CPU
pub accounts_fate_law : (k : Config) (c : ℕ) (h : List Deed) → Accounts c h → FateLaw k c h
accounts_fate_law k c h a = record {
  fated = λ j lt. fate_within c j h lt;
  accepted_are_taken = λ j. times_taken c j h a;
  contents_are_offered = accepted_contents c h a;
  taken_count = taken_count c h a;
  dropped_count = dropped_count c h a;
  discarded_count = discarded_count c h a;
  void_count = void_count c h a;
  held_count = held_count c h a;
  sum = balance k c 0 h a;
}

-- the fate law, of every legal list
pub fate_law : (shape : ℕ → Option Shape) (k : Config) (c : ℕ) (h : List Deed) → IsAllowed shape k h → FateLaw k c h
fate_law shape k c h l = accounts_fate_law k c h (legal_accounts shape k c h l)

-- all three laws
pub headline : (shape : ℕ → Option Shape) (k : Config) (c : ℕ) (h : List Deed) → IsAllowed shape k h → Headline k c h
headline shape k c h l = grind (arith, nat_tests, prefix_law c h, acceptance_law shape k c h l, fate_law shape k c h l)
