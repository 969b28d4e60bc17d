-- Cited by calls. The headline: three laws of every legal list of deeds.
use Rattle.std.specs.List.{AllByRecursion}
use Rattle.std.specs.Prelude.{ℕ, ◌≡◌, ◌+◌, ◌≤◌, ◌<◌, ◌++◌, true, IsSome, List, if◌then◌else◌, Some}
use Rattle.dspec_deeds.specs.{Fates.is_taken, Fates.is_dropped, Fates.is_discarded, Fates.is_void, Fates.is_waiting, Fates.has_fate, Fates.fate, Fates.fates, Fates.content_of, Fates.destination}
use Rattle.dspec_deeds.specs.{Fates.times, Fates.has_commit, Fates.has_discard, Own.offers, Own.accepted, Own.stream, Own.taken, Reports.report, Reports.records_of_report, Words.Outside.Record}
use Rattle.dspec_deeds.specs.{Words.Outside.Speculation, declared.config.Config.Config, declared.deed.Deed.Deed}

abbrev pub IsPrefix : List Record → List Record → Type 0
IsPrefix xs ys = (rest : List Record) × (ys ≡ xs ++ rest)

-- what the consumer has taken from a CPU, however many batches, is a prefix of what that CPU accepted
abbrev pub PrefixLaw : ℕ → List Deed → Type 0
PrefixLaw c h = (n : ℕ) → IsPrefix (taken n c h) (stream c h)

-- an offered record is accepted once at most; one offered to a speculation only after a commit of that speculation,
-- and never where it was discarded
pub record AcceptanceLaw (c : ℕ) (h : List Deed) : Type 0 where
  pub once : (j : ℕ) → times j (accepted c h) ≤ 1
  pub after_commit : (j : ℕ) (id : Speculation) → destination c j h ≡ Some id → 1 ≤ times j (accepted c h) → has_commit id h ≡ true
  pub not_discarded : (j : ℕ) (id : Speculation) → destination c j h ≡ Some id → has_discard id h ≡ true → times j (accepted c h) ≡ 0

-- every offered record has one fate, those taken are the accepted ones, and the report has the numbers of all fates
pub record FateLaw (k : Config) (c : ℕ) (h : List Deed) : Type 0 where
  pub fated : (j : ℕ) → j < offers c h → IsSome (fate c j h)
  pub accepted_are_taken : (j : ℕ) → times j (accepted c h) ≡ (if has_fate is_taken (fate c j h) then 1 else 0)
  pub contents_are_offered : AllByRecursion (λ o. content_of c o.number h ≡ Some o.content) (accepted c h)
  pub taken_count : fates is_taken c h ≡ (report k c 0 h).accepted
  pub dropped_count : fates is_dropped c h ≡ (report k c 0 h).dropped + (report k c 0 h).specdropped + (report k c 0 h).lost
  pub discarded_count : fates is_discarded c h ≡ (report k c 0 h).discarded
  pub void_count : fates is_void c h ≡ (report k c 0 h).void
  pub held_count : fates is_waiting c h ≡ (report k c 0 h).held
  pub sum : offers c h ≡ records_of_report (report k c 0 h)

pub record Headline (k : Config) (c : ℕ) (h : List Deed) : Type 0 where
  pub prefix : PrefixLaw c h
  pub acceptance : AcceptanceLaw c h
  pub fates : FateLaw k c h
