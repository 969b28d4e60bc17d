-- Each offered record is in one count of its CPU's report.
use Rattle.std.proofs.Common.{◌≡◌, ℕ, ◌+◌, false, if◌then◌else◌, List, [], ◌∷◌, ◌++◌, length, refl, arith}
use Rattle.dspec_deeds.specs.{Fates.discarded, Words.Offer, Words.offers, Words.held, Words.Spoken, Words.speculative, Words.accepts_now, Words.traces_dropped_now, Words.specdrops_now}
use Rattle.dspec_deeds.specs.{Words.loses_now, Words.discards_now, Words.voids_now, Words.report, Words.records_of_report, Words.Fate, Words.taken, Words.dropped, Words.void, Words.waiting}
use Rattle.dspec_deeds.specs.{Words.is_waiting, declared.config.Config.Config, declared.deed.Deed.Deed}
use Rattle.dspec_deeds.proofs.{DeedEffects.Accounts, DeedOffers.spoken_as, DeedOffers.next_offer, DeedOffers.Counts, DeedOffers.Effect, DeedOffers.idle, DeedOffers.offering, DeedOffers.emptying}
use Rattle.dspec_deeds.proofs.{SpokenRecords.spoken_idle, SpokenRecords.spoken_offered, SpokenRecords.spoken_fewer}

-- what the counts of a deed add up to
counted : (c : ℕ) (d : Deed) (f : Fate) (n : ℕ) → Counts c d f n
    → accepts_now c d + traces_dropped_now c d + specdrops_now c d + loses_now c d + discards_now c d + voids_now c d + (if is_waiting f then n else 0) ≡ n
counted c d f n h1 = grind arith

-- one more speculative record, if it waits
spoken_more : (f : Fate) (o : Offer) (ps : List Spoken) → length (spoken_as f o ++ ps) ≡ length ps + (if is_waiting f then 1 else 0)
spoken_more taken o ps = omega arith
spoken_more dropped o ps = omega arith
spoken_more discarded o ps = omega arith
spoken_more void o ps = omega arith
spoken_more (waiting id) o ps = omega arith

-- the counts of records add up to those offered, at any number of worn calls
pub balance : (k : Config) (c worn : ℕ) (h : List Deed) → Accounts c h → offers c h ≡ records_of_report (report k c worn h)
balance k c worn [] l = refl
balance k c worn (d ∷ h) l = step (l.1) (balance k c worn h l.0)
  where
    step : Effect c d h → offers c h ≡ records_of_report (report k c worn h) → offers c (d ∷ h) ≡ records_of_report (report k c worn (d ∷ h))
    step (idle i) e =
        let n = counted c d taken 0 i.counts in
        rw (i.offered, spoken_idle c d h i) (omega arith)
    step (offering r f o) e =
        let n = counted c d f 1 o.counts in
        let m = spoken_more f (next_offer c r h) (speculative c h) in
        rw (o.offered, spoken_offered c d h r f o) (omega arith)
    step (emptying i f m) e =
        let n = counted c d f (length (held c i h)) m.counts in
        let less = spoken_fewer c d h i f l.0 m in
        let gone = m.gone in
        rw m.offered (last gone n less)
      where
        last : is_waiting f ≡ false → accepts_now c d + traces_dropped_now c d + specdrops_now c d + loses_now c d + discards_now c d + voids_now c d +
            (if is_waiting f then length (held c i h) else 0) ≡ length (held c i h)
            → length (speculative c (d ∷ h)) + length (held c i h) ≡ length (speculative c h) → offers c h + 0 ≡ records_of_report (report k c worn (d ∷ h))
        last g n less = let all : accepts_now c d + traces_dropped_now c d + specdrops_now c d + loses_now c d + discards_now c d + voids_now c d + 0 ≡ length (held c i h) = rw g at n in omega arith
