-- A CPU's own list accounts for its records: its report balances, each count is at most the calls, and each record has one fate.
use Rattle.std.proofs.Common.{arith, ◌≡◌, ℕ, true, false, if◌then◌else◌, List, [], ◌∷◌, Option, refl, sym, ◌∙◌, subst, ⊎_elim}
use Rattle.std.proofs.lemmas.Bool.Decides.{nat_tests}
use Rattle.dspec_deeds.specs.Words.{Shape, part, calls, report, CountsWithin, FateLaw, IsSound, is_seal, CpuRow, IsOwn, bare}
use Rattle.dspec_deeds.specs.declared.{calls.Actor.TheVariants.Cpu, config.Config.Config, deed.Deed.Deed, deed.Deed.TheVariants.Miss, deed.Deed.TheVariants.Release}
use Rattle.dspec_deeds.proofs.{BareReads.seal_is, DeedEffects.effect, DeedEffects.IsDecisive, DeedEffects.decisive, DeedEffects.Accounts, DeedOffers.Effect, DeedOffers.idle}
use Rattle.dspec_deeds.proofs.{Headlines.accounts_fate_law, OwnReads.reads, OwnReads.apart_bare, ReportBounds.counts_within, ReportBounds.IsScanned, ReportBounds.AreScanned, ReportBounds.IsFitted}
use Rattle.dspec_deeds.proofs.{ReportBounds.AreFitted, TestLemmas.either_way, TestLemmas.same_number}

-- rows that rest on the deed and on the call of speculation that is under way
abbrev IsDue : Config → List Deed → Deed → Type 0
IsDue k h d = IsDecisive d × IsScanned k h d

abbrev AreDue : Config → List Deed → Type 0
AreDue k [] = Unit {0}
AreDue k (d ∷ h) = AreDue k h × IsDue k h d

-- of a list that is legal in its common part
sound_due : (k : Config) (c : ℕ) (h : List Deed) → IsSound k h → AreDue k (part (Cpu c) h)
sound_due k c [] s = tt
sound_due k c (d ∷ h) s = grind (arith, nat_tests, sound_due k c h s.0, decisive, IsScanned, same_number, reads)

-- and with Seals put in
bare_due : (k : Config) (p : List Deed) → AreDue k (bare p) → AreDue k p
bare_due k [] due = tt
bare_due k (d ∷ p) due = ⊎_elim
    (λ (t : is_seal d ≡ true).
    let s = seal_is d t in
    (bare_due k p (subst (λ b. AreDue k (if b then bare p else d ∷ bare p)) t due), subst (λ x. IsDue k p x) (sym s.1) (tt, tt)))
    (λ (f : is_seal d ≡ false).
    let now : AreDue k (d ∷ bare p) = subst (λ b. AreDue k (if b then bare p else d ∷ bare p)) f due in
    (bare_due k p now.0, (now.1.0, missed d now.1.1)))
    (either_way (is_seal d))
  where
    missed : (d : Deed) → IsScanned k (bare p) d → IsScanned k p d
    missed (Miss a n busy) e = ((apart_bare k a p).scanning ∙ e.0, e.1)
    missed d e = tt

module _ (shape : ℕ → Option Shape) (k : Config) where
  own_effect : (c : ℕ) (d : Deed) (p : List Deed) → IsDecisive d → CpuRow shape k p d → Effect c d p
  own_effect c (Release s) p due row = idle
      (record { offered = refl; empty = λ id. refl; holds = λ id. refl; accepted = refl; added = refl; counts = record { accepts = refl; drops = refl; discards = refl; voids = refl } })
  own_effect c d p due row = effect shape k c d p due row

  own_accounts : (c : ℕ) (p : List Deed) → IsOwn shape k c p → AreDue k p → Accounts c p
  own_accounts c [] own due = tt
  own_accounts c (d ∷ p) own due = (own_accounts c p own.0 due.0, own_effect c d p due.1.0 own.2)

  scanned : (p : List Deed) → AreDue k p → AreScanned k p
  scanned [] due = tt
  scanned (d ∷ p) due = (scanned p due.0, due.1.1)

  fitted_row : (d : Deed) (p : List Deed) → CpuRow shape k p d → IsFitted shape k p d
  fitted_row (Release s) p row = tt
  fitted_row d p row = row

  own_fitted : (c : ℕ) (p : List Deed) → IsOwn shape k c p → AreFitted shape k p
  own_fitted c [] own = tt
  own_fitted c (d ∷ p) own = (own_fitted c p own.0, fitted_row d p own.2)

  -- what a CPU's own list says of its report
  pub own_report : (c worn : ℕ) (h p : List Deed) → IsSound k h → IsOwn shape k c p → bare p ≡ part (Cpu c) h → CountsWithin (calls c p) (report k c worn p) × FateLaw k c p
  own_report c worn h p sound own is =
      let due = bare_due k p (subst (AreDue k) (sym is) (sound_due k c h sound)) in
      let accounts = own_accounts c p own due in
      (counts_within shape k c worn p accounts (scanned p due) (own_fitted c p own), accounts_fate_law k c p accounts)
