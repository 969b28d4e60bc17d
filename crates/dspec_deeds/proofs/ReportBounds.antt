-- The counts of a report are at most the calls that the CPU made.
use Rattle.std.proofs.Common.{◌≡◌, ℕ, ◌+◌, ◌≤◌, Bool, true, false, ◌&&◌, ◌==◌, nat_le, if◌then◌else◌, List, [], ◌∷◌, length, Option, sym, subst, arith, true≢false}
use Rattle.std.proofs.lemmas.Bool.Decides.{nat_tests}
use Rattle.dspec_deeds.specs.Words.{Shape, Speculation, Piece, one, block, extent, is_copied, scan, scanned, Offer, contents, offers, is_call, calls, held, active, is_drop, seals, fits_principal}
use Rattle.dspec_deeds.specs.Words.{IsSound, CpuLegal, IsFitting, CopiesOrLoses, IsAllowed, total, one_if, traces_dropped_now, loses_now, stops_now, busy_fails, other_fails, report, CountsWithin}
use Rattle.dspec_deeds.specs.declared.{config.Config.Config, deed.DecideFate.DecideFate, deed.Deed.Deed, deed.Deed.TheVariants.Trace, deed.Deed.TheVariants.Miss, deed.Deed.TheVariants.Commit}
use Rattle.dspec_deeds.specs.declared.{deed.Deed.TheVariants.Settle, deed.Deed.TheVariants.Seal, deed.Deed.TheVariants.Release}
use Rattle.dspec_deeds.specs.declared.deed.TraceFate.TheVariants as traced
use Rattle.dspec_deeds.specs.declared.deed.DecideFate.TheVariants as decided
use Rattle.dspec_deeds.proofs.{Balance.balance, DeedEffects.Accounts, DeedEffects.legal_accounts}

-- 1 where a call of speculation is under way
abbrev pending : ℕ → ℕ
pending n = if n == 0 then 0 else 1

-- a missed slot is the one that the call has come to
abbrev pub IsScanned : Config → List Deed → Deed → Type 0
IsScanned k h (Miss c s busy) = (scan k c h ≡ s) × (1 ≤ s)
IsScanned k h d = Unit {0}

abbrev pub AreScanned : Config → List Deed → Type 0
AreScanned k [] = Unit {0}
AreScanned k (d ∷ h) = AreScanned k h × IsScanned k h d

sound_scanned : (k : Config) (h : List Deed) → IsSound k h → AreScanned k h
sound_scanned k [] s = tt
sound_scanned k (Miss c n busy ∷ h) s = (sound_scanned k h s.0, (s.1.1.0, s.1.1.1))
sound_scanned k (d ∷ h) s = (sound_scanned k h s.0, tt)

-- the records offered and the calls of speculation that failed are at most the calls
calls_cover : (k : Config) (c : ℕ) (h : List Deed) → AreScanned k h → offers c h + busy_fails k c h + other_fails k c h + pending (scan k c h) ≤ calls c h
calls_cover k c [] s = omega arith
calls_cover k c (d ∷ h) s = grind (arith, nat_tests, calls_cover k c h s.0)

-- what is answered Stopped is a call
stop_covers : (c : ℕ) (d : Deed) → stops_now c d ≤ (if is_call c d then 1 else 0)
stop_covers c d = grind arith

-- at most all calls are answered Stopped
pub stops_within : (c : ℕ) (h : List Deed) → total (stops_now c) h ≤ calls c h
stops_within c [] = omega arith
stops_within c (d ∷ h) = omega (arith, stops_within c h, stop_covers c d)

module _ (shape : ℕ → Option Shape) (k : Config) where
  -- legal in the own part, the places of Seals apart
  abbrev pub IsFitted : List Deed → Deed → Type 0
  IsFitted h (Release s) = Unit {0}
  IsFitted h d = CpuLegal shape k h d

  abbrev pub AreFitted : List Deed → Type 0
  AreFitted [] = Unit {0}
  AreFitted (d ∷ h) = AreFitted h × IsFitted h d

  pub fitting_fitted : (h : List Deed) → IsFitting shape k h → AreFitted h
  fitting_fitted [] s = tt
  fitting_fitted (d ∷ h) s = grind (arith, nat_tests, fitting_fitted h s.0)

  -- the CPU's active buffer is never longer than it may be
  abbrev Within : ℕ → List Deed → Type 0
  Within c h = nat_le (extent shape (active c h)) k.bufsize ≡ true

  -- a buffer that takes a piece that fits
  kept_within : (c a : ℕ) (h : List Deed) (p : Piece) (b : Bool) → b ≡ fits_principal shape k a p h → Within c h
      → nat_le (extent shape (if b && (c == a) then p ∷ active c h else active c h)) k.bufsize ≡ true
  kept_within c a h p false e w = w
  kept_within c a h p true e w = grind (arith, nat_tests)

  -- a buffer that takes a block that fits
  copied_within : (c a : ℕ) (id : Speculation) (f : DecideFate) (h : List Deed) → (is_copied f ≡ true → CopiesOrLoses shape k a h (held a id h) f) → Within c h
      → nat_le (extent shape (if is_copied f && (c == a) then block (contents (held c id h)) ∷ active c h else active c h)) k.bufsize ≡ true
  copied_within c a id f h o w = grind arith

  -- an active buffer is within its size
  pub active_within : (c : ℕ) (h : List Deed) → AreFitted h → Within c h
  active_within c [] s = grind (arith, nat_tests)
  active_within c (Trace a r traced.Kept ∷ h) s = kept_within c a h (one r) true s.1 (active_within c h s.0)
  active_within c (Trace a r traced.Dropped ∷ h) s = active_within c h s.0
  active_within c (Trace a r traced.Stopped ∷ h) s = active_within c h s.0
  active_within c (Commit a id (decided.Copied n) ∷ h) s = copied_within c a id (decided.Copied n) h (λ e. s.1) (active_within c h s.0)
  active_within c (Settle a id (decided.Copied n) ∷ h) s = copied_within c a id (decided.Copied n) h (λ e. s.1) (active_within c h s.0)
  active_within c (Commit a id f ∷ h) s = active_within c h s.0
  active_within c (Settle a id f ∷ h) s = active_within c h s.0
  active_within c (Seal a ∷ h) s = grind (arith, nat_tests, active_within c h s.0)
  active_within c (d ∷ h) s = active_within c h s.0

  -- an empty buffer always fits, so a lost one had a record
  lost_some : (c : ℕ) (id : Speculation) (n : ℕ) (h : List Deed) → AreFitted h → CopiesOrLoses shape k c h (held c id h) (decided.Lost n) → 1 ≤ n
  lost_some c id n h s o = step (held c id h) o.0 o.1
    where
      step : (os : List Offer) → n ≡ length os → false ≡ fits_principal shape k c (block (contents os)) h → 1 ≤ n
      step [] e f = absurd (true≢false (sym (subst (λ b. false ≡ (b && true)) (active_within c h s) f)))
      step (o ∷ os) e f = omega arith

  -- a refused reservation was of a record
  drop_loses : (c : ℕ) (d : Deed) (h : List Deed) → AreFitted (d ∷ h) → one_if (is_drop c d) ≤ traces_dropped_now c d + loses_now c d
  drop_loses c d h h1 = grind (arith, nat_tests, lost_some)

  -- each refused reservation was of a record at least
  pub drops_lose : (c : ℕ) (h : List Deed) → AreFitted h → total (λ d. one_if (is_drop c d)) h ≤ total (traces_dropped_now c) h + total (loses_now c) h
  drops_lose c [] s = omega arith
  drops_lose c (d ∷ h) s = omega (arith, drops_lose c h s.0, drop_loses c d h s)

  -- at most so many batches are sealed as calls may be made
  pub seals_within : (c : ℕ) (h : List Deed) → AreFitted h → seals c h ≤ k.max_calls
  seals_within c [] s = omega arith
  seals_within c (Seal a ∷ h) s = grind (arith, nat_tests, seals_within c h s.0)
  seals_within c (d ∷ h) s = let before = seals_within c h s.0 in omega arith

-- the counts are at most the calls
pub counts_within : (shape : ℕ → Option Shape) (k : Config) (c worn : ℕ) (h : List Deed) → Accounts c h → AreScanned k h → AreFitted shape k h → CountsWithin (calls c h) (report k c worn h)
counts_within shape k c worn h accounts scanned fitted = grind (arith, nat_tests, calls_cover k c h scanned, balance k c worn h accounts, drops_lose shape k c h fitted, stops_within c h)

pub report_within : (shape : ℕ → Option Shape) (k : Config) (c worn : ℕ) (h : List Deed) → IsAllowed shape k h → CountsWithin (calls c h) (report k c worn h)
report_within shape k c worn h l = counts_within shape k c worn h (legal_accounts shape k c h l) (sound_scanned k h l.0) (fitting_fitted shape k h l.1)
