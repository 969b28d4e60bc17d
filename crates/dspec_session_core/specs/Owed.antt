-- Cited by calls. What each CPU owes where a session is closed, by decisions and settlements.
use Rattle.std.specs.Prelude.{ℕ, zero, suc, not, ◌&&◌, Bool, List, [], ◌∷◌, ◌++◌, length, Option, is_none, if◌then◌else◌}
use Rattle.dspec_session_core.specs.Promised.{settle_deeds}
use Rattle.dspec_session_core.specs.Words.Outside.{Shape, block, Speculation, Ruling, discarded, verdict, present, is_busy, solo, settled, contents, held, fits_principal, Config, DecideFate, Deed}
use Rattle.dspec_deeds.specs.declared.deed.DecideFate.TheVariants as decide

-- The CPU owes a settlement of the slot's present speculation: that was decided, no CPU decided it alone, and this CPU hasn't settled it.
abbrev pub owes_settlement : ℕ → ℕ → List Deed → Bool
owes_settlement c s h = (is_busy s h && is_none (solo (present s h) h)) && not (settled c (present s h) h)

module _ (shape : ℕ → Option Shape) (k : Config) where
  -- what becomes of its buffer: after a discard it is thrown away; after a commit it is copied where its block fits, else lost
  abbrev pub owed_fate : ℕ → Speculation → List Deed → Ruling → DecideFate
  owed_fate c id h (discarded a) = decide.Thrown (length (held c id h))
  owed_fate c id h v =
      if fits_principal shape k c (block (contents (held c id h))) h then decide.Copied (length (held c id h))
      else decide.Lost (length (held c id h))

  -- the settlement that the CPU owes in the slot, if it does, in front of these
  abbrev pub owed_more : ℕ → ℕ → List (Speculation × DecideFate) → List Deed → List (Speculation × DecideFate)
  owed_more c s ss h = if owes_settlement c s h then (present s h, owed_fate c (present s h) h (verdict (present s h) h)) ∷ ss else ss

  -- all that it owes in the first n slots, slot by slot upwards, each as it stands once those before it are settled; the latest first
  abbrev pub owed_in : ℕ → ℕ → List Deed → List (Speculation × DecideFate)
  owed_in c zero h = []
  owed_in c (suc n) h = owed_more c (suc n) (owed_in c n h) (settle_deeds c (owed_in c n h) ++ h)

  -- the list, and in front of it what each of the first n CPUs owed, CPU by CPU upwards
  abbrev pub owed_up : ℕ → List Deed → List Deed
  owed_up zero h = h
  owed_up (suc c) h = settle_deeds c (owed_in c k.nspec (owed_up c h)) ++ owed_up c h
