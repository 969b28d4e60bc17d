-- What another's deed leaves of a CPU's own: its call of speculation, its buffers and its batches.
use Rattle.std.proofs.Common.{◌≡◌, ℕ, ◌+◌, false, ◌||◌, List, [], ◌∷◌, refl, ap, arith}
use Rattle.dspec_deeds.specs.Words.{Speculation, same_actor, author, scan, callers, is_among, settled, late, ack, is_scan, offers, calls, seals_now, seals, accepts, accepted, active, is_drop, full}
use Rattle.dspec_deeds.specs.Words.{growing, batches, missed_busy}
use Rattle.dspec_deeds.specs.declared.{calls.Actor.TheVariants.Cpu, config.Config.Config, deed.Deed.Deed, deed.Deed.TheVariants.Scan, deed.Deed.TheVariants.Settle, deed.Deed.TheVariants.Seal}

-- nothing more
add_zero : (n : ℕ) → n + 0 ≡ n
add_zero n = omega arith

-- another's deed moves no call of speculation of the CPU
pub scan_other : (k : Config) (c : ℕ) (d : Deed) (h : List Deed) → same_actor (Cpu c) (author d h) ≡ false → scan k c (d ∷ h) ≡ scan k c h
scan_other k c d h h1 = grind arith

-- another's deed is no Scan of the CPU
pub is_scan_other : (c : ℕ) (d : Deed) (h : List Deed) → same_actor (Cpu c) (author d h) ≡ false → is_scan c d ≡ false
is_scan_other c (Scan a run) h e = e
is_scan_other c d h e = refl

-- another's deed makes the CPU no later
pub late_other : (c : ℕ) (d : Deed) (h : List Deed) → same_actor (Cpu c) (author d h) ≡ false → late c h ≡ false → late c (d ∷ h) ≡ false
late_other c d h e early = grind arith

-- another's deed makes the CPU no caller
pub has_other : (c : ℕ) (id : Speculation) (d : Deed) (h : List Deed) → same_actor (Cpu c) (author d h) ≡ false → is_among c (callers id (d ∷ h)) ≡ is_among c (callers id h)
has_other c id d h h1 = grind arith

-- another's deed settles nothing for the CPU
pub settled_other : (c : ℕ) (id : Speculation) (d : Deed) (h : List Deed) → same_actor (Cpu c) (author d h) ≡ false → settled c id (d ∷ h) ≡ settled c id h
settled_other c id (Settle a j f) h e = rw e refl
settled_other c id d h e = refl

-- another's deed stores no acknowledgement of the CPU
pub ack_other : (c s : ℕ) (d : Deed) (h : List Deed) → same_actor (Cpu c) (author d h) ≡ false → ack c s (d ∷ h) ≡ ack c s h
ack_other c s (Settle a j f) h e = rw e refl
ack_other c s d h e = refl

-- another's deed offers no record of the CPU
pub offers_other : (c : ℕ) (d : Deed) (h : List Deed) → same_actor (Cpu c) (author d h) ≡ false → offers c (d ∷ h) ≡ offers c h
offers_other c d h h1 = grind arith

-- another's deed is no call of the CPU
pub calls_other : (c : ℕ) (d : Deed) (h : List Deed) → same_actor (Cpu c) (author d h) ≡ false → calls c (d ∷ h) ≡ calls c h
calls_other c d h h1 = grind arith

-- another's deed takes nothing into the CPU's principal buffer
pub accepts_other : (c : ℕ) (d : Deed) (h : List Deed) → same_actor (Cpu c) (author d h) ≡ false → accepts c d h ≡ []
accepts_other c d h h1 = grind arith

-- another's deed leaves what the CPU's principal buffers accepted
pub accepted_other : (c : ℕ) (d : Deed) (h : List Deed) → same_actor (Cpu c) (author d h) ≡ false → accepted c (d ∷ h) ≡ accepted c h
accepted_other c d h e = rw (accepts_other c d h e) refl

-- another's deed is no Seal of the CPU
pub seals_now_other : (c : ℕ) (d : Deed) (h : List Deed) → same_actor (Cpu c) (author d h) ≡ false → seals_now c d ≡ false
seals_now_other c (Seal a) h e = e
seals_now_other c d h e = refl

-- another's deed leaves how often the CPU sealed
pub seals_other : (c : ℕ) (d : Deed) (h : List Deed) → same_actor (Cpu c) (author d h) ≡ false → seals c (d ∷ h) ≡ seals c h
seals_other c d h e = rw (seals_now_other c d h e) (add_zero (seals c h))

-- another's deed leaves the CPU's active principal buffer
pub active_other : (c : ℕ) (d : Deed) (h : List Deed) → same_actor (Cpu c) (author d h) ≡ false → active c (d ∷ h) ≡ active c h
active_other c d h h1 = grind arith

-- another's deed is no drop of the CPU
pub is_drop_other : (c : ℕ) (d : Deed) (h : List Deed) → same_actor (Cpu c) (author d h) ≡ false → is_drop c d ≡ false
is_drop_other c d h h1 = grind arith

-- another's deed closes no buffer of the CPU
pub full_other : (c : ℕ) (d : Deed) (h : List Deed) → same_actor (Cpu c) (author d h) ≡ false → full c (d ∷ h) ≡ full c h
full_other c d h e = ap (λ b. b || full c h) (is_drop_other c d h e)

-- another's deed leaves the batch that the CPU's next Seal seals
pub growing_other : (c : ℕ) (d : Deed) (h : List Deed) → same_actor (Cpu c) (author d h) ≡ false → growing c (d ∷ h) ≡ growing c h
growing_other c d h h1 = grind arith

-- another's deed leaves the CPU's batches
pub batches_other : (c : ℕ) (d : Deed) (h : List Deed) → same_actor (Cpu c) (author d h) ≡ false → batches c (d ∷ h) ≡ batches c h
batches_other c d h e = rw (seals_now_other c d h e) refl

-- another's deed leaves what the CPU's last call of speculation has missed
pub missed_other : (c : ℕ) (d : Deed) (h : List Deed) → same_actor (Cpu c) (author d h) ≡ false → missed_busy c (d ∷ h) ≡ missed_busy c h
missed_other c d h h1 = grind arith
