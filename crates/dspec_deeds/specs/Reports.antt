-- Cited by calls. The counts of a CPU's report, read off the deeds.
use Rattle.std.specs.Prelude.{ℕ, ◌≤◌, ◌+◌, ◌==◌, Bool, false, not, ◌&&◌, ◌||◌, List, [], ◌∷◌, ◌++◌, length, filter, if◌then◌else◌}
use Rattle.dspec_deeds.specs.{FateKinds.trace_kept, FateKinds.trace_dropped, FateKinds.trace_stopped, FateKinds.spoken_kept, FateKinds.spoken_dropped, FateKinds.spoken_nowhere}
use Rattle.dspec_deeds.specs.{FateKinds.spoken_stopped, FateKinds.decided_stopped, FateKinds.is_discard, FateKinds.is_copied, FateKinds.is_lost, FateKinds.count_of, Own.Offer, Own.offers}
use Rattle.dspec_deeds.specs.{Own.empties, Own.is_drop, Words.Outside.Speculation, declared.config.Config.Config, declared.deed.Deed.Deed, declared.deed.Deed.TheVariants.Trace}
use Rattle.dspec_deeds.specs.{declared.deed.Deed.TheVariants.Scan, declared.deed.Deed.TheVariants.Miss, declared.deed.Deed.TheVariants.Speculate, declared.deed.Deed.TheVariants.Commit}
use Rattle.dspec_deeds.specs.{declared.deed.Deed.TheVariants.Discard, declared.deed.Deed.TheVariants.Settle, declared.report.Report.Report}

-- the sum over the deeds of what each adds
abbrev pub total : (Deed → ℕ) → List Deed → ℕ
total adds [] = 0
total adds (d ∷ h) = total adds h + adds d

abbrev pub one_if : Bool → ℕ
one_if b = if b then 1 else 0

abbrev pub accepts_now : ℕ → Deed → ℕ
accepts_now c (Trace a r f) = one_if (trace_kept f && (c == a))
accepts_now c (Commit a id f) = if is_copied f && (c == a) then count_of f else 0
accepts_now c (Settle a id f) = if is_copied f && (c == a) then count_of f else 0
accepts_now c d = 0

abbrev pub traces_dropped_now : ℕ → Deed → ℕ
traces_dropped_now c (Trace a r f) = one_if (trace_dropped f && (c == a))
traces_dropped_now c d = 0

abbrev pub specdrops_now : ℕ → Deed → ℕ
specdrops_now c (Speculate a id r f) = one_if (spoken_dropped f && (c == a))
specdrops_now c d = 0

abbrev pub loses_now : ℕ → Deed → ℕ
loses_now c (Commit a id f) = if is_lost f && (c == a) then count_of f else 0
loses_now c (Settle a id f) = if is_lost f && (c == a) then count_of f else 0
loses_now c d = 0

abbrev pub discards_now : ℕ → Deed → ℕ
discards_now c (Discard a id f) = if is_discard f && (c == a) then count_of f else 0
discards_now c (Settle a id f) = if is_discard f && (c == a) then count_of f else 0
discards_now c d = 0

abbrev pub voids_now : ℕ → Deed → ℕ
voids_now c (Trace a r f) = one_if (trace_stopped f && (c == a))
voids_now c (Speculate a id r f) = one_if (spoken_nowhere f && (c == a))
voids_now c d = 0

abbrev pub stops_now : ℕ → Deed → ℕ
stops_now c (Trace a r f) = one_if (trace_stopped f && (c == a))
stops_now c (Scan a running) = one_if (not running && (c == a))
stops_now c (Speculate a id r f) = one_if (spoken_stopped f && (c == a))
stops_now c (Commit a id f) = one_if (decided_stopped f && (c == a))
stops_now c (Discard a id f) = one_if (decided_stopped f && (c == a))
stops_now c d = 0

-- the records in all of the CPU's speculative buffers, each with the speculation that it was kept into
abbrev pub Spoken : Type 0
Spoken = Speculation × Offer

abbrev pub adds_now : ℕ → Deed → List Deed → List Spoken
adds_now c (Speculate a id r f) h = if spoken_kept f && (c == a) then (id, record { number = offers c h; content = r }) ∷ [] else []
adds_now c d h = []

abbrev pub speculative : ℕ → List Deed → List Spoken
speculative c [] = []
speculative c (d ∷ h) = adds_now c d h ++ filter (λ p. not (empties c p.0 d)) (speculative c h)

-- a slot missed since the CPU's last Scan was decided
abbrev pub missed_busy : ℕ → List Deed → Bool
missed_busy c [] = false
missed_busy c (Scan a running ∷ h) = if c == a then false else missed_busy c h
missed_busy c (Miss a s busy ∷ h) = (busy && (c == a)) || missed_busy c h
missed_busy c (d ∷ h) = missed_busy c h

-- a call of speculation fails at the Miss of the last slot
abbrev pub fails_now : Config → ℕ → Deed → Bool
fails_now k c (Miss a s busy) = (s == k.nspec) && (c == a)
fails_now k c d = false

abbrev pub busy_fails : Config → ℕ → List Deed → ℕ
busy_fails k c [] = 0
busy_fails k c (d ∷ h) = busy_fails k c h + one_if (fails_now k c d && missed_busy c (d ∷ h))

abbrev pub other_fails : Config → ℕ → List Deed → ℕ
other_fails k c [] = 0
other_fails k c (d ∷ h) = other_fails k c h + one_if (fails_now k c d && not (missed_busy c (d ∷ h)))

-- the report of a CPU, of whose calls so many were answered Worn
abbrev pub report : Config → ℕ → ℕ → List Deed → Report
report k c worn h = record {
  offered = offers c h;
  accepted = total (accepts_now c) h;
  dropped = total (traces_dropped_now c) h;
  specdropped = total (specdrops_now c) h;
  lost = total (loses_now c) h;
  discarded = total (discards_now c) h;
  void = total (voids_now c) h;
  held = length (speculative c h);
  drops = total (λ d. one_if (is_drop c d)) h;
  unavailable = other_fails k c h;
  busy = busy_fails k c h;
  stopped = total (stops_now c) h;
  worn = worn;
}

-- what the records of a report add up to
abbrev pub records_of_report : Report → ℕ
records_of_report p = p.accepted + p.dropped + p.specdropped + p.lost + p.discarded + p.void + p.held

-- each count of a report but that of worn calls is at most so many
pub record CountsWithin (n : ℕ) (p : Report) : Type 0 where
  pub offered : p.offered ≤ n
  pub accepted : p.accepted ≤ n
  pub dropped : p.dropped ≤ n
  pub specdropped : p.specdropped ≤ n
  pub lost : p.lost ≤ n
  pub discarded : p.discarded ≤ n
  pub void : p.void ≤ n
  pub held : p.held ≤ n
  pub drops : p.drops ≤ n
  pub unavailable : p.unavailable ≤ n
  pub busy : p.busy ≤ n
  pub stopped : p.stopped ≤ n
