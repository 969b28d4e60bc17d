-- A call of trace.
use Rattle.std.proofs.Common.{◌≡◌, ℕ, Bool, true, false, List, [], Option, ◌∷◌, if◌then◌else◌, refl, ap, ◌∙◌, subst}
use Rattle.dspec_cpu.specs.Words.{Record, CpuRow, fits_principal, of_cpu, number_of, calling, activity_place, LoadedActivity, Entered, Goes, rests, steps, Stands, at_activity, Config, TraceFate}
use Rattle.dspec_cpu.specs.Words.{Shape, Deed, Trace, View, Doing}
use Rattle.dspec_deeds.specs.declared.calls.CpuOp.TheVariants as op
use Rattle.dspec_deeds.specs.declared.deed.TraceFate.TheVariants as traced
use Rattle.dspec_buffer.specs.Extent as extent
use Rattle.dspec_table.proofs.Flights.{activity_enters}
use Rattle.dspec_cpu.proofs.Ready.{stands_after, stands_called}

abbrev pub asked : Record → Bool → Doing
asked r fit = record { op = op.Trace r; fits = fit; count = 0; mine = false }

abbrev pub fate : Bool → Bool → TraceFate
fate fit stopped = if stopped then traced.Stopped else (if fit then traced.Kept else traced.Dropped)

-- the one step
pub record Traces (k : Config) (c : ℕ) (v w : View) (r : Record) (f : TraceFate) : Type 0 where
  pub goes : Goes v (Trace c r f ∷ []) w
  pub stands : Stands k c v (Trace c r f ∷ []) w

once : (k : Config) (c : ℕ) (r : Record) (fit b : Bool) → at_activity k c (asked r fit) (op.Trace r) b ≡ Trace c r (fate fit b) ∷ []
once k c r fit true = refl
once k c r true false = refl
once k c r false false = refl

pub traces : (k : Config) (c : ℕ) (v w : View) (r : Record) (fit b : Bool) (f : TraceFate) → v.config ≡ k → v.who ≡ of_cpu c → LoadedActivity (asked r fit) v b w → fate fit b ≡ f → Traces k c v w r f
traces k c v w r fit b f config who step is =
    let named : number_of v.who ≡ c = ap number_of who in
    let deeds : at_activity v.config (number_of v.who) (asked r fit) (op.Trace r) b ≡ Trace c r f ∷ [] = once v.config (number_of v.who) r fit b ∙ (λ i. Trace (named i) r (is i) ∷ []) in
    let entered : Entered activity_place (calling (op.Trace r) v) step.0 (Trace c r f ∷ []) w = subst (λ ds. Entered activity_place (calling (op.Trace r) v) step.0 ds w) deeds step.3 in
    record {
      goes = steps w (Trace c r f ∷ []) (Trace c r f ∷ []) step.0 rests step.1 (activity_enters (asked r fit) v b w (Trace c r f ∷ []) step deeds) refl;
      stands = stands_called k c (op.Trace r) v w (Trace c r f ∷ []) (stands_after k c (calling (op.Trace r) v) w step.0 (Trace c r f ∷ []) config who entered) refl;
    }

-- a record that was kept where it fits, and dropped where it doesn't
pub trace_row : (shape : ℕ → Option Shape) (k : Config) (c : ℕ) (r : Record) (p : List Deed) (b : Bool) → b ≡ fits_principal shape k c (extent.one r) p
    → CpuRow shape k p (Trace c r (if b then traced.Kept else traced.Dropped))
trace_row shape k c r p true e = e
trace_row shape k c r p false e = e
