-- Serves proofs. A text that is read has one list of records before it: the ghost field of `Records` has one value at most.
use Rattle.std.specs.Coded.{Coded, Coded-set, code_by, coded×, coded_ℕ, coded_list, ×_prop, Π_prop}
use Rattle.std.specs.Prelude.{ℕ, Bool, List, Option, refl}
use Rattle.std.proofs.Math.Logic.{∥∥₁_elim, ∥∥₁_prop}
use mathlib.Core.HLevel.{Σ_prop_path}
use Rattle.dspec_buffer.specs.{Remaining.IsOneText, Remaining.Remaining, Words.Outside.Record, Words.Outside.Shape}

abbrev pub record_code : Coded Record
record_code =
    code_by (ℕ × (ℕ × List ℕ)) (coded× coded_ℕ (coded× coded_ℕ (coded_list coded_ℕ))) (λ r. (r.epid, (r.stamp, r.values))) (λ p. record { epid = p.0; stamp = p.1.0; values = p.1.1 }) (λ _. refl)

pub records_set : IsSet (List Record)
records_set = Coded-set (coded_list record_code)

pub IsOneText-prop : (shape : ℕ → Option Shape) (accepted : Record → Bool) (text : Record → List ℕ) (bytes : List ℕ) (place : ℕ) (rs : List Record)
    → IsProp (IsOneText shape accepted text bytes place rs)
IsOneText-prop shape accepted text bytes place rs =
    ×_prop ∥∥₁_prop (Π_prop (λ qs. Π_prop (λ _. records_set qs rs)))

pub Remaining-prop : (shape : ℕ → Option Shape) (accepted : Record → Bool) (text : Record → List ℕ) (bytes : List ℕ) (place : ℕ) → IsProp (Remaining shape accepted text bytes place)
Remaining-prop shape accepted text bytes place x y =
    Σ_prop_path (IsOneText-prop shape accepted text bytes place) (∥∥₁_elim x.1.0 (records_set x.0 y.0) (λ h. y.1.1 x.0 h))
