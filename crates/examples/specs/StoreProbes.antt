-- Cited by calls. Which schemas have the probes of the store.
use Rattle.std.specs.Prelude.{[], ◌∷◌}
use Rattle.dspec_record.specs.EnablingRows.{EnabledRows}
use Rattle.dspec_record.specs.declared.field.Field.TheVariants.{One, Two, Four, Eight}
use Rattle.dspec_probe.specs.Probes.{IsProbeOf}
use Rattle.examples.specs.declared.store.probes.StoreProbes.{StoreProbes}

pub record AreStoreProbesOf (p : StoreProbes) (schema : EnabledRows) : Type 0 where
  pub begin : IsProbeOf (Four ∷ One ∷ Eight ∷ Eight ∷ []) p.begin schema
  pub read : IsProbeOf (Four ∷ Two ∷ Eight ∷ []) p.read schema
  pub wait : IsProbeOf (Four ∷ Two ∷ []) p.wait schema
  pub write : IsProbeOf (Four ∷ Two ∷ Eight ∷ []) p.write schema
  pub end : IsProbeOf (Four ∷ One ∷ []) p.end schema
