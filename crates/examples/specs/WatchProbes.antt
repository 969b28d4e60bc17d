-- Cited by calls. Which schemas have the probes of the server.
use Rattle.std.specs.Prelude.{List, [], ◌∷◌}
use Rattle.dspec_record.specs.EnablingRows.{EnabledRows}
use Rattle.dspec_record.specs.declared.field.Field.{Field}
use Rattle.dspec_record.specs.declared.field.Field.TheVariants.{Four}
use Rattle.dspec_probe.specs.Probes.{IsProbeOf}
use Rattle.examples.specs.declared.watch.probes.ServerProbes.{ServerProbes}

-- the number of a request, and microseconds
abbrev pub step_fields : List Field
step_fields = Four ∷ Four ∷ []

pub record AreServerProbesOf (p : ServerProbes) (schema : EnabledRows) : Type 0 where
  pub accept : IsProbeOf step_fields p.accept schema
  pub parse : IsProbeOf step_fields p.parse schema
  pub query : IsProbeOf step_fields p.query schema
  pub answer : IsProbeOf step_fields p.answer schema
