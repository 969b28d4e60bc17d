-- Cited by calls. What is left of a CPU, by its schema and the rest of it.
use Rattle.dspec_cpu.specs.declared.{kept_rest.KeptRest.KeptRest, rest.CpuRest.CpuRest}

-- with this schema it is all that is left
abbrev pub rest_with : {S : Type 0} → S → KeptRest → CpuRest S
rest_with schema kept = record { schema = schema; config = kept.config; cpu = kept.cpu; side = kept.side; held_back = kept.held_back }
