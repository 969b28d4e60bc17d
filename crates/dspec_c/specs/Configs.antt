-- Cited by calls. What a configuration in C's memory asks for.
use Rattle.std.specs.{Option.option_map, Prelude.ℕ, Prelude.◌==◌, Prelude.Option, Prelude.Some, Prelude.None, Prelude.if◌then◌else◌}
use Rattle.dspec_c.specs.{Words.Outside.Config, Words.Outside.Policy, Words.Outside.Switch, Words.Outside.Fill, declared.configs.CConfig.CConfig}

abbrev pub policy_numbered : ℕ → Option Policy
policy_numbered n = if n == 0 then Some Switch else if n == 1 then Some Fill else None

-- field by field; there is no such policy else
abbrev pub asked_for : CConfig → Option Config
asked_for c = option_map (λ (p : Policy). record {
  cpus = c.cpus;
  nspec = c.nspec;
  bufsize = c.bufsize;
  specsize = c.specsize;
  max_issues = c.max_issues;
  max_calls = c.max_calls;
  policy = p;
}) (policy_numbered c.policy)
