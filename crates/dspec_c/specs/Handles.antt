-- Cited by calls. What contracts see of a handle in C's memory.
use Rattle.std.specs.Prelude.{Bool, if◌then◌else◌}
use Rattle.dspec_c.specs.declared.{handle.Handle.Handle, held.HandleValue.HandleValue, held.HandleValue.TheVariants.Nothing}

-- something is in it
abbrev pub is_full : Handle → Bool
is_full h = h.held

-- what is in it: nothing, where it is empty
abbrev pub held_in : Handle → HandleValue
held_in h = if h.held then h.seal.inside.held else Nothing
