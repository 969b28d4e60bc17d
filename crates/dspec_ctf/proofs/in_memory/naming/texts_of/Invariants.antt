use Rattle.std.proofs.Common.{◌≡◌, map, take}
use Rattle.dspec_ctf.proofs.in_memory.naming.texts_of.Given as goal

-- the texts so far are the names so far
abbrev pub invariant-loop-name : goal.invariant-loop-name
invariant-loop-name l = map (λ t. t.now) l.texts.items ≡ take l.name-index (map (λ n. n.now) l.names)
