use Rattle.std.proofs.Common.{ℕ, ◌≡◌, ◌≤◌, false, replicate, take}
use Rattle.std.specs.Prelude.{slice_index_or}
use Rattle.dspec_c.specs.{Words.held_in_each, Words.fulls, Words.names, declared.held.HandleValue.TheVariants.Nothing}
use Rattle.dspec_c.proofs.closing.send_all.Given as goal

-- those so far are empty, and the others have what they had
abbrev pub invariant-loop-number : goal.invariant-loop-number
invariant-loop-number l = record {
  same : names l.cpus ≡ names l.fn.cpus;
  empty : take l.number (fulls l.cpus) ≡ replicate l.number false;
  others : (k : ℕ) → l.number ≤ k → slice_index_or (held_in_each l.cpus) k Nothing ≡ slice_index_or (held_in_each l.fn.cpus) k Nothing;
}
