use Rattle.std.proofs.Common.{◌≤◌, length, map, take}
use Rattle.dspec_ctf.specs.Words.{AreEvents}
use Rattle.dspec_ctf.proofs.in_memory.naming.events_of.Given as goal

-- the events so far are those of the names and of the kinds so far
abbrev pub invariant-loop-place : goal.invariant-loop-place
invariant-loop-place l = record {
  texts_within : l.text ≤ length l.texts;
  numbers_within : l.number ≤ length l.numbers;
  are : AreEvents (take l.text (map (λ t. t.now) l.texts)) (take l.number l.numbers) l.events.items;
}
