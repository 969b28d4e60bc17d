use Rattle.std.proofs.Common.{◌≡◌, ◌-◌, ◌++◌, length, map, take}
use Rattle.std.specs.List.{range_with_len}
use Rattle.dspec_probe.specs.Words.{text_word, filled_words}
use Rattle.dspec_probe.proofs.text.put_words.Given as goal

abbrev pub invariant-loop-place : goal.invariant-loop-place
invariant-loop-place l = record {
  long : length l.words ≡ length l.initial.words;
  so_far : take l.place l.words ++ map (text_word l.bytes l.fill) (range_with_len l.place (length l.initial.words - l.place)) ≡ filled_words (length l.initial.words) l.bytes l.fill;
}
