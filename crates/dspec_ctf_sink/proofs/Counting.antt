-- Numbers that are counted as far as 64 bits count.
use Rattle.std.proofs.{Common.◌≡◌, Common.◌≤◌, Common.◌+◌, Common.◌∙◌, Common.ℕ, Common.List, Common.ap, Common.arith, Common.length, Common.sym, lemmas.List.set_past}
use Rattle.std.specs.Prelude.{slice_index, slice_set}
use Rattle.dspec_ctf_sink.specs.Words.{capped, missed_more}

capped_twice : (a d n : ℕ) → capped (capped (a + d) + n) ≡ capped (a + (d + n))
capped_twice a d n = omega arith

-- what is missed is counted in two steps
pub counts-twice : (ms : List ℕ) (cpu d n x y : ℕ) → x ≡ capped (slice_index ms cpu + d) → y ≡ capped (x + n) → slice_set ms cpu y ≡ missed_more ms cpu (d + n)
counts-twice ms cpu d n x y first second = ap (λ v. slice_set ms cpu v) (second ∙ ap (λ v. capped (v + n)) first ∙ capped_twice (slice_index ms cpu) d n)

-- a CPU that isn't there misses nothing
pub counts-none : (ms : List ℕ) (cpu n : ℕ) → length ms ≤ cpu → ms ≡ missed_more ms cpu n
counts-none ms cpu n past = sym (set_past ms cpu (capped (slice_index ms cpu + n)) past)
