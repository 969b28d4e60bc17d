-- A deed that touches neither a buffer nor a mark, an acknowledgement or a batch of its CPU.
use Rattle.std.proofs.Common.{arith, ◌≡◌, ℕ, ◌+◌, ◌-◌, Bool, true, false, not, List, ◌∷◌, map, Some, sym, ap, ◌∙◌, subst, true≢false, add-zero}
use Rattle.std.proofs.lemmas.Bool.Decides.{nat_tests}
use Rattle.dspec_buffer.specs.Extent as extent
use Rattle.dspec_cpu_state.specs.Words.{Piece, Speculation, trace_kept, spoken_granted, is_commit, is_discard, ack, mark, active, contents, dropped_in, growing, held, seals, calls, last_called}
use Rattle.dspec_cpu_state.specs.Words.{missed_busy, counts_of, IsFilledWith, ShowsList, Config, Deed, Trace, Speculate, Commit, Discard, Settle, Seal}
use Rattle.dspec_cpu_state.specs.declared.{counts.Counts.Counts, cpu_state.CpuState.CpuState}

abbrev pub quiet : Deed → Bool
quiet (Trace a r f) = not (trace_kept f)
quiet (Speculate a id r f) = not (spoken_granted f)
quiet (Commit a id f) = not (is_commit f)
quiet (Discard a id f) = not (is_discard f)
quiet (Settle a id f) = false
quiet (Seal a) = false
quiet d = true

pub record Leaves (c : ℕ) (d : Deed) (p : List Deed) : Type 0 where
  pub marks : (s : ℕ) → mark c s (d ∷ p) ≡ mark c s p
  pub acks : (s : ℕ) → ack c s (d ∷ p) ≡ ack c s p
  pub holds : (id : Speculation) → held c id (d ∷ p) ≡ held c id p
  pub drops : (id : Speculation) → dropped_in c id (d ∷ p) ≡ dropped_in c id p
  pub principal : active c (d ∷ p) ≡ active c p
  pub sealing : seals c (d ∷ p) ≡ seals c p

no : {P : Type 0} → false ≡ true → P
no e = absurd (true≢false (sym e))

still : (c : ℕ) (p : List Deed) → seals c p + 0 ≡ seals c p
still c p = add-zero (seals c p)

pub leaves : (c : ℕ) (d : Deed) (p : List Deed) → quiet d ≡ true → Leaves c d p
leaves c d p h1 = grind (arith, nat_tests, no, still)

module _ {B : Type 0} (keeps : B → List Piece → Type 0) (capacity : B → ℕ) {k : Config} {c : ℕ} {side : CpuState B} (p : List Deed) (was : ShowsList keeps capacity k c p side) where
  -- what shows the list shows it with such a deed in front, once numbers and counts are those of the longer list
  pub quiet_shown : (d : Deed) → quiet d ≡ true → (n : ℕ) (missed : Bool) (drops : ℕ) (counts : Counts)
      → n ≡ calls c (d ∷ p) → missed ≡ missed_busy c (d ∷ p) → drops ≡ (growing c (d ∷ p)).drops → counts ≡ counts_of k c counts.worn (d ∷ p)
      → ShowsList keeps capacity k c (d ∷ p) (record side { calls = n; missed_busy = missed; drops = drops; counts = counts })
  quiet_shown d e n missed drops counts call_is missed_is drops_is counts_is =
      let l = leaves c d p e in
      let same : (s : ℕ) → contents (held c (last_called c s p) p) ≡ contents (held c (last_called c s (d ∷ p)) (d ∷ p)) =
      λ s. ap contents (sym (l.holds (last_called c s (d ∷ p)) ∙ ap (λ m. held c record { issue = m - 1; slot = s } p) (l.marks s))) in
      let dropped : (s : ℕ) → dropped_in c (last_called c s (d ∷ p)) (d ∷ p) ≡ dropped_in c (last_called c s p) p =
      λ s. l.drops (last_called c s (d ∷ p)) ∙ ap (λ m. dropped_in c record { issue = m - 1; slot = s } p) (l.marks s) in
      record {
        parts = record {
          called = call_is;
          sealed = was.parts.sealed ∙ sym l.sealing;
          missed = missed_is;
          ack_count = was.parts.ack_count;
          acks = λ s low high. was.parts.acks s low high ∙ ap Some (sym (l.acks s));
          mark_count = was.parts.mark_count;
          marks = λ s low high. was.parts.marks s low high ∙ ap Some (sym (l.marks s));
          specdrop_count = was.parts.specdrop_count;
          specdrops = λ s low high. was.parts.specdrops s low high ∙ ap Some (sym (dropped s));
          buffer_count = was.parts.buffer_count;
          speculative = λ s b low high at. subst (λ rs. IsFilledWith keeps capacity k.specsize (map extent.one rs) b) (same s) (was.parts.speculative s b low high at);
          principal = subst (λ ps. IsFilledWith keeps capacity k.bufsize ps side.active) (sym l.principal) was.parts.principal;
          drops = drops_is;
        };
        counted = counts_is;
      }
