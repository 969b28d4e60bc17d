-- The text of what a CPU's buffer of a slot has.
use Rattle.std.proofs.Common.{◌≡◌, ◌+◌, ◌-◌, ◌≤◌, ℕ, Bool, List, [], map, Option, Some, None, refl, sym, subst, ap, ◌∙◌, reverse}
use Rattle.std.specs.Prelude.{slice_get}
use Rattle.dspec_cpu.specs.Words.{BufferText, bytes, Record, Stored, HasPieces, one, Speculation, last_called, contents, held, Offer, mark, HasList, IsBlockAt, IsOpenAt, Shape, Deed}
use Rattle.dspec_cpu.specs.declared.parts.CpuParts.{CpuParts as Cpu}
use Rattle.dspec_buffer.proofs.{SchemaLaws.SchemaLaws, Walks.reads_back}
use Rattle.dspec_cpu_state.proofs.Ones.{last_is, records_ones}

module _ (shape : ℕ → Option Shape) (accepted : Record → Bool) (text : Record → List ℕ) where
  -- where no record of the slot is held, no byte is
  pub no_bytes : (c slot : ℕ) (p : List Deed) → ((id : Speculation) → id.slot ≡ slot → held c id p ≡ []) → IsBlockAt shape accepted text c slot p []
  no_bytes c slot p none None opened = refl
  no_bytes c slot p none (Some id) opened = absurd (opened.2 (none id opened.0))

  module _ (laws : SchemaLaws shape accepted text) {S : Type 0} (cpu : Cpu S) (slot : ℕ) (b : Stored) (at : slice_get cpu.side.speculative.items (slot - 1) ≡ Some b)
      (low : 1 ≤ slot) (high : slot ≤ cpu.config.nspec) (p : List Deed) (had : HasList shape accepted text cpu p) where
    -- the buffer has what is held of the slot's last speculation
    has_last : HasPieces shape accepted text b (map one (contents (held cpu.cpu (last_called cpu.cpu slot p) p)))
    has_last = (had.shown.side.speculative slot b low high at).has

    reads_last : BufferText shape accepted text 0 b.text (reverse (contents (held cpu.cpu (last_called cpu.cpu slot p) p)))
    reads_last =
        subst (λ (rs : List Record). BufferText shape accepted text 0 b.text (reverse rs)) (records_ones (contents (held cpu.cpu (last_called cpu.cpu slot p) p)))
        (reads_back shape accepted text laws b (map one (contents (held cpu.cpu (last_called cpu.cpu slot p) p))) has_last)

    same_last : (id : Speculation) → IsOpenAt cpu.cpu slot p (Some id) → last_called cpu.cpu slot p ≡ id
    same_last id opened = subst (λ (s : ℕ). last_called cpu.cpu s p ≡ id) opened.0 (last_is cpu.cpu id p (subst (λ (s : ℕ). mark cpu.cpu s p ≡ id.issue + 1) (sym opened.0) opened.1))

    pub its_bytes : IsBlockAt shape accepted text cpu.cpu slot p b.text
    its_bytes None none = has_last.text_is ∙ ap (λ (os : List Offer). bytes shape text (map one (contents os))) (none (last_called cpu.cpu slot p) refl)
    its_bytes (Some id) opened =
        subst (λ (i : Speculation). BufferText shape accepted text 0 b.text (reverse (contents (held cpu.cpu i p)))) (same_last id opened) reads_last
