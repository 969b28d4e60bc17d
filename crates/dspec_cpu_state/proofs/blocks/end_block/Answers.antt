use Rattle.std.proofs.Common.{◌≡◌, ◌∙◌, Bool, true, false, List, [], ◌∷◌, map, refl, if◌then◌else◌, sym, ap, subst}
use Rattle.std.proofs.lemmas.{Bool.OnTrue_at, Option.get_or_from_slice_get}
use Rattle.dspec_cpu_state.specs.Words.{Piece, one, block, piece_fits}
use Rattle.dspec_cpu_state.proofs.{Ones.set_same, blocks.end_block.Goals.then-fit, blocks.end_block.Goals.else-fit}
use Rattle.dspec_cpu_state.proofs.blocks.end_block.Goals as goal

pub returns-then-not-mine-clause-active : goal.returns-then-not-mine-clause-active
returns-then-not-mine-clause-active g c = λ s ps rs b at h hb enough.
    subst (λ m. g.B.TraceBuffer.has c.args.active.now s (if c.args.fit then block (if m then rs else []) ∷ ps else ps)) (sym c.if-not-mine.true)
    (fitting c.args.fit s ps h)
  where
    fitting : (fit : Bool) (s : g.row.S.Denot) (ps : List Piece) → g.B.TraceBuffer.has c.args.active.now s ps → g.B.TraceBuffer.has c.args.active.now s (if fit then block [] ∷ ps else ps)
    fitting true s ps h = g.met.B.TraceBuffer.takes_nothing c.args.active.now s ps h
    fitting false s ps h = h

pub returns-then-not-mine-clause-buffer : goal.returns-then-not-mine-clause-buffer
returns-then-not-mine-clause-buffer g c = λ b at. (
  b,
  refl,
  set_same c.args.buffers.now.items c.args.place b at,
  λ s ps h. subst (λ m. g.B.TraceBuffer.has b s (if m then [] else ps)) (sym c.if-not-mine.true) h,
)

pub returns-clause-active : goal.returns-clause-active
returns-clause-active g c = λ s ps rs b at h hb enough.
    let P : g.row.B.Denot → List Piece → Type 0 = λ x. g.B.TraceBuffer.has x s in
    let cell = c.index_mut-buffer.result.now in
    let is : cell ≡ b = c.index_mut-buffer.ensures.value ∙ get_or_from_slice_get c.args.buffers.now.items c.args.place b cell at in
    let hc : P cell (map one rs) = subst (λ x. P x (map one rs)) (sym is) hb in
    let one_block : (if c.args.mine then rs else []) ≡ rs = ap (λ m. if m then rs else []) c.if-not-mine.false in
    elim c.if-fit.branch [
      | then-fit w ↦
          let pushed = w.push_block.ensures.answer s ps rs h hc
          ∙ (ap (λ l. piece_fits (g.S.Schema.shape_of s) ps (block l) (g.B.TraceBuffer.capacity c.args.active.now)) (sym one_block) ∙ enough w.if-fit.true) in
          let now : P w.push_block.new.self (block rs ∷ ps) = OnTrue_at pushed w.push_block.ensures.kept s ps rs h hc in
          subst (λ x. P x (if c.args.fit then block (if c.args.mine then rs else []) ∷ ps else ps)) (sym w.active-is)
          (subst (λ f. P w.push_block.new.self (if f then block (if c.args.mine then rs else []) ∷ ps else ps)) (sym w.if-fit.true)
          (subst (λ l. P w.push_block.new.self (block l ∷ ps)) (sym one_block) now))
      | else-fit w ↦
          subst (λ x. P x (if c.args.fit then block (if c.args.mine then rs else []) ∷ ps else ps)) (sym w.active-is)
          (subst (λ f. P c.args.active.now (if f then block (if c.args.mine then rs else []) ∷ ps else ps)) (sym w.if-fit.false) h)
    ]

pub returns-clause-buffer : goal.returns-clause-buffer
returns-clause-buffer g c = λ b at.
    let cell = c.index_mut-buffer.result.now in
    let is : cell ≡ b = c.index_mut-buffer.ensures.value ∙ get_or_from_slice_get c.args.buffers.now.items c.args.place b cell at in (
      c.clear.new.self,
      c.clear.ensures.size ∙ ap g.B.TraceBuffer.capacity is,
      refl,
      λ s ps h. subst (λ m. g.B.TraceBuffer.has c.clear.new.self s (if m then [] else ps)) (sym c.if-not-mine.false) (c.clear.ensures.empty s),
    )
