use Rattle.std.proofs.Common.{◌≡◌, ℕ, ◌+◌, ◌-◌, ◌≤◌, ◌⊎◌, List, length, drop, ap, subst, ◌∙◌, arith}
use Rattle.dspec_parking.specs.Words.{RingBytes, ring_bytes, laid_from}
use Rattle.dspec_parking.proofs.Laying.{drop-before, drop-round, full-laid, inside-laid, length-laid}
use Rattle.dspec_parking.proofs.byte_ring.ByteRing.drop_front.Goals.{then-count-rest, else-count-rest}
use Rattle.dspec_parking.proofs.byte_ring.ByteRing.drop_front.Goals as goal

pub returns : goal.returns
returns c =
    let r = c.self.inside in
    let bs : List ℕ = r.bytes.items in
    let n : ℕ = c.args.count in
    let is = c.self.invariant in
    let long : r.bytes.len ≡ length bs = omega (arith, r.bytes.ok.0) in
    let laid = subst (λ (k : ℕ). (k ≡ r.size) ⊎ (r.start + r.used ≡ k)) long is.laid in
    let as_long = length-laid bs r.size r.start r.used (omega (arith, is.long, long)) (omega (arith, is.start, long)) is.used laid in
    let some : n ≤ r.used = omega (arith, c.requires, as_long, ap (λ (v : RingBytes). length v.items) c.self.view_is) in
    let shown = ap (λ (v : RingBytes). ring_bytes (drop n v.items) v.capacity) c.self.view_is in
    elim c.if-count-rest.branch [
      | then-count-rest w ↦ ap (λ (k : ℕ). ring_bytes (laid_from bs r.size k (r.used - n)) r.size) w.self-is
          ∙ ap (λ (l : List ℕ). ring_bytes l r.size) (drop-before bs r.size r.start r.used n some (inside-laid bs r.size r.start r.used n some (omega arith) laid)) ∙ shown
      | else-count-rest w ↦
          let full = full-laid bs r.size r.start r.used (omega (arith, is.long, long)) (omega arith) laid in
          ap (λ (k : ℕ). ring_bytes (laid_from bs r.size k (r.used - n)) r.size) w.self-is
          ∙ ap (λ (l : List ℕ). ring_bytes l r.size) (drop-round bs r.size r.start r.used n (r.size - r.start) (omega (arith, is.start, is.long)) full is.used (omega arith) some) ∙ shown
    ]
