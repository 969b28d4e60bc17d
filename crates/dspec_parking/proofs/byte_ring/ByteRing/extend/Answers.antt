use Rattle.std.proofs.Common.{◌≡◌, ℕ, ◌+◌, ◌-◌, ◌≤◌, ◌⊎◌, List, ◌++◌, length, take, drop, ap, subst, sym, ◌∙◌, arith, length-append}
use Rattle.std.proofs.lemmas.List.{length-take-le, take-append-drop, take_rest}
use Rattle.dspec_parking.specs.{Words.RingBytes, Words.ring_bytes, Words.laid_from, Words.bytes_shown, declared.byte_ring.ByteRing.TheInside.Inside}
use Rattle.dspec_parking.proofs.Laying.{full-laid, inside-laid, length-laid, put-after, put-before, put-round, put_in}
use Rattle.dspec_parking.proofs.byte_ring.ByteRing.extend.Goals.{then-self-rest, else-self-rest, then-more-room, else-more-room}
use Rattle.dspec_parking.proofs.byte_ring.ByteRing.extend.Goals as goal

-- a ring in which so many bytes more are used
abbrev used_more : List ℕ → Inside → RingBytes
used_more more r = bytes_shown (record { bytes = r.bytes; size = r.size; start = r.start; used = r.used + length more })

pub returns : goal.returns
returns c =
    let r = c.self.inside in
    let bs : List ℕ = r.bytes.items in
    let more : List ℕ = c.args.more.now in
    let n : ℕ = length more in
    let end : ℕ = c.if-self-rest.end in
    let is = c.self.invariant in
    let len : r.bytes.len ≡ length bs = omega (arith, r.bytes.ok.0) in
    let laid = subst (λ (k : ℕ). (k ≡ r.size) ⊎ (r.start + r.used ≡ k)) len is.laid in
    let long : length bs ≤ r.size = omega (arith, is.long, len) in
    let from : r.start ≤ length bs = omega (arith, is.start, len) in
    let as_long = length-laid bs r.size r.start r.used long from is.used laid in
    let fits : r.used + n ≤ r.size = omega (arith, c.requires, as_long, ap (λ (v : RingBytes). length v.items) c.self.view_is, ap (λ (v : RingBytes). v.capacity) c.self.view_is) in
    let shows = λ (l : List ℕ). ring_bytes (laid_from l r.size r.start (r.used + n)) r.size in
    let shown = ap (λ (v : RingBytes). ring_bytes (v.items ++ more) v.capacity) c.self.view_is in
    elim c.if-self-rest.branch [
      | then-self-rest v ↦
          let before : r.start + r.used ≤ r.size = omega (arith, v.if-self-rest.true) in
          let inside = inside-laid bs r.size r.start r.used r.used (omega arith) before laid in
          elim c.if-more-room.branch [
            | then-more-room w ↦
                ap (used_more more) w.self-inside-is ∙ ap shows (w.put_at.ensures.items ∙ ap (λ (k : ℕ). put_in k more bs) v.end-is)
                ∙ ap (λ (l : List ℕ). ring_bytes l r.size) (put-before bs r.size r.start r.used more inside (omega (arith, w.if-more-room.true, v.end-is, before))) ∙ shown
            | else-more-room w ↦
                let room : ℕ = r.size - end in
                let here : List ℕ = take room more in
                let there : List ℕ = take (n - room) (drop room more) in
                let some : length here ≡ room = length-take-le room more (omega (arith, w.if-more-room.false)) in
                let whole : here ++ there ≡ more = ap (λ (l : List ℕ). here ++ l) (take_rest more room) ∙ take-append-drop room more in
                let count : length here + length there ≡ n = sym (length-append here there) ∙ ap length whole in
                ap (used_more more) w.self-inside-is
                ∙ ap shows (w.put_at-else-more-room-2.ensures.items ∙ ap (λ (l : List ℕ). put_in 0 there l) (w.put_at-else-more-room.ensures.items ∙ ap (λ (k : ℕ). put_in k here bs) v.end-is))
                ∙ ap (λ (k : ℕ). ring_bytes (laid_from (put_in 0 there (put_in (r.start + r.used) here bs)) r.size r.start (r.used + k)) r.size) (sym count)
                ∙ ap (λ (l : List ℕ). ring_bytes l r.size)
                (put-round bs r.size r.start r.used here there inside long (omega (arith, some, v.end-is, before)) (omega (arith, count, fits)))
                ∙ ap (λ (l : List ℕ). ring_bytes (laid_from bs r.size r.start r.used ++ l) r.size) whole ∙ shown
          ]
      | else-self-rest v ↦
          let full = full-laid bs r.size r.start r.used long (omega (arith, v.if-self-rest.false)) laid in
          let ends : r.size + end ≡ r.start + r.used = omega (arith, v.end-is, v.if-self-rest.false, from, long) in
          elim c.if-more-room.branch [
            | then-more-room w ↦
                ap (used_more more) w.self-inside-is ∙ ap shows w.put_at.ensures.items
                ∙ ap (λ (l : List ℕ). ring_bytes l r.size)
                (put-after bs r.size r.start r.used end more full ends (omega (arith, ends, fits)) (omega arith)) ∙ shown
            | else-more-room w ↦ absurd (omega (arith, v.end-is, v.if-self-rest.false, w.if-more-room.false, fits, from, long))
          ]
    ]
