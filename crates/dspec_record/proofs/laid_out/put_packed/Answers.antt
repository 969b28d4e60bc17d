-- The words are stored as the text of the header that there is.
use Rattle.std.proofs.Common.{◌≡◌, ◌≤◌, ◌<◌, ◌^◌, ◌+◌, ◌*◌, ◌/◌, ◌++◌, ℕ, List, All, length, take, refl, ap, subst, ◌∙◌, arith}
use Rattle.std.proofs.lemmas.List.Elements.{All-from_get_or}
use Rattle.dspec_record.specs.Words.{with_low, bytes_of_words, fields_start}
use Rattle.dspec_record.proofs.PackedRecords.{words-put, all-put, text-put_one, text-put_two}
use Rattle.dspec_record.proofs.laid_out.put_packed.Goals.{in-One, in-Two}
use Rattle.dspec_record.proofs.laid_out.put_packed.Goals as goal

pub loop-i-preserved : goal.loop-i-preserved
loop-i-preserved c = (
  omega (arith, c.loop-i.invariant.0),
  words-put c.match-header.low.1 c.match-header.low.0 c.loop-i.i (c.match-header.low.1 + c.loop-i.i * 8) (c.match-header.low.1 + 8 * (c.loop-i.i + 1)) c.args.words.now c.put_word-2.new.out
      c.loop-i.out c.put_word-in-loop-i.new.out c.loop-i.invariant.0 c.loop-i-test.true (omega arith) refl c.put_word-in-loop-i.ensures c.loop-i.invariant.1,
)

pub returns : goal.returns
returns c = λ fs clean room.
    let ws : List ℕ = c.args.words.now in
    let small : All (λ w. w < 2 ^ 64) ws = All-from_get_or (λ w. w < 2 ^ 64) ws 0 (λ i within. (c.type_inv.words i).fits) in
    let at : ℕ = c.match-header.low.1 in
    let put = λ (within : at ≤ length c.match-header.out). all-put at c.match-header.low.0 c.loop-i.i ws c.match-header.out c.put_word-2.new.out c.loop-i.out (omega arith) within
    c.put_word-2.ensures c.loop-i.invariant.1 in
    elim c.match-header.branch [
      | in-One w ↦
          let none : at ≡ 0 = ap (λ p. p.1) w.low-is in
          let low : c.match-header.low.0 ≡ c.args.epid = ap (λ p. p.0) w.low-is ∙ c.from-low.ensures in
          let Put : ℕ → Type 0 = λ k. take (k + 8 * length ws) c.loop-i.out ≡ take k c.match-header.out ++ bytes_of_words (with_low c.match-header.low.0 ws) in
          text-put_one c.args.header c.args.epid c.args.stamp c.match-header.low.0 fs ws c.loop-i.out w.in-One.is low (omega (arith, low, c.ranges.epid.fits)) c.requires.some small clean room
          (subst Put none (put (omega (arith, none))))
      | in-Two w ↦
          let eight : at ≡ 8 = ap (λ p. p.1) w.low-is in
          let Put : ℕ → ℕ → List ℕ → Type 0 = λ k low begun. take (k + 8 * length ws) c.loop-i.out ≡ take k begun ++ bytes_of_words (with_low low ws) in
          text-put_two c.args.header c.args.epid c.args.stamp _ c.from-low.result fs ws w.put_word.new.out c.loop-i.out w.in-Two.is refl c.from-low.ensures
          c.ranges.epid.fits c.ranges.stamp.fits c.requires.some small clean room w.put_word.ensures
          (subst (Put 8 (c.args.stamp / 2 ^ 32)) w.out-is (subst (λ l. Put 8 l c.match-header.out) (ap (λ p. p.0) w.low-is)
          (subst (λ k. Put k c.match-header.low.0 c.match-header.out) eight (put (omega (arith, eight, ap fields_start w.in-Two.is, c.requires.room))))))
    ]
