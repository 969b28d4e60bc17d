use Rattle.std.proofs.Common.{◌≡◌, ◌≤◌, ◌<◌, ◌+◌, ◌*◌, ◌-◌, ◌^◌, ℕ, List, length, drop, get_or, ◌∙◌, ap, arith}
use Rattle.std.proofs.lemmas.List.{length-drop}
use Rattle.dspec_record.specs.{Words.width, Words.signature_of, declared.field.Field.Field, declared.field.Field.TheVariants.One}
use Rattle.dspec_record.proofs.{Claiming.signature_of-fits, Signing.signature-more}
use Rattle.dspec_record.proofs.packing.signature.Goals as goal

below : (fs : List Field) (rest : ℕ) → length fs ≤ 8 → signature_of (drop rest fs) < 2 ^ 32
below fs rest few = let long : length (drop rest fs) ≡ length fs - rest = length-drop rest fs in signature_of-fits (drop rest fs) (omega (arith, long))

word-more : (fs : List Field) (rest word wide : ℕ) → 0 < rest → rest ≤ length fs → word ≡ signature_of (drop rest fs) → wide ≡ width (get_or fs (rest - 1) One)
    → word * 16 + wide ≡ signature_of (drop (rest - 1) fs)
word-more fs rest word wide some few is at = ap (λ w. w * 16 + wide) is ∙ ap (λ w. signature_of (drop rest fs) * 16 + w) at ∙ signature-more fs rest (omega arith) few

pub overflow_mul-word : goal.overflow_mul-word
overflow_mul-word c =
    let fs : List Field = c.args.fields.now in
    let rest : ℕ = c.loop-rest.rest in
    let small : signature_of (drop (rest - 1) fs) < 2 ^ 32 = below fs (rest - 1) c.requires in
    let more : c.loop-rest.word * 16 + width (get_or fs (rest - 1) One) ≡ signature_of (drop (rest - 1) fs) =
    word-more fs rest c.loop-rest.word _ c.loop-rest-test.true c.loop-rest.invariant.within c.loop-rest.invariant.word (λ i. width (get_or fs (rest - 1) One)) in
    omega (arith, small, more)

pub overflow_add-word : goal.overflow_add-word
overflow_add-word c =
    let fs : List Field = c.args.fields.now in
    let rest : ℕ = c.loop-rest.rest in
    let small : signature_of (drop (rest - 1) fs) < 2 ^ 32 = below fs (rest - 1) c.requires in
    let more : c.loop-rest.word * 16 + c.width.result ≡ signature_of (drop (rest - 1) fs) =
    word-more fs rest c.loop-rest.word c.width.result c.loop-rest-test.true c.loop-rest.invariant.within c.loop-rest.invariant.word c.width.ensures in
    omega (arith, small, more)

pub loop-rest-preserved : goal.loop-rest-preserved
loop-rest-preserved c = record {
  within = omega (arith, c.loop-rest.invariant.within);
  word = word-more c.args.fields.now c.loop-rest.rest c.loop-rest.word c.width.result c.loop-rest-test.true c.loop-rest.invariant.within c.loop-rest.invariant.word c.width.ensures;
}
