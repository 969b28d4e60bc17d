-- A number is of one word at most.
use Rattle.std.proofs.Common.{◌≡◌, ◌<◌, refl, sym, ap, ◌∙◌, arith}
use Rattle.dspec_word.specs.Words.{SlotState, word_number, code_number, code_of}
use Rattle.dspec_word.specs.declared.code.Code.{Code}
use Rattle.dspec_word.specs.declared.code.Code.TheVariants.{Inactive, Active, ActiveOne, ActiveMany, Committing, CommittingMany, Discarding}

pub code_below : (c : Code) → code_number c < 7
code_below Inactive = omega arith
code_below Active = omega arith
code_below ActiveOne = omega arith
code_below ActiveMany = omega arith
code_below Committing = omega arith
code_below CommittingMany = omega arith
code_below Discarding = omega arith

code_back : (c : Code) → code_of (code_number c) ≡ c
code_back Inactive = refl
code_back Active = refl
code_back ActiveOne = refl
code_back ActiveMany = refl
code_back Committing = refl
code_back CommittingMany = refl
code_back Discarding = refl

pub one_code : (a b : Code) → code_number a ≡ code_number b → a ≡ b
one_code a b e = sym (code_back a) ∙ (ap code_of e ∙ code_back b)

pub one_word : (v w : SlotState) → word_number v ≡ word_number w → v ≡ w
one_word v w e =
    let a = code_below v.code in
    let b = code_below w.code in
    let p : v.issue ≡ w.issue = omega arith in
    let q : code_number v.code ≡ code_number w.code = omega arith in
    let r = one_code v.code w.code q in
    λ i. record { issue = p i; code = r i }
