-- What seats knew when they were joined.
use Rattle.std.proofs.Common.{◌≡◌, ◌≤◌, arith, true, false, List, [], ◌∷◌, ◌++◌, length, refl, sym, ap, ◌∙◌, subst, ⊎_elim}
use Rattle.std.proofs.lemmas.Bool.Decides.{nat_tests}
use Rattle.dspec_table.specs.Words.{Deed, Holder, of_nobody, doer, part_of, same_holder, Since, here, more, Each, In}
use Rattle.dspec_table.specs.declared.rule.Past.{Past}
use Rattle.dspec_deeds.proofs.TestLemmas.{either_way}
use Rattle.dspec_table.proofs.HolderTests.{part_next}

pub each_map : (P Q : Past → Type 0) → ((p : Past) → P p → Q p) → (ps : List Past) → Each P ps → Each Q ps
each_map P Q f [] all = tt
each_map P Q f (p ∷ ps) all = (f p all.0, each_map P Q f ps all.1)

pub each_append : (P : Past → Type 0) (ps qs : List Past) → Each P ps → Each P qs → Each P (ps ++ qs)
each_append P [] qs a b = b
each_append P (p ∷ ps) qs a b = (a.0, each_append P ps qs a.1 b)

pub each_in : (P : Past → Type 0) (ps : List Past) (p : Past) → Each P ps → In p ps → P p
each_in P [] p all i = absurd i
each_in P (q ∷ qs) p all i = ⊎_elim (λ (e : p ≡ q). subst P (sym e) all.0) (λ r. each_in P qs p all.1 r) i

-- deeds of others leave a part as it is
pub since_part : (w : Holder) (seen log : List Deed) → Since w seen log → part_of w seen ≡ part_of w log
since_part w seen _ here = refl
since_part w seen (d ∷ h) (more s other) = since_part w seen h s ∙ sym (part_next w d h ∙ rw other refl)

part_grows : (w : Holder) (seen log : List Deed) → Since of_nobody seen log → length (part_of w seen) ≤ length (part_of w log)
part_grows w seen _ here = omega arith
part_grows w seen (d ∷ h) (more s other) = grind (arith, nat_tests, part_grows w seen h s)

-- where a part stays as it is, the list goes on by deeds of others
pub others_since : (w : Holder) (seen log : List Deed) → part_of w seen ≡ part_of w log → Since of_nobody seen log → Since w seen log
others_since w seen _ e here = here
others_since w seen (d ∷ h) e (more s other) = ⊎_elim
    (λ (t : same_holder w (doer d h) ≡ true).
    let r = part_grows w seen h s in
    let one : part_of w (d ∷ h) ≡ d ∷ part_of w h = part_next w d h ∙ rw t refl in
    let longer = ap (length {A = Deed}) one in
    let same = ap (length {A = Deed}) e in
    absurd (omega arith))
    (λ (f : same_holder w (doer d h) ≡ false). more (others_since w seen h (e ∙ (part_next w d h ∙ rw f refl)) s) f)
    (either_way (same_holder w (doer d h)))
