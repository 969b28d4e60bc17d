-- Which of a CPU's sealed batches wasn't taken at the close: one at most.
use Rattle.std.proofs.Common.{◌≡◌, ℕ, ◌+◌, ◌≤◌, List, [], ◌∷◌, ◌++◌, length, reverse, Option, None, refl, sym, ap, ◌∙◌, append-nil, arith}
use Rattle.std.proofs.lemmas.{Bool.Decides.nat_tests, List.reverse-append, List.length-reverse, List.length-append}
use mathlib.Core.List.{IsPrefix}
use Rattle.dspec_session_core.specs.Words.{Batch, waiting, rest_of}

-- the batches taken, and the one in hand
held_back_last : (taken : List Batch) (x : Option Batch) → reverse (taken ++ waiting x) ≡ waiting x ++ reverse taken
held_back_last taken x = grind (arith, nat_tests, reverse-append)

-- a prefix is no longer
prefix_length : (xs ys : List Batch) → IsPrefix xs ys → length xs ≤ length ys
prefix_length xs ys p = let e : length xs + length p.0 ≡ length ys = sym (length-append xs p.0) ∙ ap length p.1 in omega arith

-- no more of them than one
rest_told : (x : Option Batch) (taken drained : List Batch) → length (waiting x) + length drained ≤ 1
    → reverse (taken ++ waiting (rest_of x drained)) ≡ waiting x ++ reverse (taken ++ drained)
rest_told x taken [] le = held_back_last taken x ∙ ap (λ bs. waiting x ++ reverse bs) (sym (append-nil taken))
rest_told None taken (b ∷ []) le = refl
rest_told x taken drained le = absurd (omega arith)

-- The batches sealed and the spare in hand are one more, at most, than the spares that came, and these no more than were given
-- back, thus than were taken.
pub one_left : (x : Option Batch) (spare : ℕ) (handed spares taken given drained : List Batch) → length (waiting x ++ reverse handed) + spare ≤ 1 + length spares
    → IsPrefix spares given → length given ≤ length taken → taken ++ drained ≡ handed
    → reverse (taken ++ waiting (rest_of x drained)) ≡ waiting x ++ reverse handed
one_left x spare handed spares taken given drained few prefix back e = grind (arith, nat_tests, prefix_length, length-append, length-reverse, rest_told)
