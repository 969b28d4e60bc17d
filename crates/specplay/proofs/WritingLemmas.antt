-- A text that is written piece by piece.
use Rattle.std.proofs.Common.{◌≡◌, ℕ, List, [], ◌++◌, Option, Some, None, Result, Ok, Err, IfErr, IfSome, OnErr, sym, ap, ◌∙◌, append_assoc, append-nil, take, drop, subst, take-append-drop}
use Rattle.std.specs.Io.KnownBytes.{Appends, Keeps}
use Rattle.specplay.specs.Words.{IsCutOff, Prints, AppendsBefore, AppendsBeginning, Plan, header_of, printed_text, IsPlayedText, Outcome, Header, schedule_of, IsToldOf}
use Rattle.specplay.specs.declared.fault.RunFault.{RunFault, TheVariants.Write}

appends_more : (a b c : Option (List ℕ)) (front piece : List ℕ) → Appends a b front → Appends b c piece → Appends a c (front ++ piece)
appends_more None b c front piece one two = tt
appends_more (Some xs) None c front piece one two = absurd one
appends_more (Some xs) (Some ys) None front piece one two = absurd two
appends_more (Some xs) (Some ys) (Some zs) front piece one two = two ∙ ap (λ l. l ++ piece) one ∙ append_assoc xs front piece

appends_kept : (a b c : Option (List ℕ)) (front : List ℕ) → Appends a b front → Keeps b c → Appends a c front
appends_kept None b c front one two = tt
appends_kept (Some xs) None c front one two = absurd one
appends_kept (Some xs) (Some ys) None front one two = absurd two
appends_kept (Some xs) (Some ys) (Some zs) front one two = two ∙ one

-- one more piece
pub piece_written : (a b c : Option (List ℕ)) (text rest : List ℕ) (count : ℕ) → AppendsBefore a b text rest → Appends b c (take count rest)
    → AppendsBefore a c text (drop count rest)
piece_written a b c text rest count (front, whole, before) piece = (
  front ++ take count rest,
  whole ∙ ap (λ l. front ++ l) (sym (take-append-drop count rest)) ∙ sym (append_assoc front (take count rest) (drop count rest)),
  appends_more a b c front (take count rest) before piece,
)

-- nothing more
pub rest_kept : (a b c : Option (List ℕ)) (text rest : List ℕ) → AppendsBefore a b text rest → Keeps b c → AppendsBefore a c text rest
rest_kept a b c text rest (front, whole, before) kept = (front, whole, appends_kept a b c front before kept)

-- a text that was written whole, before nothing more was
pub whole_before : (a b c : Option (List ℕ)) (text : List ℕ) → Appends a b text → Keeps b c → AppendsBeginning a c text
whole_before a b c text whole kept = ([], (text, sym (append-nil text), appends_kept a b c text whole kept))

-- what is printed of the play of a text
pub prints_of : (text page : List ℕ) (p : Plan) (outcome : Outcome) (h : Header) → IsPlayedText text p outcome → h ≡ header_of p → page ≡ printed_text h outcome → Prints text page
prints_of text page p outcome h played is printed =
    record { plan = p; outcome = outcome; read = played.read; play = played.play; whole = printed ∙ ap (λ x. printed_text x outcome) is }

-- a write fault is told of a play that nothing refused
pub told_of : {A : Type 0} (known : Option (List ℕ)) (items printed : List ℕ) (result : Result A RunFault) → IfErr result (λ fault. fault ≡ Write)
    → IfSome known (λ text. items ≡ text) → Prints items printed → IfErr result (λ fault. IfSome known (λ text. IsToldOf text fault))
told_of known items printed (Ok done) is whole prints = tt
told_of None items printed (Err fault) is whole prints = tt
told_of (Some text) items printed (Err fault) is whole prints =
    subst (IsToldOf text) (sym is) record { plan = prints.plan; read = subst (λ t. schedule_of t ≡ Ok prints.plan) whole prints.read; allowed = prints.play.allowed }

-- what a failed write left, of a play that was printed
pub cut_off_of : {A : Type 0} (known old new : Option (List ℕ)) (items printed : List ℕ) (result : Result A RunFault) {fault : RunFault} → result ≡ Err fault
    → OnErr result (AppendsBeginning old new printed) → IfSome known (λ text. items ≡ text) → Prints items printed
    → IfSome known (λ text. IsCutOff text old new)
cut_off_of None old new items printed result is written whole prints = tt
cut_off_of (Some text) old new items printed result is written whole prints = (
  printed,
  subst (λ t. Prints t printed) whole prints,
  subst (λ r. OnErr r (AppendsBeginning old new printed)) is written,
)
