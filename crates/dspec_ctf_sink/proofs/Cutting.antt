-- Bytes that are written after others, in part or whole, and cut off again.
use Rattle.std.proofs.{Common.◌≡◌, Common.◌≤◌, Common.◌+◌, Common.◌-◌, Common.◌++◌, Common.List, Common.[], Common.ℕ, Common.ap, Common.sym, Common.◌∙◌, Common.append_assoc, Common.arith}
use Rattle.std.proofs.{Common.take, Common.drop, Math.Seq.take-add, lemmas.List.take_at, lemmas.List.append-nil}
use Rattle.std.specs.{Io.KnownBytes.Appends, Io.KnownBytes.Keeps, Prelude.Option, Prelude.Some, Prelude.None}
use Rattle.dspec_ctf_sink.specs.Words.{KeepsInFront, IsCut, IsLong}

split : (bs : List ℕ) (at to : ℕ) → at ≤ to → take to bs ≡ take at bs ++ take (to - at) (drop at bs)
split bs at to below =
    let sum : to ≡ at + (to - at) = omega (arith, below) in
    ap (λ n. take n bs) sum ∙ take-add at (to - at) bs

-- some more bytes are written after the first of them
pub appends-more : (old mid new : Option (List ℕ)) (bs : List ℕ) (at to : ℕ) → at ≤ to → Appends old mid (take at bs) → Appends mid new (take (to - at) (drop at bs))
    → Appends old new (take to bs)
appends-more None mid new bs at to below first more = record {}
appends-more (Some xs) None new bs at to below first more = elim first [ ]
appends-more (Some xs) (Some ys) None bs at to below first more = elim more [ ]
appends-more (Some xs) (Some ys) (Some zs) bs at to below first more =
    more ∙ ap (λ front. front ++ take (to - at) (drop at bs)) first ∙ append_assoc xs (take at bs) (take (to - at) (drop at bs)) ∙ ap (λ rest. xs ++ rest) (sym (split bs at to below))

-- what was written after known bytes is cut off
pub cut-back : (old mid new : Option (List ℕ)) (bs : List ℕ) (n : ℕ) → IsLong old n → Appends old mid bs → IsCut mid new n → Keeps old new
cut-back None mid new bs n long begun cut = record {}
cut-back (Some xs) None new bs n long begun cut = elim begun [ ]
cut-back (Some xs) (Some ys) None bs n long begun cut = elim cut [ ]
cut-back (Some xs) (Some ys) (Some zs) bs n long begun cut = cut ∙ ap (λ all. take n all) begun ∙ take_at xs bs n long

-- what was written of some bytes is there, and couldn't be cut off
pub left-on : (old mid new : Option (List ℕ)) (bs : List ℕ) → (n : ℕ) × Appends old mid (take n bs) → Keeps mid new → KeepsInFront old new
left-on None mid new bs begun kept = ([], record {})
left-on (Some xs) None new bs begun kept = elim begun.1 [ ]
left-on (Some xs) (Some ys) None bs begun kept = elim kept [ ]
left-on (Some xs) (Some ys) (Some zs) bs begun kept = (take begun.0 bs, kept ∙ begun.1)

-- nothing more
pub goes-nowhere : (known : Option (List ℕ)) → KeepsInFront known known
goes-nowhere None = ([], record {})
goes-nowhere (Some xs) = ([], sym (append-nil xs))
