-- A folder that had no file: what it was asked for tells where it was made.
use Rattle.std.proofs.{Common.◌≡◌, Common.◌≢◌, Common.List, Common.[], Common.◌∷◌, Common.◌++◌, Common.ℕ, Common.ap, Common.sym, Common.refl, Common.◌∙◌, lemmas.List.append-nil}
use Rattle.dspec_trace_reading.specs.Words.{FileWrite, brought_to, file_of, LeaveNone, made_at, path_of}
use Rattle.dspec_ctf_sink.proofs.Written.{brought_elsewhere, brought_whole, file_of_more}

-- after what left no file anything, one write brings its own alone
pub alone : (was : List FileWrite) (w : FileWrite) (name : List ℕ) → LeaveNone was → name ≢ [] → file_of name (was ++ w ∷ []) ≡ brought_to name w
alone was w name none named = file_of_more name was w ∙ ap (λ xs. xs ++ brought_to name w) (none name named)

-- a folder that was just made has no file
pub made_new : (path : List ℕ) → LeaveNone (made_at path ∷ [])
made_new path name named = append-nil (brought_to name (made_at path)) ∙ brought_elsewhere name (made_at path) (λ s. named (sym s))

pub made_there : (path : List ℕ) → path_of (made_at path ∷ []) ≡ path
made_there path = append-nil (brought_to [] (made_at path)) ∙ brought_whole [] [] path refl

-- a write to a file leaves the folder where it is
pub path_stays : (was : List FileWrite) (w : FileWrite) → w.name ≢ [] → path_of (was ++ w ∷ []) ≡ path_of was
path_stays was w named = file_of_more [] was w ∙ ap (λ xs. path_of was ++ xs) (brought_elsewhere [] w named) ∙ append-nil (path_of was)
