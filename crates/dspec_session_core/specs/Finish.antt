-- Believed. What the end of a session promises, said of the session that is ended.
use Rattle.std.specs.Prelude.{ℕ, ◌≡◌, ◌<◌, Bool, List, [], ◌∷◌, ◌++◌, Option}
use Rattle.dspec_session_core.specs.{Closing.ClosesAs, Closing.IsClosedBy, Consumers.view_of, Promised.IsPromisedBy, Promised.KeepsPage, Promised.called_at, Promised.entered_at, Sessions.HasAt}
use Rattle.dspec_session_core.specs.{Sessions.taken_at, Sessions.worn_at, Words.Outside.Record, Words.Outside.set_up, Words.Outside.words_of, Words.Outside.waiting, Words.Outside.Shape}
use Rattle.dspec_session_core.specs.{Words.Outside.Deed, Words.Outside.Cpu, declared.left.Left.Left, declared.session.Session.Session}

-- by what each schema has
module _ {S : Type 0} (shape_of : S → ℕ → Option Shape) (accepted : S → Record → Bool) (text : S → Record → List ℕ) where
  -- for whichever lists its CPUs had, one list of all deeds closes the session, and this is left
  abbrev pub FinishCloses : (Cpu S → List Deed → Type 0) → S → Session S → List Left → Type 0
  FinishCloses has schema it left = IsClosedBy (shape_of schema) (accepted schema) (text schema) (set_up (words_of it.shared))
      (HasAt has it.cpus.items) (worn_at it.cpus.items) (taken_at it.consumer) (view_of it.consumer).own left

  -- of what is left each CPU is promised the page, by what its calls did
  abbrev pub FinishPromises : S → Session S → List Left → Type 0
  FinishPromises schema it left = IsPromisedBy (shape_of schema) (accepted schema) (text schema) (set_up (words_of it.shared))
      (entered_at it.cpus.items) (view_of it.consumer).own (called_at it.cpus.items) (taken_at it.consumer) left

  -- one list does both, for whichever lists its CPUs had: it closes the session, and by it each CPU is promised the page
  abbrev pub FinishByOneList : (Cpu S → List Deed → Type 0) → S → Session S → List Left → Type 0
  FinishByOneList has schema it left = (p : ℕ → List Deed) → ((c : ℕ) → c < (set_up (words_of it.shared)).cpus → HasAt has it.cpus.items c (p c))
      → (g : List Deed) × ClosesAs (shape_of schema) (accepted schema) (text schema) (set_up (words_of it.shared)) (worn_at it.cpus.items) (taken_at it.consumer) (view_of it.consumer).own left p g
      × ((promised : FinishPromises schema it left) × (promised.deeds ≡ g))

  -- in short: each CPU is promised the page, of its batches that were taken, and then those that are left
  abbrev pub FinishKeeps : S → Session S → List Left → Type 0
  FinishKeeps schema it left = KeepsPage (shape_of schema) (accepted schema) (text schema) (set_up (words_of it.shared)).cpus (called_at it.cpus.items)
      (λ c l. taken_at it.consumer c ++ waiting l.rest ++ l.last ∷ []) left
