-- What one batch asks of the folder, where nothing is lost.
use Rattle.std.proofs.Common.{arith, ◌≡◌, ◌<◌, ◌+◌, ℕ, ◌⊎◌, List, [], ◌∷◌, ◌++◌, Option, Some, None, sym, ap, ◌∙◌, subst, length, slice_index}
use Rattle.std.proofs.lemmas.{Bool.Decides.nat_tests, List.get_or-set_same, Option.slice_get_within, Option.get_or_from_slice_get}
use Rattle.dspec_trace_reading.specs.Words.{EnabledRows, Passed, GotAll, missed_on, lost_more, FileWrite, Takes, AddsPacket, GetsPacket, IsNothing, Tracing, Batch, Loss}

-- what a place took stands after what it was asked for before
pub took : (old new : Option (List FileWrite)) (was : List FileWrite) (name bytes : List ℕ) → old ≡ Some was → Takes old name bytes new
    → new ≡ Some (was ++ record { name = name; bytes = bytes; refused = None } ∷ [])
took None new was name bytes e takes = absurd (cc (e))
took (Some xs) None was name bytes e takes = elim takes [ ]
took (Some xs) (Some ys) was name bytes e takes = grind (arith, nat_tests)

pub some_lost : (o : Option Loss) (l : Loss) → lost_more o l ≡ None → ⊥
some_lost None l e = absurd (cc (e))
some_lost (Some first) l e = absurd (cc (e))

module _ (e : EnabledRows) where
  -- nothing was to be written of the batch, or its packet was taken
  pub came_whole : (old new : Tracing) (b : Batch) → GetsPacket e old b new → new.lost ≡ None → (IsNothing old b × (new ≡ record old { last = None })) ⊎ AddsPacket e old b new
  came_whole old new b gets none = grind (arith, nat_tests, some_lost)

  -- what was lost once stays lost
  lost_before : (old new : Tracing) (b : Batch) → GetsPacket e old b new → new.lost ≡ None → old.lost ≡ None
  lost_before old new b gets none = grind (arith, nat_tests, came_whole)

  pub unlost : (bs : List Passed) (old new : Tracing) → GotAll (GetsPacket e) old bs new → new.lost ≡ None → old.lost ≡ None
  unlost [] old new got none = ap (λ (t : Tracing). t.lost) got ∙ none
  unlost (x ∷ xs) old new (mid, gets, rest) none = lost_before old mid x.batch gets (unlost xs mid new rest none)

  module _ (old new : Tracing) (b : Batch) (adds : AddsPacket e old b new) (wide : length old.missed ≡ 64) where
    within : b.cpu < length old.missed
    within = slice_get_within old.missed b.cpu adds.packet_is.before adds.packet_is.there

    pub missed_here : (c : ℕ) → b.cpu ≡ c → missed_on new c ≡ adds.total
    missed_here c same =
        subst (λ n. slice_index new.missed n ≡ adds.total) same (ap (λ (xs : List ℕ). slice_index xs b.cpu) adds.missed ∙ get_or-set_same old.missed b.cpu adds.total 0 within)

    pub missed_before : (c : ℕ) → b.cpu ≡ c → adds.total ≡ missed_on old c + b.drops
    missed_before c same =
        adds.packet_is.missed_is ∙ ap (λ n. n + b.drops) (sym (get_or_from_slice_get old.missed b.cpu adds.packet_is.before 0 adds.packet_is.there) ∙ ap (λ n. missed_on old n) same)
