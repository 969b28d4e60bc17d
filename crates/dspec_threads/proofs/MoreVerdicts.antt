-- A verdict more is said to one lane, and done after others.
use Rattle.std.proofs.Common.{◌≡◌, ℕ, ◌+◌, ◌<◌, ◌≤◌, Bool, true, false, List, [], ◌∷◌, ◌++◌, length, refl, sym, ap, ◌∙◌, subst, arith, append_assoc, get_or}
use Rattle.std.proofs.Math.Seq.{map-set_same}
use Rattle.std.proofs.lemmas.{Bool.Decides.nat_tests, List.map-set, List.length-append, Option.slice_get-map, Option.slice_get_read}
use Rattle.std.specs.Prelude.{MatchBool, slice_set}
use mathlib.Core.List.{IsPrefix}
use Rattle.dspec_threads.specs.Words.{Ghosts, Speculation, SaysTo, SaysWithin, room_of_lane, rooms_of_lanes, said_by, DoesVerdict, DoesVerdicts, SettlesNext, Deed, Cpu, Lane}
use Rattle.dspec_threads.specs.declared.{saying.Sayer.Sayer, verdict.Verdict.Verdict}

module _ {S : Type 0} {g : Ghosts S} (has : Cpu S → List Deed → Type 0) (may : Speculation → Bool → Type 0) where
  does_snoc : (vs : List Verdict) (v : Verdict) (old mid new : Lane S g) → DoesVerdicts has may vs old mid → may v.path.id v.keep → DoesVerdict has v mid new
      → DoesVerdicts has may (vs ++ v ∷ []) old new
  does_snoc [] v old mid new same said one = (said, (new, subst (λ (l : Lane S g). DoesVerdict has v l new) same one, refl))
  does_snoc (x ∷ xs) v old mid new (its, (next, first, rest)) said one = (its, (next, first, does_snoc xs v next mid new rest said one))

  pub one_more_settled : (before mid after : List Verdict) (n : ℕ) (v : Verdict) (old between new : Lane S g) → SettlesNext has may before mid n old between
      → after ≡ mid ++ v ∷ [] → may v.path.id v.keep → DoesVerdict has v between new → SettlesNext has may before after (n + 1) old new
  one_more_settled before mid after n v old between new so came said one = record {
    these = so.these ++ v ∷ [];
    came = came ∙ (ap (λ xs. xs ++ v ∷ []) so.came ∙ append_assoc before so.these (v ∷ []));
    count = (let long = length-append so.these (v ∷ []) in let count = so.count in omega arith);
    does = does_snoc so.these v old between new so.does said one;
  }

-- and so it is after one of them
pub still_seen : (all done left now rest : List Verdict) {v : Verdict} → now ≡ done ++ v ∷ [] → left ≡ v ∷ rest → IsPrefix all (done ++ left) → IsPrefix all (now ++ rest)
still_seen all done left now rest {v} came is (more, e) =
    (more, e ∙ (ap (λ xs. done ++ xs) is ∙ (sym (append_assoc done (v ∷ []) rest) ∙ ap (λ xs. xs ++ rest) (sym came))))

module _ {J : Type 0} where
  -- what was said to one of the lanes
  pub said_to_one : (ss : List (Sayer J)) (i : ℕ) (s t : Sayer J) (v : Verdict) (a : Bool) → i < length ss → s ≡ get_or ss i s
      → MatchBool a (said_by t ≡ said_by s ++ v ∷ []) (said_by t ≡ said_by s) → SaysTo i v a ss (slice_set ss i t)
  said_to_one ss i s t v true lt is said = grind (arith, nat_tests, slice_get-map, slice_get_read, map-set)
  said_to_one ss i s t v false lt is said =
      let f : Sayer J → List Verdict = said_by in map-set_same f ss i t s (said ∙ ap f is)

  within : (ss : List (Sayer J)) (i : ℕ) (s t : Sayer J) (a : Bool) (r : ℕ) → room_of_lane s ≡ r
      → MatchBool a (room_of_lane s ≤ room_of_lane t + 1) (room_of_lane s ≡ 0)
      → MatchBool a ((n : ℕ) × (rooms_of_lanes (slice_set ss i t) ≡ slice_set (rooms_of_lanes ss) i n) × (r ≤ n + 1)) (r ≡ 0)
  within ss i s t true r same room =
      let f : Sayer J → ℕ = room_of_lane in
      (f t, map-set f ss i t, subst (λ n. n ≤ f t + 1) same room)
  within ss i s t false r same room = sym same ∙ room

  -- a lane that is there was told, and has one place less at the most; or it has none
  pub said_within : (ss : List (Sayer J)) (i : ℕ) (s t : Sayer J) (a : Bool) → i < length ss → s ≡ get_or ss i s
      → MatchBool a (room_of_lane s ≤ room_of_lane t + 1) (room_of_lane s ≡ 0) → SaysWithin i a ss (slice_set ss i t)
  said_within ss i s t a lt is room = grind (arith, nat_tests, slice_get-map, slice_get_read, within)
