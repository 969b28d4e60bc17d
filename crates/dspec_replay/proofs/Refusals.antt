-- Turns one after the other: the first that isn't played, and the calls that have ended.
use Prim.Native.Nat.{suc}
use Rattle.std.proofs.Common.{◌≡◌, ◌<◌, ◌≤◌, ◌+◌, ◌++◌, ◌∷◌, [], ℕ, Bool, List, Option, Some, None, length, map, Result, Ok, Err, IfOk, take, drop, drop-cons, get_or, add-one, refl, sym, ap, ◌∙◌}
use Rattle.std.proofs.Common.{subst, arith}
use Rattle.std.proofs.lemmas.List.{drop_all, take_all, take_more, map-append}
use Rattle.dspec_replay.specs.Words.{Record, start_fault, EndedCall, IsDue, call_that_ended, first_refusal, first_of, schedule_refusal, setup_refusal, turn_refusal, whole_call_of, Turn, Config}
use Rattle.dspec_replay.specs.declared.session_fault.SessionFault.{SessionFault, TheVariants.Play, TheVariants.NoText}
use Rattle.dspec_interleaving.specs.declared.outcome.PlayFault.TheVariants as play_fault

-- what is due here is due there
pub due_by : (a b : Option SessionFault) (h : SessionFault) → ((x : SessionFault) → a ≡ Some x → b ≡ Some x) → IsDue a h → IsDue b h
due_by a b (Play play_fault.Memory) f d = d
due_by a b (NoText c) f d = d
due_by a b h f d = f h d

module _ (accepted : Record → Bool) (k : Config) (ts : List Turn) where
  -- so many turns were played, and ended as their calls
  pub record IsSoFar (i : ℕ) (answers : List EndedCall) : Type 0 where
    pub refusals : first_refusal accepted k.cpus i (drop i ts) ≡ first_refusal accepted k.cpus 0 ts
    pub calls : map call_that_ended answers ≡ map whole_call_of (take i ts)

  pub so_far_first : IsSoFar 0 []
  so_far_first = record { refusals = refl; calls = refl }

  -- one more turn
  pub so_far_more : (i n : ℕ) (t d : Turn) (answers after : List EndedCall) → i < length ts → t ≡ get_or ts i d → n ≡ k.cpus → turn_refusal accepted n i t ≡ None
      → map call_that_ended after ≡ map call_that_ended answers ++ whole_call_of t ∷ [] → IsSoFar i answers → IsSoFar (i + 1) after
  so_far_more i n t d answers after lt is all none next s =
      let cons : drop i ts ≡ t ∷ drop (suc i) ts = drop-cons ts i d lt ∙ ap (λ x. x ∷ drop (suc i) ts) (sym is) in
      let one : drop (suc i) ts ≡ drop (i + 1) ts = ap (λ m. drop m ts) (sym (add-one i)) in
      let allowed : turn_refusal accepted k.cpus i t ≡ None = subst (λ m. turn_refusal accepted m i t ≡ None) all none in
      let more = ap (λ l. map whole_call_of l) (take_more ts i d lt) ∙ (map-append whole_call_of (take i ts) (get_or ts i d ∷ [])
      ∙ ap (λ x. map whole_call_of (take i ts) ++ whole_call_of x ∷ []) (sym is)) in
      record {
        refusals = ap (λ l. first_refusal accepted k.cpus (i + 1) l) (sym one)
            ∙ (sym (ap (λ h. first_of h (first_refusal accepted k.cpus (i + 1) (drop (suc i) ts))) allowed)
            ∙ (sym (ap (λ l. first_refusal accepted k.cpus i l) cons) ∙ s.refusals));
        calls = next ∙ (ap (λ l. l ++ whole_call_of t ∷ []) s.calls ∙ sym more);
      }

  -- the turn is the one that the schedule isn't played for
  pub so_far_refused : (i n : ℕ) (t d : Turn) (answers : List EndedCall) (h : SessionFault) → i < length ts → t ≡ get_or ts i d → n ≡ k.cpus → start_fault k ≡ None
      → IsDue (turn_refusal accepted n i t) h → IsSoFar i answers → IsDue (schedule_refusal accepted k ts) h
  so_far_refused i n t d answers h lt is all fine due s =
      let cons : drop i ts ≡ t ∷ drop (suc i) ts = drop-cons ts i d lt ∙ ap (λ x. x ∷ drop (suc i) ts) (sym is) in
      due_by (turn_refusal accepted n i t) (schedule_refusal accepted k ts) h
      (λ x some.
      let here : turn_refusal accepted k.cpus i t ≡ Some x = subst (λ m. turn_refusal accepted m i t ≡ Some x) all some in
      ap (λ f. first_of (setup_refusal f) (first_refusal accepted k.cpus 0 ts)) fine
      ∙ (sym s.refusals ∙ (ap (λ l. first_refusal accepted k.cpus i l) cons ∙ ap (λ q. first_of q (first_refusal accepted k.cpus (i + 1) (drop (suc i) ts))) here)))
      due

  -- after the last turn none was refused
  pub so_far_last : (i : ℕ) (answers : List EndedCall) → length ts ≤ i → start_fault k ≡ None → IsSoFar i answers
      → (schedule_refusal accepted k ts ≡ None) × (map call_that_ended answers ≡ map whole_call_of ts)
  so_far_last i answers le fine s = (
    ap (λ f. first_of (setup_refusal f) (first_refusal accepted k.cpus 0 ts)) fine ∙ (sym s.refusals ∙ ap (λ l. first_refusal accepted k.cpus i l) (drop_all i ts le)),
    s.calls ∙ ap (λ l. map whole_call_of l) (take_all i ts le),
  )

-- what holds of a result holds of it by what follows
pub ok_then : {T E : Type 0} {P Q : T → Type 0} (r : Result T E) → ((x : T) → P x → Q x) → IfOk r P → IfOk r Q
ok_then (Ok x) f p = f x p
ok_then (Err e) f p = p
