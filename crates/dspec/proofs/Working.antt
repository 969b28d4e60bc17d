-- CPUs that are paired with workers, what those did, and both apart again.
use Rattle.std.proofs.Common.{◌≡◌, ℕ, zero, suc, ◌<◌, List, [], ◌∷◌, ◌++◌, length, map, take, drop, append_assoc, Some, refl, sym, ap, ◌∙◌, subst, get_or}
use Rattle.std.proofs.Math.Seq.{take-append_seam}
use Rattle.std.proofs.lemmas.{List.length-map, List.map_push, Option.slice_get-map, Option.slice_get_read}
use Rattle.std.specs.{Option.option_map, Prelude.slice_get}
use Rattle.dspec.specs.Words.{EnabledRows, CallsMade, called, number_in, schema_of, IsCallable, IsSession, AllCallable, AllReturned, Returned, ThenServed, AllNumbered, AllWorked, WorkedBy, cpus_of}
use Rattle.dspec.specs.Words.{workers_of, Cpu, Shared, Session}
use Rattle.dspec.specs.declared.workers.Working.{Working}

module _ {A B : Type 0} (f : A → B) where
  -- one more is moved into the pairs
  pub moved_in : (ps : List A) (p : A) (now : List A) (x : B) (xs ys all : List B) → xs ≡ x ∷ ys → f p ≡ x → now ≡ ps ++ p ∷ [] → map f ps ++ xs ≡ all → map f now ++ ys ≡ all
  moved_in ps p now x xs ys all cons same is was =
      ap (λ n. map f n ++ ys) is ∙ (ap (λ t. t ++ ys) (map_push f ps p) ∙ (append_assoc (map f ps) (f p ∷ []) ys
      ∙ (ap (λ z. map f ps ++ z ∷ ys) same ∙ (ap (λ t. map f ps ++ t) (sym cons) ∙ was))))

  -- one more is moved out of them
  pub moved_out : (xs : List B) (ps : List A) (p : A) (qs : List A) (x : B) (now all : List B) → ps ≡ p ∷ qs → f p ≡ x → now ≡ xs ++ x ∷ [] → xs ++ map f ps ≡ all → now ++ map f qs ≡ all
  moved_out xs ps p qs x now all cons same is was =
      ap (λ n. n ++ map f qs) is ∙ (append_assoc xs (x ∷ []) (map f qs) ∙ (ap (λ z. xs ++ z ∷ map f qs) (sym same) ∙ (ap (λ t. xs ++ map f t) (sym cons) ∙ was)))

  -- what stands at a place came of what stands there
  pub there_was : (ps : List A) (c : ℕ) (x : B) → slice_get (map f ps) c ≡ Some x → (p : A) × (slice_get ps c ≡ Some p) × (f p ≡ x)
  there_was [] c x at = absurd (cc (at))
  there_was (p ∷ ps) zero x at = (p, refl, cc (at))
  there_was (p ∷ ps) (suc c) x at = there_was ps c x at

  pub there_is_of : (ps : List A) (c : ℕ) (p : A) → slice_get ps c ≡ Some p → slice_get (map f ps) c ≡ Some (f p)
  there_is_of ps c p at = slice_get-map f ps c ∙ ap (option_map f) at

module _ {W : Type 0} where
  -- the pair at a place can be called
  pub pair_callable : (shared : Shared) (pairs : List (Working W)) (i : ℕ) (p : Working W) → AllCallable shared (cpus_of pairs) → i < length pairs → p ≡ get_or pairs i p → IsCallable shared p.cpu
  pair_callable shared pairs i p all lt at = all i p.cpu (there_is_of (λ (x : Working W). x.cpu) pairs i p (slice_get_read pairs (length pairs) i p refl lt at))

  module _ (does : EnabledRows → ℕ → W → CallsMade → W → CallsMade → Type 0) where
    pub all_worked : (n : ℕ) (old new items : List (Working W)) → AllWorked does old new → old ≡ items → n ≡ length new
        → AllWorked does items (take n (new ++ drop (length new) items))
    all_worked n old new items worked e size =
        let filled : take n (new ++ drop (length new) items) ≡ new = ap (λ k. take k (new ++ drop (length new) items)) size ∙ take-append_seam new (drop (length new) items) in
        subst (λ xs. AllWorked does xs (take n (new ++ drop (length new) items))) e (subst (λ ys. AllWorked does old ys) (sym filled) worked)

    -- what the workers did is what was done on the CPUs
    pub pairs_returned : (old new : List (Working W)) → AllNumbered (cpus_of old) → AllWorked does old new
        → AllReturned (λ s. ThenServed (WorkedBy (does s) (workers_of old) (workers_of new))) (cpus_of old) (cpus_of new)
    pairs_returned old new numbers worked = record {
      all = length-map new (λ (p : Working W). p.cpu) ∙ (worked.all ∙ sym (length-map old (λ (p : Working W). p.cpu)));
      each = λ c cpu at.
          let (p, there, is) = there_was (λ (x : Working W). x.cpu) new c cpu at in
          let (was, before, one) = worked.each c p there in
          let old_there = there_is_of (λ (x : Working W). x.cpu) old c was before in
          let number = numbers c was.cpu old_there in
          let done : WorkedBy (does (schema_of was.cpu)) (workers_of old) (workers_of new) (number_in was.cpu) (called was.cpu) one.did.returned = record {
            before = was.worker;
            was = ap (λ n. slice_get (workers_of old) n) number ∙ there_is_of (λ (x : Working W). x.worker) old c was before;
            after = p.worker;
            is = ap (λ n. slice_get (workers_of new) n) number ∙ there_is_of (λ (x : Working W). x.worker) new c p there;
            did = one.did.worked;
          } in
          let served : ThenServed (WorkedBy (does (schema_of was.cpu)) (workers_of old) (workers_of new)) (number_in was.cpu) (called was.cpu) (called p.cpu) = record {
            returned = one.did.returned;
            worked = done;
            served = one.did.served;
          } in
          let returned : Returned (λ s. ThenServed (WorkedBy (does s) (workers_of old) (workers_of new))) was.cpu p.cpu = record { same = one.same; did = served } in
          (was.cpu, old_there, subst (λ (x : Cpu EnabledRows). Returned (λ s. ThenServed (WorkedBy (does s) (workers_of old) (workers_of new))) was.cpu x) is returned);
    }

    pub workers_all : (old new : List (Working W)) → AllWorked does old new → length (workers_of new) ≡ length (workers_of old)
    workers_all old new worked = length-map new (λ (p : Working W). p.worker) ∙ (worked.all ∙ sym (length-map old (λ (p : Working W). p.worker)))

-- the CPUs of a session stand at the places of their numbers
pub all_numbered : {S : Type 0} (schema : S) (session : Session S) → IsSession schema session → AllNumbered session.cpus.items
all_numbered schema session is c cpu at = (is.each c cpu at).number
