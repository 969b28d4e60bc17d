-- What was lent of a session is given back.
use Rattle.std.proofs.{Common.◌≡◌, Common.ℕ, Common.◌<◌, Common.◌++◌, Common.List, Common.length, Common.take, Common.drop, Common.refl, Common.sym, Common.ap, Common.◌∙◌, Common.subst}
use Rattle.std.proofs.{Common.get_or, Math.Seq.take-append_seam, lemmas.Option.slice_get_read}
use Rattle.std.specs.Prelude.{slice_get}
use Rattle.fuzz.specs.Words.{EnabledRows, words_of, identity, Stays, pairs_of, IsCpuOf, IsSession, AllCanBeCalled, AllWereCalled, CanBeCalled, Cpu, Shared, Session}

-- each CPU of a session can be lent
pub all_can : (schema : EnabledRows) (session : Session EnabledRows) → IsSession schema session → AllCanBeCalled session.shared schema session.cpus.items
all_can schema session is c cpu at = let e = is.each c cpu at in record { callable = e.belongs; schema_is = e.one }

-- with all CPUs and the consumer back it is a session again
pub back_again : (schema : EnabledRows) (session back : Session EnabledRows) → IsSession schema session → AllWereCalled session.cpus.items back.cpus.items
    → Stays (words_of session.shared) session.consumer back.consumer → IsSession schema (record { shared = session.shared; cpus = back.cpus; consumer = back.consumer })
back_again schema session back is called stays = record {
  checked = is.checked;
  consumer = stays.session;
  all = called.count ∙ is.all;
  each = λ c cpu at.
      let (was, there, s) = called.each c cpu at in
      subst (λ o. IsCpuOf schema (words_of session.shared) c o (identity cpu)) (sym (ap (λ l. slice_get l c) stays.same.pairs))
      (subst (λ i. IsCpuOf schema (words_of session.shared) c (slice_get (pairs_of session.consumer) c) i) (sym s) (is.each c was there));
}

-- a CPU is at its place
pub at_place : (shared : Shared) (schema : EnabledRows) (cpus : List (Cpu EnabledRows)) (i : ℕ) (cpu : Cpu EnabledRows) → AllCanBeCalled shared schema cpus → i < length cpus
    → cpu ≡ get_or cpus i cpu → CanBeCalled shared schema cpu
at_place shared schema cpus i cpu all lt at = all i cpu (slice_get_read cpus (length cpus) i cpu refl lt at)

-- a list that was written through a slice of all of it
written : {A : Type 0} (n : ℕ) (new old : List A) → n ≡ length new → take n (new ++ drop (length new) old) ≡ new
written n new old e = ap (λ k. take k (new ++ drop (length new) old)) e ∙ take-append_seam new (drop (length new) old)

pub all_called : (n : ℕ) (old new items : List (Cpu EnabledRows)) → AllWereCalled old new → old ≡ items → n ≡ length new
    → AllWereCalled items (take n (new ++ drop (length new) items))
all_called n old new items called e size =
    subst (λ xs. AllWereCalled xs (take n (new ++ drop (length new) items))) e (subst (λ ys. AllWereCalled old ys) (sym (written n new items size)) called)
