-- A list that closes the lists of the CPUs promises each of them what the page says of its calls.
use Rattle.std.proofs.Common.{◌≡◌, ℕ, zero, suc, ◌<◌, Bool, List, [], ◌∷◌, ◌++◌, length, Option, Some, refl, sym, ap, ◌∙◌, subst, arith}
use Rattle.std.proofs.lemmas.{Bool.Decides.nat_tests, List.length-reverse, Option.slice_get_within}
use Rattle.std.specs.{Option.option_map_or, Prelude.reverse, Prelude.slice_get}
use Rattle.dspec_session_core.specs.Leaving.{Has}
use Rattle.dspec_session_core.specs.Words.{Record, records, Speculation, part, word_at, stream, bare, own_closed, did, all_did, Promise, known, CallsMade, called, no_calls, settled_did, number_in}
use Rattle.dspec_session_core.specs.Words.{seat_of, worn_of, AreSealed, waiting, ClosesAs, HoldInOrder, IsPromised, IsPromisedBy, KeepsPage, called_at, closed_up, entered_at, settle_deeds, worn_at}
use Rattle.dspec_session_core.specs.Words.{HoldRecords, Shape, Config, CpuActor, DecideFate, Deed, Report, Batch, Cpu}
use Rattle.dspec_session_core.specs.declared.left.Left.{Left}
use Rattle.dspec_buffer.proofs.{SchemaLaws.SchemaLaws, Walks.reads_back}
use Rattle.dspec_promise.proofs.{Kept.always, Kept.promise, OwnDid.did_part, OwnDid.did_bare, Refused.given_once, Refused.reasons}
use Rattle.dspec_session_core.proofs.{ClosedDeeds.AddsSettlements, ClosedDeeds.close_adds, ClosedDeeds.sealed_before, ClosingSaid.closed_for, ClosingSaid.closing_said, ClosingSaid.did_closed}
use Rattle.dspec_session_core.proofs.{Mixes.mix_of_all, Mixes.with_seals}

-- there is one at each place
pub there_is : {X : Type 0} (xs : List X) (i : ℕ) → i < length xs → (x : X) × (slice_get xs i ≡ Some x)
there_is [] i lt = absurd (omega arith)
there_is (x ∷ xs) zero lt = (x, refl)
there_is (x ∷ xs) (suc i) lt = there_is xs i (omega arith)

module _ {S : Type 0} (cpus : List (Cpu S)) (c : ℕ) (cpu : Cpu S) (at : slice_get cpus c ≡ Some cpu) where
  -- what the CPU's calls did, and how many were worn
  pub called_there : called_at cpus c ≡ called cpu
  called_there = ap (λ (o : Option (Cpu S)). option_map_or (λ (x : Cpu S). called x) o no_calls) at

  worn_there : worn_at cpus c ≡ worn_of cpu
  worn_there = ap (λ (o : Option (Cpu S)). option_map_or (λ (x : Cpu S). worn_of x) o 0) at

  pub same_worn : worn_at cpus c ≡ (called_at cpus c).worn
  same_worn = worn_there ∙ sym (ap (λ (x : CallsMade). x.worn) called_there)

  -- the deeds that its seat entered
  pub entered_there : entered_at cpus c ≡ (known (seat_of cpu)).own
  entered_there = ap (λ (o : Option (Cpu S)). option_map_or (λ (x : Cpu S). (known (seat_of x)).own) o []) at

module _ {S : Type 0} (shape_of : S → ℕ → Option Shape) (accepted : S → Record → Bool) (text : S → Record → List ℕ) where
  -- a list that the CPU has tells what its calls did
  pub had_tells : (c : ℕ) (cpu : Cpu S) (p : List Deed) → number_in cpu ≡ c → Has shape_of accepted text cpu p → did c p ≡ (called cpu).done
  had_tells c cpu p number has = sym (did_bare c p) ∙ (ap (did c) has.own ∙ ap (λ n. did n (known (seat_of cpu)).own) (sym number))

-- what the buffers of batches hold is what their bytes are the texts of
hold_records : (shape : ℕ → Option Shape) (accepted : Record → Bool) (text : Record → List ℕ) → SchemaLaws shape accepted text → (bs : List Batch) (rs : List Record)
    → HoldInOrder shape accepted text bs rs → HoldRecords shape accepted text bs rs
hold_records shape accepted text laws [] rs none = none
hold_records shape accepted text laws (b ∷ bs) rs (ps, rest, has, is, more) =
    (reverse (records ps), rest, reads_back shape accepted text laws b.buffer ps has, has.count_is ∙ sym (length-reverse (records ps)), is, hold_records shape accepted text laws bs rest more)

module _ (shape : ℕ → Option Shape) (accepted : Record → Bool) (text : Record → List ℕ) (laws : SchemaLaws shape accepted text) (k : Config) (worn : ℕ → ℕ)
    (taken : ℕ → List Batch) (consumer : List Deed) (left : List Left) (p : ℕ → List Deed) (g : List Deed)
    (closes : ClosesAs shape accepted text k worn taken consumer left p g) where
  -- what the close settled for each CPU
  abbrev closed : ℕ → List (Speculation × DecideFate)
  closed c = closed_for shape k closes.before c

  closing_is : g ≡ closed_up closed k.cpus closes.before
  closing_is = closes.closing_is ∙ closing_said shape k closes.before

  -- what a CPU did is what its list did, and what the close settled for it
  answered : (c : ℕ) → c < k.cpus → did c g ≡ settled_did (closed c) ++ did c (p c)
  answered c lt = grind (arith, nat_tests, closing_is, did_closed, did_part)

  -- a CPU's part has settlements in front of its list
  added : (c : ℕ) → AddsSettlements c (p c) (own_closed shape k (λ s. word_at s g) c k.nspec (p c))
  added c = close_adds shape k (λ s. word_at s g) c k.nspec (p c)

  own_part : (c : ℕ) (l : Left) → slice_get left c ≡ Some l → part (CpuActor c) g ≡ settle_deeds c (added c).0 ++ p c
  own_part c l at = (closes.each c l at).own ∙ (added c).1

  each_promised : (c : ℕ) (l : Left) (calls : CallsMade) → slice_get left c ≡ Some l → did c (p c) ≡ calls.done → worn c ≡ calls.worn
      → IsPromised shape accepted text k.cpus (all_did g) c calls (closed c) (taken c ++ waiting l.rest ++ l.last ∷ []) l.report
  each_promised c l calls at done wears =
      let each = closes.each c l at in
      let lt : c < k.cpus = subst (λ n. c < n) closes.all (slice_get_within left c l at) in
      record {
        answered = answered c lt ∙ ap (λ ds. settled_did (closed c) ++ ds) done;
        worn = ap (λ (r : Report). r.worn) each.reported ∙ wears;
        seen = stream c g;
        hold = hold_records shape accepted text laws (taken c ++ waiting l.rest ++ l.last ∷ []) (stream c g) each.kept;
        promise = subst (Promise k.cpus (all_did g) c (stream c g)) (sym each.reported) (promise shape k c (worn c) g closes.legal closes.waits lt);
      }

  promised_by : (entered : ℕ → List Deed) (calls : ℕ → CallsMade) → ((c : ℕ) → c < k.cpus → bare (p c) ≡ entered c)
      → ((c : ℕ) → c < k.cpus → did c (p c) ≡ (calls c).done) → ((c : ℕ) → c < k.cpus → worn c ≡ (calls c).worn)
      → IsPromisedBy shape accepted text k entered consumer calls taken left
  promised_by entered calls bares done wears = record {
    before = closes.before;
    own = p;
    nothing_else = mix_of_all k closes.before p consumer closes.all_before.authors closes.all_before.own closes.all_before.consumer_is;
    sealed = λ c l at.
        let lt : c < k.cpus = subst (λ n. c < n) closes.all (slice_get_within left c l at) in
        let bs = reverse (taken c ++ waiting l.rest) in
        with_seals shape accepted text k c (entered c) bs (p c) (bares c lt) (sealed_before shape accepted text k c (added c).0 (p c) bs
        (subst (λ q. AreSealed shape accepted text k c q bs) (own_part c l at) (closes.each c l at).sealed));
    closed = closed;
    deeds = g;
    closing = closing_is;
    reasons = reasons shape k g closes.legal.0;
    once = given_once k g closes.legal.0.0;
    always = always shape k g closes.legal;
    each = λ c l at.
        let lt : c < k.cpus = subst (λ n. c < n) closes.all (slice_get_within left c l at) in
        each_promised c l (calls c) at (done c lt) (wears c lt);
  }

  -- and the list is that one
  pub promised_with : (entered : ℕ → List Deed) (calls : ℕ → CallsMade) → ((c : ℕ) → c < k.cpus → bare (p c) ≡ entered c)
      → ((c : ℕ) → c < k.cpus → did c (p c) ≡ (calls c).done) → ((c : ℕ) → c < k.cpus → worn c ≡ (calls c).worn)
      → (promised : IsPromisedBy shape accepted text k entered consumer calls taken left) × (promised.deeds ≡ g)
  unfolding promised_by
  promised_with entered calls bares done wears = (promised_by entered calls bares done wears, refl)

module _ (shape : ℕ → Option Shape) (accepted : Record → Bool) (text : Record → List ℕ) where
  -- the page alone, without the list
  pub page_alone : (k : Config) (entered : ℕ → List Deed) (consumer : List Deed) (calls : ℕ → CallsMade) (taken : ℕ → List Batch) (left : List Left)
      → IsPromisedBy shape accepted text k entered consumer calls taken left
      → KeepsPage shape accepted text k.cpus calls (λ c l. taken c ++ waiting l.rest ++ l.last ∷ []) left
  page_alone k entered consumer calls taken left by = record { all = all_did by.deeds; closed = by.closed; each = by.each }
