-- What a CPU's batches carry as drops, and how many records came out of it, is what its report counts.
use Rattle.std.proofs.Common.{◌≡◌, ◌+◌, ◌&&◌, ℕ, Bool, true, false, List, [], ◌∷◌, ◌++◌, Option, refl, sym, ap, ◌∙◌, arith, length, reverse, append_assoc}
use Rattle.std.proofs.lemmas.{Bool.Decides.nat_tests, List.length-reverse, List.reverse-append}
use Rattle.dspec_trace_reading.specs.Words.{Record, CallsMade, waiting, IsPromised, left_batches, drops_carried, Did, HandedRecord, cpu_stream, handed, number, of, taken, Speculation, IsLegal}
use Rattle.dspec_trace_reading.specs.Words.{IsOwn, batches, drops_of, is_drop, one_if, part, total, AreSealed, IsLeftBy, Shape, Config, Cpu, DecideFate, Deed, Seal, Report, Batch, Left}
use Rattle.dspec_deeds.proofs.{OwnParts.own_of_fitting, OwnReads.reads, WholeLists.drops_add_up}
use Rattle.dspec_trace_reading.proofs.Told.{drops_more}

drops_reversed : (bs : List Batch) → drops_carried (reverse bs) ≡ drops_carried bs
drops_reversed [] = refl
drops_reversed (b ∷ bs) =
    let last : drops_carried (reverse (b ∷ bs)) ≡ drops_carried (reverse bs) + b.drops = ap drops_carried (reverse-append (b ∷ []) bs) ∙ drops_more (reverse bs) b in
    omega (arith, last, drops_reversed bs)

module _ (shape : ℕ → Option Shape) (accepted : Record → Bool) (text : Record → List ℕ) (k : Config) (c : ℕ) where
  -- batches that a list seals carry the drops between its Seals
  sealed_drops : (q : List Deed) (bs : List Batch) → IsOwn shape k c q → AreSealed shape accepted text k c q bs → drops_carried bs ≡ drops_of (batches c q)
  sealed_drops [] bs own none = ap drops_carried none
  sealed_drops (Seal a ∷ q) bs own s = grind (arith, nat_tests, sealed_drops q s.1 own.0 s.4)
  sealed_drops (d ∷ q) bs own s = sealed_drops q bs own.0 s

  -- with the last buffer they are all that the report counts
  pub drops_reported : (g p : List Deed) (worn : ℕ) (came : List Batch) (l : Left) → IsLegal shape k g → IsLeftBy shape accepted text k g c worn came p l
      → drops_carried (came ++ left_batches l) ≡ l.report.drops
  drops_reported g p worn came l legal left =
      let q = part (Cpu c) g in
      let own : IsOwn shape k c q = own_of_fitting shape k c g legal.0.1 in
      let sealed = drops_reversed (came ++ waiting l.rest) in
      let by_list = sealed_drops q (reverse (came ++ waiting l.rest)) own left.sealed in
      let last = drops_more (came ++ waiting l.rest) l.last in
      let all : drops_carried (came ++ left_batches l) ≡ drops_carried ((came ++ waiting l.rest) ++ l.last ∷ []) = ap drops_carried (sym (append_assoc came (waiting l.rest) (l.last ∷ []))) in
      let told : l.report.drops ≡ total (λ d. one_if (is_drop c d)) q = ap (λ (r : Report). r.drops) (left.reported ∙ sym ((reads k c g).apart.reporting worn)) in
      omega (arith, all, last, sealed, by_list, left.last.drops, drops_add_up c q, told)

every : (xs : List Record) → number (λ r. true) xs ≡ length xs
every [] = refl
every (x ∷ xs) = omega (arith, every xs)

and_true : (b : Bool) → (b && true) ≡ b
and_true true = refl
and_true false = refl

same_number : (os : List HandedRecord) → number (λ o. of taken o && true) os ≡ number (of taken) os
same_number os = grind (arith, nat_tests, and_true)

-- as many records came out as the report counts as accepted
pub accepted_reported : (shape : ℕ → Option Shape) (accepted : Record → Bool) (text : Record → List ℕ) (cpus : ℕ) (all : ℕ → List Did) (c : ℕ) (calls : CallsMade)
    (closed : List (Speculation × DecideFate)) (bs : List Batch) (r : Report) (p : IsPromised shape accepted text cpus all c calls closed bs r) → length p.seen ≡ r.accepted
accepted_reported shape accepted text cpus all c calls closed bs r p =
    ap length p.promise.whole ∙ length-reverse (cpu_stream (all c)) ∙ sym (every (cpu_stream (all c))) ∙ p.promise.keeps.once (λ r. true) ∙ same_number (handed (all c))
    ∙ sym p.promise.accepts
