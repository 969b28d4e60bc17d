-- What one step of reading gives where the records ahead are known.
use Rattle.std.proofs.Common.{◌≡◌, ℕ, Bool, Option, Some, None, Result, Ok, Err, MatchResult, List, [], ◌∷◌, length, drop, refl, sym, subst, arith}
use Rattle.std.proofs.lemmas.{Bool.Decides.nat_tests, List.drop_all}
use Rattle.dspec_buffer.specs.Words.{Record, StandsNext, BufferText, NextIs, FaultIs, ReadsNext, StepsAhead, HasAhead, Shape}
use Rattle.dspec_buffer.specs.declared.read_fault.ReadFault.{ReadFault}
use Rattle.dspec_buffer.proofs.{Faulty.no_text_here, Nexts.next_same, Nexts.next_not_nil, OneReading.follows, SchemaLaws.SchemaLaws}

module _ (shape : ℕ → Option Shape) (accepted : Record → Bool) (text : Record → List ℕ) (laws : SchemaLaws shape accepted text) where
  -- no record is next at the end
  pub none_at_end : (b : List ℕ) (o : ℕ) (rs : List Record) → o ≡ length b → BufferText shape accepted text o (drop o b) rs → rs ≡ []
  none_at_end b o [] e t = refl
  none_at_end b o (r ∷ rs) e (g, (x, (s, t))) = grind (arith, nat_tests, drop_all, next_not_nil)

  -- the record that was read is the first of those ahead, and the others are ahead of the next place
  pub record Advances (b : List ℕ) (r : Record) (next : ℕ) (rs : List Record) : Type 0 where
    pub others : List Record
    pub all : rs ≡ r ∷ others
    pub ahead : HasAhead shape accepted text b next others

  pub advances : (b : List ℕ) (o : ℕ) (r : Record) (next : ℕ) (rs : List Record) → NextIs shape accepted text b o r next → HasAhead shape accepted text b o rs → Advances b r next rs
  advances b o r next [] n h =
      absurd (next_not_nil shape accepted text laws o n.gap r (drop next b) (subst (λ z. StandsNext shape accepted text o z n.gap r (drop next b)) h.ahead n.stands))
  advances b o r next (q ∷ qs) n h =
      let g = h.ahead.0 in
      let x = h.ahead.1.0 in
      let s = h.ahead.1.1.0 in
      let t = h.ahead.1.1.1 in
      let same = next_same shape accepted text laws o (drop o b) n.gap g r q (drop next b) x n.stands s in
      let first = same.same_record in
      let t' = follows shape accepted text laws o n.gap g r q (drop next b) x qs same t in
      record {
        others = qs;
        all = cc;
        ahead = record { within = n.within; ahead = subst (λ m. BufferText shape accepted text m (drop next b) qs) (sym n.next_is) t' };
      }

  pub no_fault_ahead : (b : List ℕ) (o : ℕ) (fault : ReadFault) (rs : List Record) → FaultIs shape accepted text b o fault → HasAhead shape accepted text b o rs → ⊥
  no_fault_ahead b o fault rs f h = grind (arith, nat_tests, no_text_here)

  -- a step of a walk
  pub walks_on : (b : List ℕ) (o : ℕ) (rs : List Record) (result : Result (Option (Record × ℕ)) ReadFault) → ReadsNext shape accepted text b o result
      → HasAhead shape accepted text b o rs → MatchResult result (λ step. StepsAhead (HasAhead shape accepted text b) rs step) (λ _. ⊥)
  walks_on b o rs (Ok None) n h = rw (none_at_end b o rs n h.ahead) refl
  walks_on b o rs (Ok (Some (r, next))) n h =
      let a = advances b o r next rs n h in
      rw a.all (next, (refl, a.ahead))
  walks_on b o rs (Err fault) f h = no_fault_ahead b o fault rs f h
