-- A CPU's list and the list of all, at the close of a session: slot by slot both go on by what the CPU has still to settle.
use Rattle.std.proofs.Common.{◌≡◌, ℕ, zero, suc, ◌+◌, ◌==◌, ◌<◌, Bool, true, false, ◌&&◌, List, ◌∷◌, Option, if◌then◌else◌, refl, sym, ap, ◌∙◌, subst, ⊎_elim, arith}
use Rattle.dspec_cpu.specs.Words.{Shape, settle_at, SlotState, is_granted, ack, word_at, settle_fate, own_closed, own_closed_slot, Shows, CanCloseAfter, IsPartOf, shown_at, Config, Deed, Settle}
use Rattle.dspec_deeds.proofs.TestLemmas.{either_way, same_number}
use Rattle.dspec_cpu.proofs.Settlements.{ack_is, settles_on}

module _ (shape : ℕ → Option Shape) (k : Config) (c : ℕ) (words : List ℕ) (log p : List Deed) (shows : Shows k words log) (its : IsPartOf k c log p) where
  abbrev shown : ℕ → SlotState
  shown s = word_at s log

  abbrev closed : ℕ → List Deed
  closed n = own_closed shape k shown c n p

  -- after the first n slots
  record Came (n : ℕ) (q : List Deed) : Type 0 where
    pub now : List Deed
    pub part_is : IsPartOf k c now q
    pub stand : (s : ℕ) → word_at s now ≡ word_at s log
    pub acks : (s : ℕ) → n < s → ack c s q ≡ ack c s p

  came : (n : ℕ) → Came n (closed n)
  came zero = record { now = log; part_is = its; stand = λ s. refl; acks = λ s lt. refl }
  came (suc n) = next (came n)
    where
      other : (s : ℕ) → suc n < s → (if (c == c) && (s == suc n) then (shown (suc n)).issue + 1 else ack c s (closed n)) ≡ ack c s (closed n)
      other s lt = go (c == c) (s == suc n) (⊎_elim (λ (t : (s == suc n) ≡ true). let e = same_number s (suc n) t in absurd (omega arith)) (λ (f : (s == suc n) ≡ false). f) (either_way (s == suc n)))
        where
          go : (a b : Bool) → b ≡ false → (if a && b then (shown (suc n)).issue + 1 else ack c s (closed n)) ≡ ack c s (closed n)
          go true b e = ap (λ x. if x then (shown (suc n)).issue + 1 else ack c s (closed n)) e
          go false b e = refl

      next : Came n (closed n) → Came (suc n) (own_closed_slot shape k shown c (suc n) (closed n))
      next was = ⊎_elim
          (λ (t : is_granted (settle_at (shown (suc n)) (ack c (suc n) (closed n))) ≡ true). subst
          (λ b. Came (suc n) (if b then Settle c (shown_at (suc n) (shown (suc n)))
          (settle_fate shape k c (closed n) (shown_at (suc n) (shown (suc n))) (shown (suc n)).code) ∷ closed n else closed n)) (sym t) (record {
            now = Settle c (shown_at (suc n) (shown (suc n))) (settle_fate shape k c (closed n) (shown_at (suc n) (shown (suc n))) (shown (suc n)).code) ∷ was.now;
            part_is = settles_on shape k c was.now (closed n) was.part_is (suc n) (shown (suc n)) (was.stand (suc n)) t;
            stand = λ s. was.stand s;
            acks = λ s lt. other s lt ∙ was.acks s (omega arith);
          }))
          (λ (f : is_granted (settle_at (shown (suc n)) (ack c (suc n) (closed n))) ≡ false). subst
          (λ b. Came (suc n) (if b then Settle c (shown_at (suc n) (shown (suc n)))
          (settle_fate shape k c (closed n) (shown_at (suc n) (shown (suc n))) (shown (suc n)).code) ∷ closed n else closed n)) (sym f) (record {
            now = was.now;
            part_is = was.part_is;
            stand = was.stand;
            acks = λ s lt. was.acks s (omega arith);
          }))
          (either_way (is_granted (settle_at (shown (suc n)) (ack c (suc n) (closed n)))))

  -- the next slot can be settled
  pub can_close : (n : ℕ) → (now : List Deed) × CanCloseAfter k c (n + 1) words log now (closed n)
  can_close n =
      let was = came n in (
        was.now,
        record {
          shows = shows;
          part_is = was.part_is;
          word = was.stand (n + 1);
          ack = was.acks (n + 1) (omega arith) ∙ ack_is k c (n + 1) log p its.part_is;
        },
      )

  pub next_closed : (n : ℕ) → own_closed_slot shape k shown c (n + 1) (closed n) ≡ closed (n + 1)
  next_closed n = let e : suc n ≡ n + 1 = omega arith in subst (λ m. own_closed_slot shape k shown c m (closed n) ≡ closed m) e refl
