-- What the close of a session enters is of its CPUs, and what it adds to the parts of a list.
use Rattle.std.proofs.Common.{◌≡◌, ℕ, zero, suc, ◌<◌, ◌≤◌, Bool, true, false, if◌then◌else◌, List, ◌∷◌, Option, subst, arith, ◌==◌, None, refl, sym, ap, ◌∙◌, ⊎_elim, length}
use Rattle.std.proofs.lemmas.Bool.Decides.{nat_tests}
use Rattle.dspec_interleaving.specs.Words.{Shape, Speculation, settle_at, ack, present, word_at, HasAuthors, settle_fate, is_granted, closed_slots, closed_cpus, closing, SlotState, part, scan}
use Rattle.dspec_interleaving.specs.Words.{same_actor, CanClose, closed_slot, Headline, IsLegal, start_fault, ReadsAlike, IsWoven, own_closed_slot, own_closed, IsCloseOf, Config, DecideFate, Deed}
use Rattle.dspec_interleaving.specs.Words.{Settle, Code, Discarding, Actor, Cpu, Consumer}
use Rattle.dspec_deeds.specs.declared.deed.DecideFate.TheVariants as decided
use Rattle.dspec_deeds.proofs.{BareReads.scan_bare, OwnReads.block_alike, OwnReads.reads, TestLemmas.either_way, TestLemmas.same_number, TestLemmas.cpu_is_itself, TestLemmas.other_number}
use Rattle.dspec_interleaving.proofs.Closing.{closing_closes}

module _ (shape : ℕ → Option Shape) (k : Config) where
  -- what the close enters is of CPUs of the session
  slots_authors : (c n : ℕ) (g : List Deed) → c < k.cpus → HasAuthors k g → HasAuthors k (closed_slots shape k c n g)
  slots_authors c zero g lt authors = authors
  slots_authors c (suc n) g lt authors =
      let f = closed_slots shape k c n g in
      either (is_granted (settle_at (word_at (suc n) f) (ack c (suc n) f))) (present (suc n) f) (settle_fate shape k c f (present (suc n) f) (word_at (suc n) f).code) (slots_authors c n g lt authors)
    where
      either : (b : Bool) (id : Speculation) (x : DecideFate) → HasAuthors k (closed_slots shape k c n g)
          → HasAuthors k (if b then Settle c id x ∷ closed_slots shape k c n g else closed_slots shape k c n g)
      either true id x all = (all, λ a by. let same : c ≡ a = cc in subst (λ y. y < k.cpus) same lt)
      either false id x all = all

  cpus_authors : (n : ℕ) (g : List Deed) → n ≤ k.cpus → HasAuthors k g → HasAuthors k (closed_cpus shape k n g)
  cpus_authors zero g le authors = authors
  cpus_authors (suc n) g le authors = slots_authors n k.nspec (closed_cpus shape k n g) (omega arith) (cpus_authors n g (omega arith) authors)

  pub closing_authors : (g : List Deed) → HasAuthors k g → HasAuthors k (closing shape k g)
  closing_authors g = cpus_authors k.cpus g (omega arith)

-- all words that a list shows
abbrev words_of : List Deed → ℕ → SlotState
words_of g t = word_at t g

-- a deed that is entered or not
part_if : (x : Actor) (b : Bool) (d : Deed) (g : List Deed) → part x (if b then d ∷ g else g) ≡ (if b then part x (d ∷ g) else part x g)
part_if x true d g = refl
part_if x false d g = refl

words_if : (b : Bool) (t c : ℕ) (id : Speculation) (f : DecideFate) (g : List Deed) → word_at t (if b then Settle c id f ∷ g else g) ≡ word_at t g
words_if true t c id f g = refl
words_if false t c id f g = refl

same_if : (b : Bool) (g : List Deed) → (if b then g else g) ≡ g
same_if true g = refl
same_if false g = refl

module _ (shape : ℕ → Option Shape) (k : Config) where
  -- the fate of a settlement rests on the CPU's own
  fate_alike : (c : ℕ) (id : Speculation) (code : Code) (g h : List Deed) → ReadsAlike k c g h → settle_fate shape k c g id code ≡ settle_fate shape k c h id code
  fate_alike c id Discarding g h e = λ i. decided.Thrown (length (e.apart.buffers id i))
  fate_alike c id code g h e = λ i. if block_alike shape k c id g h e i then decided.Copied (length (e.apart.buffers id i)) else decided.Lost (length (e.apart.buffers id i))

  -- a slot that the CPU closes, in its own part and in others
  slot_own : (c s : ℕ) (g : List Deed) → part (Cpu c) (closed_slot shape k c s g) ≡ own_closed_slot shape k (words_of g) c s (part (Cpu c) g)
  slot_own c s g =
      let e = reads k c g in
      let b = is_granted (settle_at (word_at s g) (ack c s g)) in
      let id = present s g in
      part_if (Cpu c) b (Settle c id (settle_fate shape k c g id (word_at s g).code)) g
      ∙ (ap (λ m. if b then (if m then Settle c id (settle_fate shape k c g id (word_at s g).code) ∷ part (Cpu c) g else part (Cpu c) g) else part (Cpu c) g) (cpu_is_itself c)
      ∙ sym (λ i. if is_granted (settle_at (word_at s g) (e.apart.acks s i)) then Settle c id (fate_alike c id (word_at s g).code (part (Cpu c) g) g e i) ∷ part (Cpu c) g else part (Cpu c) g))

  slot_other : (x : Actor) (c s : ℕ) (g : List Deed) → same_actor x (Cpu c) ≡ false → part x (closed_slot shape k c s g) ≡ part x g
  slot_other x c s g other =
      let b = is_granted (settle_at (word_at s g) (ack c s g)) in
      let d = Settle c (present s g) (settle_fate shape k c g (present s g) (word_at s g).code) in
      part_if x b d g ∙ (ap (λ m. if b then (if m then d ∷ part x g else part x g) else part x g) other ∙ same_if b (part x g))

  slot_words : (c s : ℕ) (g : List Deed) → words_of (closed_slot shape k c s g) ≡ words_of g
  slot_words c s g = λ i t. words_if (is_granted (settle_at (word_at s g) (ack c s g))) t c (present s g) (settle_fate shape k c g (present s g) (word_at s g).code) g i

  -- all slots of a CPU
  slots_words : (c n : ℕ) (g : List Deed) → words_of (closed_slots shape k c n g) ≡ words_of g
  slots_words c zero g = refl
  slots_words c (suc n) g = slot_words c (suc n) (closed_slots shape k c n g) ∙ slots_words c n g

  slots_own : (c n : ℕ) (g : List Deed) → part (Cpu c) (closed_slots shape k c n g) ≡ own_closed shape k (words_of g) c n (part (Cpu c) g)
  slots_own c zero g = refl
  slots_own c (suc n) g =
      slot_own c (suc n) (closed_slots shape k c n g) ∙ (λ i. own_closed_slot shape k (slots_words c n g i) c (suc n) (slots_own c n g i))

  slots_other : (x : Actor) (c n : ℕ) (g : List Deed) → same_actor x (Cpu c) ≡ false → part x (closed_slots shape k c n g) ≡ part x g
  slots_other x c zero g other = refl
  slots_other x c (suc n) g other = slot_other x c (suc n) (closed_slots shape k c n g) other ∙ slots_other x c n g other

  -- all CPUs
  pub cpus_words : (n : ℕ) (g : List Deed) → words_of (closed_cpus shape k n g) ≡ words_of g
  cpus_words zero g = refl
  cpus_words (suc n) g = slots_words n k.nspec (closed_cpus shape k n g) ∙ cpus_words n g

  cpus_beyond : (n c : ℕ) (g : List Deed) → n ≤ c → part (Cpu c) (closed_cpus shape k n g) ≡ part (Cpu c) g
  cpus_beyond zero c g le = refl
  cpus_beyond (suc n) c g le = slots_other (Cpu c) n k.nspec (closed_cpus shape k n g) (other_number c n (omega arith)) ∙ cpus_beyond n c g (omega arith)

  cpus_consumer : (n : ℕ) (g : List Deed) → part Consumer (closed_cpus shape k n g) ≡ part Consumer g
  cpus_consumer zero g = refl
  cpus_consumer (suc n) g = slots_other Consumer n k.nspec (closed_cpus shape k n g) refl ∙ cpus_consumer n g

  cpus_own : (n c : ℕ) (g : List Deed) → c < n → part (Cpu c) (closed_cpus shape k n g) ≡ own_closed shape k (words_of g) c k.nspec (part (Cpu c) g)
  cpus_own zero c g lt = absurd (omega arith)
  cpus_own (suc n) c g lt = ⊎_elim
      (λ (t : (c == n) ≡ true).
      let is = same_number c n t in
      subst (λ x. part (Cpu x) (closed_slots shape k n k.nspec (closed_cpus shape k n g)) ≡ own_closed shape k (words_of g) x k.nspec (part (Cpu x) g)) (sym is)
      (slots_own n k.nspec (closed_cpus shape k n g) ∙ (λ i. own_closed shape k (cpus_words n g i) n k.nspec (cpus_beyond n n g (omega arith) i))))
      (λ (f : (c == n) ≡ false).
      let below : c < n = grind (arith, nat_tests) in
      slots_other (Cpu c) n k.nspec (closed_cpus shape k n g) f ∙ cpus_own n c g below)
      (either_way (c == n))

  -- the close of a woven list
  pub closes : (h : List Deed) (p : ℕ → List Deed) (w : List Deed) → start_fault k ≡ None → ((c : ℕ) → c < k.cpus → scan k c h ≡ 0) → IsWoven shape k p h w
      → ((c : ℕ) (g : List Deed) → IsLegal shape k g → Headline k c g) → IsCloseOf shape k p h (closing shape k w)
  closes h p w fine idle is headline =
      let can : CanClose shape k w = record { legal = is.legal.0; rests = is.rests; idle = λ c lt. scan_bare k c w ∙ (ap (scan k c) is.rest ∙ idle c lt) } in
      let closed = closing_closes shape k w fine can in
      let own : (c : ℕ) → c < k.cpus → part (Cpu c) (closing shape k w) ≡ own_closed shape k (λ s. word_at s h) c k.nspec (p c)
      = λ c lt. cpus_own k.cpus c w lt ∙ (λ i. own_closed shape k (λ s. is.shows.words s i) c k.nspec (is.own c lt i)) in
      record {
        legal = (closed.rest.legal, closing_authors shape k w is.legal.1);
        own = own;
        consumer = cpus_consumer k.cpus w ∙ is.consumer;
        none_held = closed.none_held;
        waits = closed.waits;
        reads = λ c lt. subst (λ q. ReadsAlike k c q (closing shape k w)) (own c lt) (reads k c (closing shape k w));
        headline = λ c lt. headline c (closing shape k w) (closed.rest.legal, closing_authors shape k w is.legal.1);
      }
