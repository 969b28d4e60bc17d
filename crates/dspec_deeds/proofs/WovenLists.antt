-- A list woven of the CPUs' own lists.
use Rattle.std.proofs.Common.{◌≡◌, ℕ, ◌<◌, true, false, ◌==◌, if◌then◌else◌, List, [], ◌∷◌, ◌++◌, Option, refl, sym, ap, ◌∙◌, subst, ⊎_elim, inr, arith, true≢false}
use Rattle.dspec_deeds.specs.Words.{Shape, owed, author, part, same_actor, HasAuthors, IsSound, is_seal, is_of, IsOwn, ReadsAlike, bare, IsPlaced, ArePlaced, lead, remainder, taken_off, seals_after}
use Rattle.dspec_deeds.specs.Words.{woven, HaveLists, ShowsAlike, IsWoven}
use Rattle.dspec_deeds.specs.declared.{calls.Actor.Actor, calls.Actor.TheVariants.Cpu, calls.Actor.TheVariants.Consumer, config.Config.Config, deed.Deed.Deed, deed.Deed.TheVariants.Seal}
use Rattle.dspec_deeds.proofs.{BareReads.author_bare, BareReads.shows_bare, OwnReads.reads, PlacedSeals.placed_legal, SealsPut.AreSeals, SealsPut.placed_on, SealsPut.bare_on, SealsPut.own_on}
use Rattle.dspec_deeds.proofs.{SealsPut.other_on, SealsPut.authors_on, SealsPut.front_bare, SealsPut.front_consumer, SealsPut.front_own, SealsPut.front_authors, SealsPut.front_placed}
use Rattle.dspec_deeds.proofs.{TestLemmas.either_way, TestLemmas.same_number, TestLemmas.number_is_itself, TestLemmas.cpu_is_itself}

-- a bare list has no Seal
no_seal : (q r : List Deed) (d : Deed) → bare q ≡ d ∷ r → is_seal d ≡ false
no_seal [] r d e = absurd (cc e)
no_seal (x ∷ q) r d e = ⊎_elim
    (λ (t : is_seal x ≡ true). no_seal q r d (subst (λ b. (if b then bare q else x ∷ bare q) ≡ d ∷ r) t e))
    (λ (f : is_seal x ≡ false).
    let now : x ∷ bare q ≡ d ∷ r = subst (λ b. (if b then bare q else x ∷ bare q) ≡ d ∷ r) f e in
    let same : x ≡ d = cc in
    subst (λ y. is_seal y ≡ false) same f)
    (either_way (is_seal x))

-- what is no Seal needs no place
placed_plain : (d : Deed) (h : List Deed) → is_seal d ≡ false → IsPlaced d h
placed_plain (Seal c) h e = absurd (true≢false e)
placed_plain d h e = tt

-- a Seal of the CPU
seal_of : (c : ℕ) (d : Deed) → is_seal d ≡ true → is_of c d ≡ true → d ≡ Seal c
seal_of c (Seal a) t own = ap Seal (sym (same_number c a own))
seal_of c d t own = absurd (true≢false (sym t))

module _ (shape : ℕ → Option Shape) (k : Config) where
  -- a CPU's own list with nothing but Seals
  all_seals : (c : ℕ) (q : List Deed) → IsOwn shape k c q → bare q ≡ [] → AreSeals c q
  all_seals c [] own e = tt
  all_seals c (d ∷ q) own e = ⊎_elim
      (λ (t : is_seal d ≡ true). (all_seals c q own.0 (subst (λ b. (if b then bare q else d ∷ bare q) ≡ []) t e), seal_of c d t own.1))
      (λ (f : is_seal d ≡ false). let now : d ∷ bare q ≡ [] = subst (λ b. (if b then bare q else d ∷ bare q) ≡ []) f e in absurd (cc now))
      (either_way (is_seal d))

  -- a CPU's own list is parted at its latest deed that is no Seal
  record IsParted (c : ℕ) (d : Deed) (r q : List Deed) : Type 0 where
    pub whole : q ≡ lead q ++ d ∷ remainder q
    pub leading : AreSeals c (lead q)
    pub rest : bare (remainder q) ≡ r
    pub own : IsOwn shape k c (remainder q)

  parted : (c : ℕ) (d : Deed) (r q : List Deed) → IsOwn shape k c q → bare q ≡ d ∷ r → IsParted c d r q
  parted c d r [] own e = absurd (cc e)
  parted c d r (x ∷ q) own e = ⊎_elim
      (λ (t : is_seal x ≡ true).
      let rec = parted c d r q own.0 (subst (λ b. (if b then bare q else x ∷ bare q) ≡ d ∷ r) t e) in
      record {
        whole = ap (λ y. x ∷ y) rec.whole ∙ ap (λ b. (if b then x ∷ lead q else []) ++ d ∷ (if b then remainder q else q)) (sym t);
        leading = rw t (rec.leading, seal_of c x t own.1);
        rest = rw t rec.rest;
        own = rw t rec.own;
      })
      (λ (f : is_seal x ≡ false).
      let now : x ∷ bare q ≡ d ∷ r = subst (λ b. (if b then bare q else x ∷ bare q) ≡ d ∷ r) f e in
      let same : x ≡ d = cc in
      let tail : bare q ≡ r = cc in
      record {
        whole = ap (λ y. y ∷ q) same ∙ ap (λ b. (if b then x ∷ lead q else []) ++ d ∷ (if b then remainder q else q)) (sym f);
        leading = rw f tt;
        rest = rw f tail;
        own = rw f own.0;
      })
      (either_way (is_seal x))

  -- what the woven list is
  pub record IsLaid (p : ℕ → List Deed) (h w : List Deed) : Type 0 where
    pub own : (c : ℕ) → c < k.cpus → part (Cpu c) w ≡ p c
    pub consumer : part Consumer w ≡ part Consumer h
    pub rest : bare w ≡ h
    pub placed : ArePlaced w
    pub authors : HasAuthors k w

  -- a deed on top of a woven list
  module _ (q : ℕ → List Deed) (d : Deed) (h w : List Deed) (plain : is_seal d ≡ false) (whose : HasAuthors k (d ∷ h)) (laid : IsLaid q h w) where
    -- the deed's author is the same there
    same_author : author d w ≡ author d h
    same_author = author_bare d w ∙ ap (author d) laid.rest

    top_rest : bare (d ∷ w) ≡ d ∷ h
    top_rest = rw plain (ap (λ x. d ∷ x) laid.rest)

    top_placed : ArePlaced (d ∷ w)
    top_placed = (laid.placed, placed_plain d w plain)

    top_authors : HasAuthors k (d ∷ w)
    top_authors = (laid.authors, λ c by. whose.1 c (sym same_author ∙ by))

    top_mine : (v : Actor) → author d h ≡ v → (x : Actor) → same_actor x v ≡ true → part x (d ∷ w) ≡ d ∷ part x w
    top_mine v is x mine = ap (λ b. if b then d ∷ part x w else part x w) (ap (same_actor x) (same_author ∙ is) ∙ mine)

    top_other : (v : Actor) → author d h ≡ v → (x : Actor) → same_actor x v ≡ false → part x (d ∷ w) ≡ part x w
    top_other v is x other = ap (λ b. if b then d ∷ part x w else part x w) (ap (same_actor x) (same_author ∙ is) ∙ other)

    -- a deed of the consumer
    consumer_laid : (p : ℕ → List Deed) → ((c : ℕ) → q c ≡ p c) → author d h ≡ Consumer → IsLaid p (d ∷ h) (d ∷ w)
    consumer_laid p same is = record {
      own = λ c lt. top_other Consumer is (Cpu c) refl ∙ (laid.own c lt ∙ same c);
      consumer =
          top_mine Consumer is Consumer refl ∙ (ap (λ x. d ∷ x) laid.consumer ∙ ap (λ (x : Actor). if same_actor Consumer x then d ∷ part Consumer h else part Consumer h) (sym is));
      rest = top_rest;
      placed = top_placed;
      authors = top_authors;
    }

    -- a deed of a CPU, and its Seals after it
    cpu_laid : (p : ℕ → List Deed) (c : ℕ) → author d h ≡ Cpu c → IsParted c d (part (Cpu c) h) (p c) → q c ≡ remainder (p c) → ((a : ℕ) → (a == c) ≡ false → q a ≡ p a)
        → IsLaid p (d ∷ h) (lead (p c) ++ d ∷ w)
    cpu_laid p c is part_at at_c elsewhere =
        let lt : c < k.cpus = whose.1 c is in
        let ss = lead (p c) in
        let stripped : bare (ss ++ d ∷ w) ≡ d ∷ h = bare_on c ss (d ∷ w) part_at.leading ∙ top_rest in
        record {
          own = λ a a_lt. ⊎_elim
              (λ (t : (a == c) ≡ true).
              let same = same_number a c t in
              subst (λ x. part (Cpu x) (ss ++ d ∷ w) ≡ p x) (sym same)
              (own_on c ss (d ∷ w) part_at.leading ∙ (ap (λ x. ss ++ x) (top_mine (Cpu c) is (Cpu c) (cpu_is_itself c) ∙ ap (λ x. d ∷ x) (laid.own c lt ∙ at_c)) ∙ sym part_at.whole)))
              (λ (f : (a == c) ≡ false). other_on (Cpu a) c ss (d ∷ w) f part_at.leading ∙ (top_other (Cpu c) is (Cpu a) f ∙ (laid.own a a_lt ∙ elsewhere a f)))
              (either_way (a == c));
          consumer =
              other_on Consumer c ss (d ∷ w) refl part_at.leading
              ∙ (top_other (Cpu c) is Consumer refl ∙ (laid.consumer ∙ ap (λ (x : Actor). if same_actor Consumer x then d ∷ part Consumer h else part Consumer h) (sym is)));
          rest = stripped;
          placed = (placed_on c ss (d ∷ w) part_at.leading record { placed = top_placed; here = inr (same_author ∙ is) }).placed;
          authors = authors_on k c ss (d ∷ w) lt part_at.leading top_authors;
        }

  -- a deed in its author's part, and in no other's
  mine_part : (d : Deed) (h : List Deed) (v : Actor) → author d h ≡ v → (x : Actor) → same_actor x v ≡ true → part x (d ∷ h) ≡ d ∷ part x h
  mine_part d h v is x mine = ap (λ b. if b then d ∷ part x h else part x h) (ap (same_actor x) is ∙ mine)

  others_part : (d : Deed) (h : List Deed) (v : Actor) → author d h ≡ v → (x : Actor) → same_actor x v ≡ false → part x (d ∷ h) ≡ part x h
  others_part d h v is x other = ap (λ b. if b then d ∷ part x h else part x h) (ap (same_actor x) is ∙ other)

  -- one deed more, whosever it is
  lay : (d : Deed) (h : List Deed) (p : ℕ → List Deed) (v : Actor) → author d h ≡ v → HasAuthors k (d ∷ h) → HaveLists shape k p (d ∷ h)
      → ((q : ℕ → List Deed) → HaveLists shape k q h → IsLaid q h (woven k.cpus q h))
      → IsLaid p (d ∷ h) (seals_after v p ++ d ∷ woven k.cpus (taken_off v p) h)
  lay d h p Consumer is whose lists below =
      let q : ℕ → List Deed = λ a. p a in
      let under : HaveLists shape k q h = record { own = lists.own; parts = λ c lt. lists.parts c lt ∙ others_part d h Consumer is (Cpu c) refl } in
      consumer_laid q d h (woven k.cpus q h) (consumer_plain d is) whose (below q under) p (λ c. refl) is
    where
      consumer_plain : (d : Deed) → author d h ≡ Consumer → is_seal d ≡ false
      consumer_plain (Seal a) is = absurd (cc is)
      consumer_plain d is = refl
  lay d h p (Cpu c) is whose lists below =
      let lt : c < k.cpus = whose.1 c is in
      let q : ℕ → List Deed = taken_off (Cpu c) p in
      let here : bare (p c) ≡ d ∷ part (Cpu c) h = lists.parts c lt ∙ mine_part d h (Cpu c) is (Cpu c) (cpu_is_itself c) in
      let part_at = parted c d (part (Cpu c) h) (p c) (lists.own c lt) here in
      let at_c : q c ≡ remainder (p c) = ap (λ b. if b then remainder (p c) else p c) (number_is_itself c) in
      let elsewhere : (a : ℕ) → (a == c) ≡ false → q a ≡ p a = λ a f. ap (λ b. if b then remainder (p a) else p a) f in
      let under : HaveLists shape k q h = record {
        own = λ a a_lt. ⊎_elim
            (λ (t : (a == c) ≡ true). subst (λ x. IsOwn shape k x (q x)) (sym (same_number a c t)) (subst (IsOwn shape k c) (sym at_c) part_at.own))
            (λ (f : (a == c) ≡ false). subst (IsOwn shape k a) (sym (elsewhere a f)) (lists.own a a_lt))
            (either_way (a == c));
        parts = λ a a_lt. ⊎_elim
            (λ (t : (a == c) ≡ true). subst (λ x. bare (q x) ≡ part (Cpu x) h) (sym (same_number a c t)) (ap bare at_c ∙ part_at.rest))
            (λ (f : (a == c) ≡ false). ap bare (elsewhere a f) ∙ (lists.parts a a_lt ∙ others_part d h (Cpu c) is (Cpu a) f))
            (either_way (a == c));
      } in
      cpu_laid q d h (woven k.cpus q h) (no_seal (p c) (part (Cpu c) h) d here) whose (below q under) p c is part_at at_c elsewhere

  -- the woven list, deed by deed
  laid : (h : List Deed) (p : ℕ → List Deed) → HasAuthors k h → HaveLists shape k p h → IsLaid p h (woven k.cpus p h)
  laid [] p whose lists =
      let seals : (c : ℕ) → c < k.cpus → AreSeals c (p c) = λ c lt. all_seals c (p c) (lists.own c lt) (lists.parts c lt) in
      record {
        own = λ c lt. front_own p k.cpus c seals lt;
        consumer = front_consumer p k.cpus seals;
        rest = front_bare p k.cpus seals;
        placed = front_placed p k.cpus seals;
        authors = front_authors p k k.cpus (omega arith) seals;
      }
  laid (d ∷ h) p whose lists = lay d h p (author d h) refl whose lists (λ q under. laid h q whose.0 under)

  -- the woven list is legal, and its parts are the CPUs' lists
  pub weaves : (h : List Deed) (p : ℕ → List Deed) → IsSound k h → owed h ≡ 0 → HasAuthors k h → HaveLists shape k p h → IsWoven shape k p h (woven k.cpus p h)
  weaves h p sound unowed whose lists =
      let w = woven k.cpus p h in
      let r = laid h p whose lists in
      let fine = placed_legal shape k w r.placed (subst (IsSound k) (sym r.rest) sound) (ap owed r.rest ∙ unowed) r.authors (λ c lt. subst (IsOwn shape k c) (sym (r.own c lt)) (lists.own c lt)) in
      record {
        legal = (fine.0, r.authors);
        own = r.own;
        consumer = r.consumer;
        rest = r.rest;
        placed = r.placed;
        rests = fine.1;
        reads = λ c lt. subst (λ q. ReadsAlike k c q w) (r.own c lt) (reads k c w);
        shows = subst (ShowsAlike w) r.rest (shows_bare w);
      }
