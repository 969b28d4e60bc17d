-- Where a CPU's buffer of a speculation is empty.
use Rattle.std.proofs.Common.{[], ◌≡◌, ◌≢◌, ◌⊎◌, ℕ, suc, ◌<◌, Bool, true, false, ◌&&◌, ◌==◌, if◌then◌else◌, List, ◌∷◌, Some, None, refl, sym, ap, ◌∙◌, subst, ⊎_elim, inl, inr, arith, true≢false}
use Rattle.std.proofs.lemmas.Bool.Decides.{nat_tests}
use Rattle.dspec_deeds.specs.Words.{Speculation, Record, spoken_granted, spoken_kept, is_commit, is_discard, same_id, is_among, issue, releases, present, Ruling, undecided, committed, discarded}
use Rattle.dspec_deeds.specs.Words.{verdict, ruling, latest, is_undecided, is_open, callers, joined, solo, settled, settles, keeps, empties, held, IsSound}
use Rattle.dspec_deeds.specs.declared.{config.Config.Config, deed.Deed.Deed, deed.Deed.TheVariants.Speculate, deed.Deed.TheVariants.Commit, deed.Deed.TheVariants.Discard}
use Rattle.dspec_deeds.specs.declared.{deed.Deed.TheVariants.Settle, deed.Deed.TheVariants.Release, deed.SpeculateFate.SpeculateFate}
use Rattle.dspec_deeds.specs.declared.deed.SpeculateFate.TheVariants as spoken
use Rattle.dspec_deeds.proofs.{Acked.settled_decided, PresentIds.past_shut, PresentIds.decided_shut, TestLemmas.either_way, TestLemmas.off, TestLemmas.and_tells, TestLemmas.and_false}
use Rattle.dspec_deeds.proofs.{TestLemmas.or_none, TestLemmas.or_tells, TestLemmas.same_number, TestLemmas.same_id_tells, TestLemmas.has_joined, WordChanges.granted_open}

-- a kept record was granted
kept_granted : (f : SpeculateFate) → spoken_kept f ≡ true → spoken_granted f ≡ true
kept_granted spoken.Kept e = refl
kept_granted f e = absurd (true≢false (sym e))

-- an empty buffer stays empty where the deed keeps no record in it
unkept : (c : ℕ) (id : Speculation) (d : Deed) (h : List Deed) → keeps c id d ≡ false → held c id h ≡ [] → held c id (d ∷ h) ≡ []
unkept c id d h h1 h2 = grind arith

-- a deed that empties the buffer
emptied : (c : ℕ) (id : Speculation) (d : Deed) (h : List Deed) → empties c id d ≡ true → held c id (d ∷ h) ≡ []
emptied c id d h h1 = grind arith

-- who is no caller has kept no record
pub callers_hold : (c : ℕ) (id : Speculation) (h : List Deed) → is_among c (callers id h) ≡ false → held c id h ≡ []
callers_hold c id [] away = refl
callers_hold c id (d ∷ h) away = let r = go d away in unkept c id d h r.1 (callers_hold c id h r.0)
  where
    go : (d : Deed) → is_among c (callers id (d ∷ h)) ≡ false → (is_among c (callers id h) ≡ false) × (keeps c id d ≡ false)
    go (Speculate a j r f) away = ⊎_elim
        (λ (t : (spoken_granted f && same_id id j) ≡ true).
        let now : is_among c (joined (Some a) (callers id h)) ≡ false = subst (λ b. is_among c (joined (if b then Some a else None) (callers id h)) ≡ false) t away in
        let both = or_none (c == a) (is_among c (callers id h)) (sym (has_joined c a (callers id h)) ∙ now) in
        let other = both.0 in
        (both.1, rw other (none (spoken_kept f))))
        (λ (miss : (spoken_granted f && same_id id j) ≡ false).
        (subst (λ b. is_among c (joined (if b then Some a else None) (callers id h)) ≡ false) miss away, unspoken a j r f miss))
        (either_way (spoken_granted f && same_id id j))
      where
        none : (b : Bool) → (b && (false && same_id id j)) ≡ false
        none true = refl
        none false = refl

        unspoken : (a : ℕ) (j : Speculation) (r : Record) (f : SpeculateFate) → (spoken_granted f && same_id id j) ≡ false → keeps c id (Speculate a j r f) ≡ false
        unspoken a j r spoken.Kept e = rw e (and_false (c == a))
        unspoken a j r f e = refl
    go d away = (away, refl)

-- what is not open gets no record
pub shut_unkept : (k : Config) (c : ℕ) (id : Speculation) (d : Deed) (h : List Deed) → IsSound k (d ∷ h) → is_open id h ≡ false → keeps c id d ≡ false
shut_unkept k c id (Speculate a j r f) h s shut = ⊎_elim
    (λ (t : (spoken_kept f && ((c == a) && same_id id j)) ≡ true).
    let both = and_tells (spoken_kept f) ((c == a) && same_id id j) t in
    let is = same_id_tells id j (and_tells (c == a) (same_id id j) both.1).1 in
    off (is_open id h) (subst (λ x. is_open x h ≡ true) (sym is) (granted_open k a j r f h s (kept_granted f both.0))) shut)
    (λ x. x)
    (either_way (spoken_kept f && ((c == a) && same_id id j)))
shut_unkept k c id d h s shut = refl

-- what is not open and empty stays empty
pub shut_empty : (k : Config) (c : ℕ) (id : Speculation) (d : Deed) (h : List Deed) → IsSound k (d ∷ h) → is_open id h ≡ false → held c id h ≡ [] → held c id (d ∷ h) ≡ []
shut_empty k c id d h s shut e = unkept c id d h (shut_unkept k c id d h s shut) e

-- the CPU's own decision
abbrev pub ruled_by : ℕ → Ruling → Bool
ruled_by c undecided = false
ruled_by c (committed a) = c == a
ruled_by c (discarded a) = c == a

-- a CPU's own decision is a decision
ruled_decided : (c : ℕ) (v : Ruling) → ruled_by c v ≡ true → is_undecided v ≡ false
ruled_decided c undecided e = absurd (true≢false (sym e))
ruled_decided c (committed a) e = refl
ruled_decided c (discarded a) e = refl

-- what the CPU decided itself is out of its buffer
pub ruled_empty : (k : Config) (c : ℕ) (id : Speculation) (h : List Deed) → IsSound k h → ruled_by c (verdict id h) ≡ true → held c id h ≡ []
ruled_empty k c id [] s e = refl
ruled_empty k c id (d ∷ h) s e = ⊎_elim
    (λ (t : ruled_by c (ruling id d) ≡ true). emptied c id d h (now d t))
    (λ (f : ruled_by c (ruling id d) ≡ false).
    let before = older (ruling id d) f e in
    shut_empty k c id d h s (decided_shut id h (ruled_decided c (verdict id h) before)) (ruled_empty k c id h s.0 before))
    (either_way (ruled_by c (ruling id d)))
  where
    older : (r : Ruling) → ruled_by c r ≡ false → ruled_by c (latest r (verdict id h)) ≡ true → ruled_by c (verdict id h) ≡ true
    older undecided f e = e
    older (committed a) f e = off (c == a) e f
    older (discarded a) f e = off (c == a) e f

    now : (d : Deed) → ruled_by c (ruling id d) ≡ true → empties c id d ≡ true
    now (Commit a j f) t = go (is_commit f) (same_id id j) t
      where
        go : (b i : Bool) → ruled_by c (if b && i then committed a else undecided) ≡ true → (b && ((c == a) && i)) ≡ true
        go true true t = rw t refl
        go true false t = absurd (true≢false (sym t))
        go false i t = absurd (true≢false (sym t))
    now (Discard a j f) t = go (is_discard f) (same_id id j) t
      where
        go : (b i : Bool) → ruled_by c (if b && i then discarded a else undecided) ≡ true → (b && ((c == a) && i)) ≡ true
        go true true t = rw t refl
        go true false t = absurd (true≢false (sym t))
        go false i t = absurd (true≢false (sym t))
    now d t = absurd (true≢false (sym t))

-- what the CPU has settled is out of its buffer
pub settled_empty : (k : Config) (c : ℕ) (id : Speculation) (h : List Deed) → IsSound k h → settled c id h ≡ true → held c id h ≡ []
settled_empty k c id [] s e = refl
settled_empty k c id (d ∷ h) s e = ⊎_elim
    (λ (t : settles c id d ≡ true). emptied c id d h (now d t))
    (λ (t : settled c id h ≡ true). shut_empty k c id d h s (decided_shut id h (settled_decided k c id h s.0 t)) (settled_empty k c id h s.0 t))
    (or_tells (settles c id d) (settled c id h) e)
  where
    now : (d : Deed) → settles c id d ≡ true → empties c id d ≡ true
    now (Settle a j f) t = t
    now d t = absurd (true≢false (sym t))

-- what a CPU decided alone is in nobody's buffer
pub solo_empty : (k : Config) (c : ℕ) (id : Speculation) (h : List Deed) → IsSound k h → solo id h ≢ None → held c id h ≡ []
solo_empty k c id h s alone = grind (arith, nat_tests, same_number, ruled_empty, callers_hold)

-- what is released is in no CPU's buffer
pub release_empty : (k : Config) (c s : ℕ) (h : List Deed) → c < k.cpus → IsSound k (Release s ∷ h) → held c (present s h) h ≡ []
release_empty k c s h lt sound = grind (arith, nat_tests, solo_empty, settled_empty)

-- what is over is in no CPU's buffer
pub past_empty : (k : Config) (c : ℕ) (id : Speculation) (h : List Deed) → c < k.cpus → IsSound k h → id.issue < issue id.slot h → held c id h ≡ []
past_empty k c id [] lt s past = refl
past_empty k c id (d ∷ h) lt s past = ⊎_elim
    (λ (older : id.issue < issue id.slot h). shut_empty k c id d h s (past_shut k h id s.0 older) (past_empty k c id h lt s.0 older))
    (λ (now : (releases id.slot d ≡ true) × (id.issue ≡ issue id.slot h)). go d s now.0 now.1)
    (when (releases id.slot d) refl)
  where
    when : (b : Bool) → releases id.slot d ≡ b → (id.issue < issue id.slot h) ⊎ ((releases id.slot d ≡ true) × (id.issue ≡ issue id.slot h))
    when true r = let le : id.issue < suc (issue id.slot h) = subst (λ b. id.issue < (if b then suc (issue id.slot h) else issue id.slot h)) r past in
        ⊎_elim
        (λ (t : (id.issue == issue id.slot h) ≡ true). inr (r, same_number id.issue (issue id.slot h) t))
        (λ (f : (id.issue == issue id.slot h) ≡ false). let lt : id.issue < issue id.slot h = grind (arith, nat_tests) in inl lt)
        (either_way (id.issue == issue id.slot h))
    when false r = inl (subst (λ b. id.issue < (if b then suc (issue id.slot h) else issue id.slot h)) r past)

    go : (d : Deed) → IsSound k (d ∷ h) → releases id.slot d ≡ true → id.issue ≡ issue id.slot h → held c id (d ∷ h) ≡ []
    go (Release n) s r now =
        let slot = same_number id.slot n r in
        let is : id ≡ present n h = λ i. record { issue = (now ∙ ap (λ x. issue x h) slot) i; slot = slot i } in
        ap (λ j. held c j h) is ∙ release_empty k c n h lt s
    go d s r now = absurd (true≢false (sym r))
