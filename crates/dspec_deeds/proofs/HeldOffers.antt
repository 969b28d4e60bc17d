-- The fates of a CPU's records, and the records in its buffers.
use Rattle.std.proofs.Common.{◌≡◌, ℕ, ◌+◌, ◌≤◌, ◌<◌, Bool, true, false, ◌==◌, if◌then◌else◌, List, [], ◌∷◌, ◌++◌, Option, None, Some, IsSome, refl, sym, ap, ◌∙◌, subst, ⊎_elim, arith}
use Rattle.std.proofs.lemmas.Bool.Decides.{nat_tests}
use Rattle.std.specs.Option.{option_map}
use Rattle.dspec_deeds.specs.{Fates.discarded, Words.Record, Words.Speculation, Words.same_id, Words.Offer, Words.offered_by, Words.offers, Words.empties, Words.held, Words.accepted, Words.Fate}
use Rattle.dspec_deeds.specs.{Words.taken, Words.dropped, Words.void, Words.waiting, Words.next_fate, Words.fate, Words.is_taken, Words.is_waiting, Words.has_fate, Words.times}
use Rattle.dspec_deeds.specs.{declared.deed.Deed.Deed}
use Rattle.dspec_deeds.proofs.{DeedEffects.Accounts, DeedOffers.waits_for, DeedOffers.next_offer, DeedOffers.Idle, DeedOffers.Offers, DeedOffers.Empties, DeedOffers.Effect, DeedOffers.idle}
use Rattle.dspec_deeds.proofs.{DeedOffers.offering, DeedOffers.emptying, TestLemmas.either_way, TestLemmas.number_is_itself, TestLemmas.same_number}

-- no record has a number beyond those offered
pub fate_beyond : (c j : ℕ) (h : List Deed) → offers c h ≤ j → fate c j h ≡ None
fate_beyond c j [] le = refl
fate_beyond c j (d ∷ h) le = step (offered_by c d) refl (fate_beyond c j h (omega arith))
  where
    step : (o : Option Record) → offered_by c d ≡ o → fate c j h ≡ None → fate c j (d ∷ h) ≡ None
    step None e i = rw (e, i) refl
    step (Some r) e i =
        let more : offers c h + 1 ≤ j = rw e at le in
        let other : (j == offers c h) ≡ false = grind (arith, nat_tests) in
        rw (e, other, i) refl

-- each offered record has a fate
pub fate_within : (c j : ℕ) (h : List Deed) → j < offers c h → IsSome (fate c j h)
fate_within c j [] lt = absurd (omega arith)
fate_within c j (d ∷ h) lt = grind (arith, nat_tests, fate_within c j h)

-- without an offer a deed changes fates only
fate_unoffered : (c j : ℕ) (d : Deed) (h : List Deed) → offered_by c d ≡ None → fate c j (d ∷ h) ≡ option_map (next_fate c d) (fate c j h)
fate_unoffered c j d h e = rw e refl

-- a deed that empties no buffer changes no fate
kept_fates : (c : ℕ) (d : Deed) → ((id : Speculation) → empties c id d ≡ false) → (x : Option Fate) → option_map (next_fate c d) x ≡ x
kept_fates c d e None = refl
kept_fates c d e (Some taken) = refl
kept_fates c d e (Some dropped) = refl
kept_fates c d e (Some discarded) = refl
kept_fates c d e (Some void) = refl
kept_fates c d e (Some (waiting id)) = rw (e id) refl

-- nothing done leaves the fates
pub fate_idle : (c j : ℕ) (d : Deed) (h : List Deed) → Idle c d h → fate c j (d ∷ h) ≡ fate c j h
fate_idle c j d h i = fate_unoffered c j d h i.offered ∙ kept_fates c d i.empty (fate c j h)

-- the record that is offered gets the first fate
pub fate_offered : (c : ℕ) (d : Deed) (h : List Deed) (r : Record) (f : Fate) → Offers c d h r f → fate c (offers c h) (d ∷ h) ≡ Some f
fate_offered c d h r f o = rw (o.offered, number_is_itself (offers c h)) (ap Some o.first)

-- a record offered before keeps its fate at an offer
pub fate_earlier : (c j : ℕ) (d : Deed) (h : List Deed) (r : Record) (f : Fate) → Offers c d h r f → (j == offers c h) ≡ false → fate c j (d ∷ h) ≡ fate c j h
fate_earlier c j d h r f o n = rw (o.offered, n) (kept_fates c d o.empty (fate c j h))

-- what becomes of a fate where a buffer is emptied
abbrev pub settled_as : Speculation → Fate → Fate → Fate
settled_as id f (waiting j) = if same_id j id then f else waiting j
settled_as id f x = x

-- an emptying deed gives its fate to what waited for it
emptied_fates : (c : ℕ) (d : Deed) (h : List Deed) (id : Speculation) (f : Fate) → Empties c d h id f → (x : Option Fate) → option_map (next_fate c d) x ≡ option_map (settled_as id f) x
emptied_fates c d h id f e None = refl
emptied_fates c d h id f e (Some taken) = refl
emptied_fates c d h id f e (Some dropped) = refl
emptied_fates c d h id f e (Some discarded) = refl
emptied_fates c d h id f e (Some void) = refl
emptied_fates c d h id f e (Some (waiting j)) = rw (e.empty j, e.fates j) refl

-- the fate of any record after a buffer was emptied
pub fate_emptied : (c j : ℕ) (d : Deed) (h : List Deed) (id : Speculation) (f : Fate) → Empties c d h id f → fate c j (d ∷ h) ≡ option_map (settled_as id f) (fate c j h)
fate_emptied c j d h id f e = fate_unoffered c j d h e.offered ∙ emptied_fates c d h id f e (fate c j h)

-- 1 where the record of that number has such a fate
abbrev pub tally : (Fate → Bool) → Option Fate → ℕ
tally test x = if has_fate test x then 1 else 0

-- the counts of two lists add up
pub times_append : (j : ℕ) (xs ys : List Offer) → times j (xs ++ ys) ≡ times j xs + times j ys
times_append j [] ys = omega arith
times_append j (x ∷ xs) ys = omega (arith, times_append j xs ys)

-- two identifiers are equal in either order
pub same_id_back : (a b : Speculation) → same_id a b ≡ same_id b a
same_id_back a b = grind (arith, nat_tests)

-- both branches are the same number
either : (b : Bool) (n : ℕ) → n ≡ (if b then n else n)
either true n = refl
either false n = refl

-- nothing is added
adds : (b : Bool) (n : ℕ) → n ≡ (if b then 0 else 0) + n
adds true n = omega arith
adds false n = omega arith

-- the emptied buffer's records wait no more, all others go on
emptied_tally : (id j : Speculation) (f : Fate) (x : Option Fate) → is_waiting f ≡ false → tally (waits_for j) (option_map (settled_as id f) x) ≡ (if same_id j id then 0 else tally (waits_for j) x)
emptied_tally id j f None g = either (same_id j id) 0
emptied_tally id j f (Some taken) g = either (same_id j id) 0
emptied_tally id j f (Some dropped) g = either (same_id j id) 0
emptied_tally id j f (Some discarded) g = either (same_id j id) 0
emptied_tally id j f (Some void) g = either (same_id j id) 0
emptied_tally id j f (Some (waiting i)) g = grind (arith, nat_tests)

-- a record is in the buffer of a speculation, once, exactly where it waits for it
pub times_held : (c j : ℕ) (id : Speculation) (h : List Deed) → Accounts c h → times j (held c id h) ≡ tally (waits_for id) (fate c j h)
times_held c j id [] l = refl
times_held c j id (d ∷ h) l = step (l.1) (times_held c j id h l.0)
  where
    step : Effect c d h → times j (held c id h) ≡ tally (waits_for id) (fate c j h) → times j (held c id (d ∷ h)) ≡ tally (waits_for id) (fate c j (d ∷ h))
    step (idle i) e = rw (i.holds id, fate_idle c j d h i) e
    step (offering r f o) e = ⊎_elim
        (λ (t : (j == offers c h) ≡ true).
        let at = same_number j (offers c h) t in
        let now : fate c j (d ∷ h) ≡ Some f = subst (λ n. fate c n (d ∷ h) ≡ Some f) (sym at) (fate_offered c d h r f o) in
        let before : fate c j h ≡ None = fate_beyond c j h (omega arith) in
        let none : times j (held c id h) ≡ 0 = rw before at e in
        rw (o.holds id, now) (first (waits_for id f) t none))
        (λ (n : (j == offers c h) ≡ false). rw (o.holds id, fate_earlier c j d h r f o n) (later (waits_for id f) n ∙ e))
        (either_way (j == offers c h))
      where
        first : (b : Bool) → (j == offers c h) ≡ true → times j (held c id h) ≡ 0 → times j (if b then next_offer c r h ∷ held c id h else held c id h) ≡ (if b then 1 else 0)
        first true t z = rw t (omega arith)
        first false t z = z

        later : (b : Bool) → (j == offers c h) ≡ false → times j (if b then next_offer c r h ∷ held c id h else held c id h) ≡ times j (held c id h)
        later true n = rw n (omega arith)
        later false n = refl
    step (emptying i f m) e = rw (m.holds id, fate_emptied c j d h i f m, emptied_tally i id f (fate c j h) m.gone) (rest (same_id id i))
      where
        rest : (b : Bool) → times j (if b then [] else held c id h) ≡ (if b then 0 else tally (waits_for id) (fate c j h))
        rest true = refl
        rest false = e

-- of the emptied buffer's records each has the new fate
pub emptied_gains : (test : Fate → Bool) → ((i : Speculation) → test (waiting i) ≡ false) → (id : Speculation) (f : Fate) (x : Option Fate)
    → tally test (option_map (settled_as id f) x) ≡ (if test f then tally (waits_for id) x else 0) + tally test x
emptied_gains test never id f None = adds (test f) 0
emptied_gains test never id f (Some taken) = adds (test f) (if test taken then 1 else 0)
emptied_gains test never id f (Some dropped) = adds (test f) (if test dropped then 1 else 0)
emptied_gains test never id f (Some discarded) = adds (test f) (if test discarded then 1 else 0)
emptied_gains test never id f (Some void) = adds (test f) (if test void then 1 else 0)
emptied_gains test never id f (Some (waiting j)) = grind (arith, nat_tests)

-- none of the emptied buffer waits any more
pub emptied_leaves : (id : Speculation) (f : Fate) (x : Option Fate) → is_waiting f ≡ false → tally is_waiting (option_map (settled_as id f) x) + tally (waits_for id) x ≡ tally is_waiting x
emptied_leaves id f None g = refl
emptied_leaves id f (Some taken) g = refl
emptied_leaves id f (Some dropped) g = refl
emptied_leaves id f (Some discarded) g = refl
emptied_leaves id f (Some void) g = refl
emptied_leaves id f (Some (waiting j)) g = grind (arith, nat_tests)

-- what the principal buffers accepted is what is taken, once each
pub times_taken : (c j : ℕ) (h : List Deed) → Accounts c h → times j (accepted c h) ≡ tally is_taken (fate c j h)
times_taken c j [] l = refl
times_taken c j (d ∷ h) l = step (l.1) (times_taken c j h l.0)
  where
    step : Effect c d h → times j (accepted c h) ≡ tally is_taken (fate c j h) → times j (accepted c (d ∷ h)) ≡ tally is_taken (fate c j (d ∷ h))
    step (idle i) e = rw (i.accepted, fate_idle c j d h i) e
    step (offering r f o) e = ⊎_elim
        (λ (t : (j == offers c h) ≡ true).
        let at = same_number j (offers c h) t in
        let now : fate c j (d ∷ h) ≡ Some f = subst (λ n. fate c n (d ∷ h) ≡ Some f) (sym at) (fate_offered c d h r f o) in
        let before : fate c j h ≡ None = fate_beyond c j h (omega arith) in
        let none : times j (accepted c h) ≡ 0 = rw before at e in
        rw (o.accepted, now) (first (is_taken f) t none))
        (λ (n : (j == offers c h) ≡ false). rw (o.accepted, fate_earlier c j d h r f o n) (later (is_taken f) n ∙ e))
        (either_way (j == offers c h))
      where
        first : (b : Bool) → (j == offers c h) ≡ true → times j (accepted c h) ≡ 0 → times j ((if b then next_offer c r h ∷ [] else []) ++ accepted c h) ≡ (if b then 1 else 0)
        first true t z = rw t (omega arith)
        first false t z = z

        later : (b : Bool) → (j == offers c h) ≡ false → times j ((if b then next_offer c r h ∷ [] else []) ++ accepted c h) ≡ times j (accepted c h)
        later true n = rw n (omega arith)
        later false n = refl
    step (emptying i f m) e =
        rw (m.accepted, fate_emptied c j d h i f m, emptied_gains is_taken (λ j. refl) i f (fate c j h)) (rest (is_taken f))
      where
        rest : (b : Bool) → times j ((if b then held c i h else []) ++ accepted c h) ≡ (if b then tally (waits_for i) (fate c j h) else 0) + tally is_taken (fate c j h)
        rest true = times_append j (held c i h) (accepted c h) ∙ rw (times_held c j i h l.0, e) refl
        rest false = omega (arith, e)
