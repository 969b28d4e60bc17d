-- A CPU's stream, cut into its batches.
use Rattle.std.proofs.Common.{◌≡◌, ℕ, ◌+◌, ◌≤◌, ◌<◌, true, false, List, [], ◌∷◌, ◌++◌, length, map, reverse, take, drop, get_or, refl, sym, ap, ◌∙◌, subst, append_assoc, arith, if◌then◌else◌}
use Rattle.std.proofs.lemmas.Bool.Decides.{nat_tests}
use Rattle.std.proofs.lemmas.List.{reverse-append, append-nil, append_cancel_left, take-append-drop, take_all, take_at, drop_at, take_more, map-append, length-append, length-reverse}
use Rattle.specview.specs.Words.{Record, contents, accepts, stream, seals_now, is_drop, Sealing, growing, batches, batch_records, accepts_now, ShareOf, share_of, shares, last_share, TellsCounts}
use Rattle.specview.specs.Words.{Deed}
use Rattle.dspec_deeds.proofs.Prefixes.{stream_in_batches}
use Rattle.dspec_core.proofs.MachineReads.{length_contents}
use Rattle.specview.proofs.Parts.{stream_more}

records_more : (xs ys : List Sealing) → batch_records (xs ++ ys) ≡ batch_records xs ++ batch_records ys
records_more [] ys = refl
records_more (b ∷ xs) ys = rw (records_more xs ys) (sym (append_assoc (reverse (contents b.offers)) (batch_records xs) (batch_records ys)))

-- batches with one more after them
one_more : (b : Sealing) (bs : List Sealing) → batch_records (reverse (b ∷ bs)) ≡ batch_records (reverse bs) ++ reverse (contents b.offers)
one_more b bs =
    ap batch_records (reverse-append (b ∷ []) bs)
    ∙ (records_more (reverse bs) (b ∷ []) ∙ ap (λ xs. batch_records (reverse bs) ++ xs) (append-nil (reverse (contents b.offers))))

-- the records begin with the stream of this list
abbrev pub Begins : ℕ → List Deed → List Record → Type 0
Begins c h all = (more : List Record) × (all ≡ stream c h ++ more)

begins_later : (c : ℕ) (xs h : List Deed) → Begins c h (stream c (xs ++ h))
begins_later c [] h = ([], sym (append-nil (stream c h)))
begins_later c (x ∷ xs) h =
    let before = begins_later c xs h in
    let own = reverse (contents (accepts c x (xs ++ h))) in
    (before.0 ++ own, stream_more c x (xs ++ h) ∙ (ap (λ rs. rs ++ own) before.1 ∙ append_assoc (stream c h) before.0 own))

tells_earlier : (c : ℕ) (xs h : List Deed) → TellsCounts c (xs ++ h) → TellsCounts c h
tells_earlier c [] h t = t
tells_earlier c (x ∷ xs) h t = tells_earlier c xs h t.0

-- all deeds, those after a place in front
split : (ds : List Deed) (i : ℕ) → reverse ds ≡ reverse (drop i ds) ++ reverse (take i ds)
split ds i = ap reverse (sym (take-append-drop i ds)) ∙ reverse-append (take i ds) (drop i ds)

-- the deeds up to a place, and the one there
further : (ds : List Deed) (i : ℕ) (d : Deed) → i < length ds → d ≡ get_or ds i d → reverse (take (i + 1) ds) ≡ d ∷ reverse (take i ds)
further ds i d lt is =
    ap reverse (take_more ds i d lt ∙ ap (λ (x : Deed). take i ds ++ x ∷ []) (sym is)) ∙ reverse-append (take i ds) (d ∷ [])

pub begins_at : (c : ℕ) (ds : List Deed) (i : ℕ) (all : List Record) → all ≡ stream c (reverse ds) → Begins c (reverse (take i ds)) all
begins_at c ds i all is =
    let front = begins_later c (reverse (drop i ds)) (reverse (take i ds)) in
    (front.0, is ∙ (ap (stream c) (split ds i) ∙ front.1))

tells_at : (c : ℕ) (ds : List Deed) (i : ℕ) → TellsCounts c (reverse ds) → TellsCounts c (reverse (take i ds))
tells_at c ds i t = tells_earlier c (reverse (drop i ds)) (reverse (take i ds)) (subst (TellsCounts c) (split ds i) t)

-- how far records were cut
pub record IsCut (c : ℕ) (h : List Deed) (all : List Record) (cut : List ShareOf) (rest : List Record) (count drops : ℕ) : Type 0 where
  pub done : cut ≡ map share_of (reverse (batches c h))
  pub left : all ≡ batch_records (reverse (batches c h)) ++ rest
  pub counted : count ≡ length (growing c h).offers
  pub dropped : drops ≡ (growing c h).drops

module _ (c : ℕ) (all : List Record) where
  -- what wasn't cut yet begins with the records of the batch that grows
  rest_begins : (h : List Deed) (rest more : List Record) → all ≡ batch_records (reverse (batches c h)) ++ rest → all ≡ stream c h ++ more
      → rest ≡ reverse (contents (growing c h).offers) ++ more
  rest_begins h rest more left begins =
      append_cancel_left (batch_records (reverse (batches c h))) rest (reverse (contents (growing c h).offers) ++ more)
      (sym left ∙ (begins ∙ (ap (λ xs. xs ++ more) (stream_in_batches c h) ∙ append_assoc (batch_records (reverse (batches c h))) (reverse (contents (growing c h).offers)) more)))

  growing_long : (h : List Deed) → length (reverse (contents (growing c h).offers)) ≡ length (growing c h).offers
  growing_long h = length-reverse (contents (growing c h).offers) ∙ length_contents (growing c h).offers

  -- a batch is cut off
  cut_sealed : (h : List Deed) (d : Deed) (cut : List ShareOf) (rest : List Record) (count drops : ℕ) → IsCut c h all cut rest count drops → Begins c h all
      → seals_now c d ≡ true
      → IsCut c (d ∷ h) all (cut ++ record { drops = drops; records = take count rest } ∷ []) (drop count rest) 0 0
  cut_sealed h d cut rest count drops is begins seal =
      let b = growing c h in
      let front : rest ≡ reverse (contents b.offers) ++ begins.0 = rest_begins h rest begins.0 is.left begins.1 in
      let long : length (reverse (contents b.offers)) ≡ count = growing_long h ∙ sym is.counted in
      let taken : take count rest ≡ reverse (contents b.offers) = ap (take count) front ∙ take_at (reverse (contents b.offers)) begins.0 count long in
      let kept : drop count rest ≡ begins.0 = ap (drop count) front ∙ drop_at (reverse (contents b.offers)) begins.0 count long in
      let share : record { drops = drops; records = take count rest } ≡ share_of b = rw (taken, is.dropped) refl in
      record {
        done = rw (seal, share, is.done) (sym (ap (map share_of) (reverse-append (b ∷ []) (batches c h)) ∙ map-append share_of (reverse (batches c h)) (b ∷ [])));
        left = rw (seal, kept, one_more b (batches c h)) (is.left ∙ (ap (λ xs. batch_records (reverse (batches c h)) ++ xs) front
            ∙ sym (append_assoc (batch_records (reverse (batches c h))) (reverse (contents b.offers)) begins.0)));
        counted = rw seal refl;
        dropped = rw seal refl;
      }

  -- nothing is cut off
  cut_grown : (h : List Deed) (d : Deed) (cut : List ShareOf) (rest : List Record) (count drops more one : ℕ) → IsCut c h all cut rest count drops
      → TellsCounts c (d ∷ h) → seals_now c d ≡ false → more ≡ accepts_now c d → one ≡ (if is_drop c d then 1 else 0)
      → IsCut c (d ∷ h) all cut rest (count + more) (drops + one)
  cut_grown h d cut rest count drops more one is tells seal adds loses = grind (arith, nat_tests, length-append)

  -- after one more deed, by which a batch was sealed
  pub sealed_at : (ds : List Deed) (i : ℕ) (d : Deed) (cut new : List ShareOf) (front rest back : List Record) (count drops : ℕ) → all ≡ stream c (reverse ds)
      → IsCut c (reverse (take i ds)) all cut rest count drops → i < length ds → d ≡ get_or ds i d → seals_now c d ≡ true
      → front ≡ take count rest → back ≡ drop count rest → new ≡ cut ++ record { drops = drops; records = front } ∷ []
      → IsCut c (reverse (take (i + 1) ds)) all new back 0 0
  sealed_at ds i d cut new front rest back count drops ends is lt read seal front_is back_is new_is =
      rw (further ds i d lt read, new_is, front_is, back_is) (cut_sealed (reverse (take i ds)) d cut rest count drops is (begins_at c ds i all ends) seal)

  -- and by which none was
  pub grown_at : (ds : List Deed) (i : ℕ) (d : Deed) (cut : List ShareOf) (rest : List Record) (count drops more one : ℕ) → TellsCounts c (reverse ds)
      → IsCut c (reverse (take i ds)) all cut rest count drops → i < length ds → d ≡ get_or ds i d → seals_now c d ≡ false
      → more ≡ accepts_now c d → one ≡ (if is_drop c d then 1 else 0)
      → IsCut c (reverse (take (i + 1) ds)) all cut rest (count + more) (drops + one)
  grown_at ds i d cut rest count drops more one tells is lt read seal adds loses =
      rw (further ds i d lt read)
      (cut_grown (reverse (take i ds)) d cut rest count drops more one is (subst (TellsCounts c) (further ds i d lt read) (tells_at c ds (i + 1) tells)) seal adds loses)

  -- what is to be cut off is there
  pub enough : (h : List Deed) (cut : List ShareOf) (rest : List Record) (count drops : ℕ) → IsCut c h all cut rest count drops → Begins c h all → count ≤ length rest
  enough h cut rest count drops is begins =
      let front = ap length (rest_begins h rest begins.0 is.left begins.1) ∙ length-append (reverse (contents (growing c h).offers)) begins.0 in
      let long = growing_long h in
      let told = is.counted in
      omega arith

  -- a batch that grows has no more records than there are
  growing_within : (h : List Deed) → Begins c h all → length (growing c h).offers ≤ length all
  growing_within h begins = grind (arith, nat_tests, length-append, stream_in_batches, growing_long)

  -- one more deed's records are among them
  pub grown_within : (ds : List Deed) (i : ℕ) (d : Deed) (cut : List ShareOf) (rest : List Record) (count drops more one : ℕ) → TellsCounts c (reverse ds) → all ≡ stream c (reverse ds)
      → IsCut c (reverse (take i ds)) all cut rest count drops → i < length ds → d ≡ get_or ds i d → seals_now c d ≡ false
      → more ≡ accepts_now c d → one ≡ (if is_drop c d then 1 else 0) → count + more ≤ length all
  grown_within ds i d cut rest count drops more one tells ends is lt read seal adds loses =
      let next = grown_at ds i d cut rest count drops more one tells is lt read seal adds loses in
      let most = growing_within (reverse (take (i + 1) ds)) (begins_at c ds (i + 1) all ends) in
      let told = next.counted in
      omega arith

  -- what was left at the end
  ended : (h : List Deed) (cut : List ShareOf) (rest : List Record) (count drops : ℕ) → IsCut c h all cut rest count drops → all ≡ stream c h
      → record { drops = drops; records = rest } ≡ share_of (growing c h)
  ended h cut rest count drops is ends =
      let front : rest ≡ reverse (contents (growing c h).offers) = rest_begins h rest [] is.left (ends ∙ sym (append-nil (stream c h))) ∙ append-nil (reverse (contents (growing c h).offers)) in
      rw (front, is.dropped) refl

  -- with what was left after them, the batches are all
  pub ended_at : (ds : List Deed) (i : ℕ) (cut found : List ShareOf) (rest : List Record) (count drops : ℕ) → all ≡ stream c (reverse ds)
      → IsCut c (reverse (take i ds)) all cut rest count drops → length ds ≤ i → found ≡ cut ++ last_share (record { drops = drops; records = rest })
      → found ≡ shares c (reverse ds)
  ended_at ds i cut found rest count drops ends is le found_is = grind (arith, nat_tests, take_all, ended)
