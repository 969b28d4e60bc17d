-- The batches of a CPU and its last active buffer hold what it accepted, in order.
use Rattle.std.proofs.Common.{arith, ◌≡◌, ℕ, ◌+◌, Bool, true, false, ◌&&◌, ◌==◌, if◌then◌else◌, List, [], ◌∷◌, ◌++◌, reverse, length, take, Option, refl, sym, ap, ◌∙◌, subst, subst₂, append_assoc}
use Rattle.std.proofs.lemmas.{Bool.Decides.nat_tests, List.reverse-append, List.reverse-reverse, List.append-nil}
use Rattle.dspec_session_core.specs.Words.{Record, Piece, one, block, records, HasPieces, trace_kept, is_copied, Offer, contents, offers, held, active, growing, batches, batch_records, empty_batch}
use Rattle.dspec_session_core.specs.Words.{stream, taken, Sealing, IsOwn, IsSealed, AreSealed, HoldInOrder, Shape, Config, Deed, Trace, Commit, Settle, Seal, Batch}
use Rattle.dspec_deeds.proofs.Prefixes.{stream_in_batches}

-- the contents of two lists, one after the other
both_contents : (xs ys : List Offer) → contents (xs ++ ys) ≡ contents xs ++ contents ys
both_contents [] ys = refl
both_contents (x ∷ xs) ys = ap (λ zs. x.content ∷ zs) (both_contents xs ys)

-- a record that is kept, or not
kept_grows : (b : Bool) (n : ℕ) (r : Record) (ps : List Piece) (os : List Offer) → records ps ≡ contents os
    → records (if b then one r ∷ ps else ps) ≡ contents ((if b then record { number = n; content = r } ∷ [] else []) ++ os)
kept_grows true n r ps os e = ap (λ rs. r ∷ rs) e
kept_grows false n r ps os e = e

-- a block that is copied, or not
copied_grows : (b : Bool) (hs : List Offer) (ps : List Piece) (os : List Offer) → records ps ≡ contents os
    → records (if b then block (contents hs) ∷ ps else ps) ≡ contents ((if b then hs else []) ++ os)
copied_grows true hs ps os e = ap (λ rs. contents hs ++ rs) e ∙ sym (both_contents hs os)
copied_grows false hs ps os e = e

-- a Seal of this CPU, or of another
sealed_grows : (b : Bool) (ps : List Piece) (x y : Sealing) → records ps ≡ contents x.offers → y.offers ≡ x.offers
    → records (if b then [] else ps) ≡ contents (if b then empty_batch else y).offers
sealed_grows true ps x y e same = refl
sealed_grows false ps x y e same = e ∙ ap contents (sym same)

-- the active buffer has the records of the batch that the next Seal seals
pub active_grows : (c : ℕ) (h : List Deed) → records (active c h) ≡ contents (growing c h).offers
active_grows c [] = refl
active_grows c (Trace a r f ∷ h) = kept_grows (trace_kept f && (c == a)) (offers c h) r (active c h) (growing c h).offers (active_grows c h)
active_grows c (Commit a id f ∷ h) = copied_grows (is_copied f && (c == a)) (held c id h) (active c h) (growing c h).offers (active_grows c h)
active_grows c (Settle a id f ∷ h) = copied_grows (is_copied f && (c == a)) (held c id h) (active c h) (growing c h).offers (active_grows c h)
active_grows c (Seal a ∷ h) = grind (arith, nat_tests, active_grows c h, sealed_grows)
active_grows c (d ∷ h) = active_grows c h

-- the records of batches, and of one more
one_more : (xs : List Sealing) (b : Sealing) → batch_records (xs ++ b ∷ []) ≡ batch_records xs ++ reverse (contents b.offers)
one_more [] b = append-nil (reverse (contents b.offers))
one_more (x ∷ xs) b =
    ap (λ rs. reverse (contents x.offers) ++ rs) (one_more xs b)
    ∙ sym (append_assoc (reverse (contents x.offers)) (batch_records xs) (reverse (contents b.offers)))

module _ (shape : ℕ → Option Shape) (accepted : Record → Bool) (text : Record → List ℕ) where
  -- a batch's buffer has the records of a batch of the list
  record Fills (b : Batch) (s : Sealing) : Type 0 where
    pub pieces : List Piece
    pub has : HasPieces shape accepted text b.buffer pieces
    pub same : records pieces ≡ contents s.offers

  -- one by one
  abbrev Match : List Batch → List Sealing → Type 0
  Match [] [] = Unit {0}
  Match (b ∷ bs) (s ∷ ss) = Fills b s × Match bs ss
  Match x y = ⊥

  match_both : (bs cs : List Batch) (ss ts : List Sealing) → Match bs ss → Match cs ts → Match (bs ++ cs) (ss ++ ts)
  match_both [] cs [] ts m n = n
  match_both (b ∷ bs) cs (s ∷ ss) ts m n = (m.0, match_both bs cs ss ts m.1 n)
  match_both bs cs ss ts m n = absurd m

  match_reverse : (bs : List Batch) (ss : List Sealing) → Match bs ss → Match (reverse bs) (reverse ss)
  match_reverse [] [] m = tt
  match_reverse (b ∷ bs) (s ∷ ss) m =
      subst₂ Match (sym (reverse-append (b ∷ []) bs)) (sym (reverse-append (s ∷ []) ss))
      (match_both (reverse bs) (b ∷ []) (reverse ss) (s ∷ []) (match_reverse bs ss m.1) (m.0, tt))
  match_reverse bs ss m = absurd m

  match_first : (bs cs : List Batch) (ss : List Sealing) → Match (bs ++ cs) ss → Match bs (take (length bs) ss)
  match_first [] cs ss m = tt
  match_first (b ∷ bs) cs [] m = absurd m
  match_first (b ∷ bs) cs (s ∷ ss) m = (m.0, match_first bs cs ss m.1)

  match_hold : (bs : List Batch) (ss : List Sealing) → Match bs ss → HoldInOrder shape accepted text bs (batch_records ss)
  match_hold [] [] m = refl
  match_hold (b ∷ bs) (s ∷ ss) m = grind (arith, nat_tests, match_hold bs ss m.1)
  match_hold bs ss m = absurd m

  module _ (k : Config) (c : ℕ) where
    -- what the active buffer was then
    grown_fills : (q : List Deed) (b : Batch) → IsSealed shape accepted text k c q b → Fills b (growing c q)
    grown_fills q b s = record { pieces = active c q; has = s.buffer.has; same = active_grows c q }

    -- the batches that a list seals, the latest first
    sealed_match : (q : List Deed) (bs : List Batch) → IsOwn shape k c q → AreSealed shape accepted text k c q bs → Match bs (batches c q)
    sealed_match [] bs own none = subst (λ x. Match x []) (sym none) tt
    sealed_match (Seal a ∷ q) bs own s =
        subst (λ x. Match x (if c == a then growing c q ∷ batches c q else batches c q)) (sym s.2)
        (subst (λ x. Match (s.0 ∷ s.1) (if x then growing c q ∷ batches c q else batches c q)) (sym own.1)
        (grown_fills q s.0 s.3, sealed_match q s.1 own.0 s.4))
    sealed_match (d ∷ q) bs own s = sealed_match q bs own.0 s

    -- in order
    ordered : (q : List Deed) (bs : List Batch) → IsOwn shape k c q → AreSealed shape accepted text k c q (reverse bs) → Match bs (reverse (batches c q))
    ordered q bs own sealed = subst (λ x. Match x (reverse (batches c q))) (reverse-reverse bs) (match_reverse (reverse bs) (batches c q) (sealed_match q (reverse bs) own sealed))

    -- with the last active buffer they hold all that was accepted
    pub hold_all : (q : List Deed) (bs : List Batch) (last : Batch) → IsOwn shape k c q → AreSealed shape accepted text k c q (reverse bs)
        → IsSealed shape accepted text k c q last → HoldInOrder shape accepted text (bs ++ last ∷ []) (stream c q)
    hold_all q bs last own sealed end =
        let all = reverse (batches c q) ++ growing c q ∷ [] in
        let matched : Match (bs ++ last ∷ []) all
        = match_both bs (last ∷ []) (reverse (batches c q)) (growing c q ∷ []) (ordered q bs own sealed) (grown_fills q last end, tt) in
        subst (λ x. HoldInOrder shape accepted text (bs ++ last ∷ []) x) (one_more (reverse (batches c q)) (growing c q) ∙ sym (stream_in_batches c q))
        (match_hold (bs ++ last ∷ []) all matched)

    -- the first of them hold what the first batches of the list accepted
    pub hold_first : (q : List Deed) (bs cs : List Batch) → IsOwn shape k c q → AreSealed shape accepted text k c q (reverse (bs ++ cs))
        → HoldInOrder shape accepted text bs (taken (length bs) c q)
    hold_first q bs cs own sealed =
        match_hold bs (take (length bs) (reverse (batches c q))) (match_first bs cs (reverse (batches c q)) (ordered q (bs ++ cs) own sealed))
