-- The close of a session, from the lists of its CPUs.
use Rattle.std.proofs.Common.{◌≡◌, ℕ, Bool, ◌<◌, [], ◌∷◌, ◌++◌, List, length, reverse, take, Option, Some, None, refl, sym, ap, ◌∙◌, subst, inl, inr, ◌⊎◌, ◌≤◌, slice_get, get_or, arith}
use Rattle.std.proofs.lemmas.Option.{slice_get_within, slice_get_cases}
use Rattle.dspec_session_core.specs.Words.{Record, SlotState, part, scan, word_at, closing, batch_records, contents, stream, accepted_first, start_fault, woven, HaveLists, IsWoven, own_closed}
use Rattle.dspec_session_core.specs.Words.{IsCloseOf, Ended, known, IsSealed, AreSealed, waiting, HoldInOrder, IsAtRest, IsLeftBy, ClosesAs, ClosedFrom, Shape, Config, Deed, View, CpuSeat, Batch}
use Rattle.dspec_session_core.specs.declared.left.Left.{Left}
use Rattle.dspec_deeds.specs.declared.calls.Actor.TheVariants.{Cpu}
use Rattle.dspec_deeds.proofs.{BareReads.scan_bare, Headlines.headline, OwnParts.own_of_fitting, OwnReads.reads, WovenLists.weaves}
use Rattle.dspec_interleaving.proofs.ClosedParts.{closes, cpus_words}
use Rattle.dspec_session_core.proofs.ClosingRecords.{hold_all, hold_first}

-- there is a seat for each CPU
seat_there : (seats : List CpuSeat) (c n : ℕ) → length seats ≡ n → c < n → (s : CpuSeat) × (slice_get seats c ≡ Some s)
seat_there seats c n e lt = found (slice_get_cases seats c).1
  where
    found : ((s : CpuSeat) × (c < length seats) × (slice_get seats c ≡ Some s) × (get_or seats c s ≡ s)) ⊎ ((length seats ≤ c) × (slice_get seats c ≡ None))
        → (s : CpuSeat) × (slice_get seats c ≡ Some s)
    found (inl there) = (there.0, there.2)
    found (inr past) = let le = past.0 in absurd (omega arith)

-- The close of the list of all, of which the last words tell, with the Seals of the CPUs' lists put in; the words don't change.
pub record IsCloseAt (shape : ℕ → Option Shape) (k : Config) (h : List Deed) (p : ℕ → List Deed) (g : List Deed) : Type 0 where
  pub before : List Deed
  pub woven : IsWoven shape k p h before
  pub is : g ≡ closing shape k before
  pub close : IsCloseOf shape k p h g
  pub words : (s : ℕ) → word_at s g ≡ word_at s h

module _ (shape : ℕ → Option Shape) (k : Config) (words : List ℕ) (seats : List CpuSeat) (consumer : View) (checked : start_fault k ≡ None) (all : length seats ≡ k.cpus)
    (e : Ended k words seats consumer) (p : ℕ → List Deed) (rests : (c : ℕ) (s : CpuSeat) → slice_get seats c ≡ Some s → IsAtRest shape k c (known s).own (p c)) where
  -- the seats' lists are those of the CPUs, without the Seals
  pub lists_there : HaveLists shape k p e.log
  lists_there = record {
    own = λ c lt. let seat = seat_there seats c k.cpus all lt in (rests c seat.0 seat.1).legal;
    parts = λ c lt. let seat = seat_there seats c k.cpus all lt in (rests c seat.0 seat.1).own ∙ sym (e.of_each c seat.0 seat.1);
  }

  -- no call of speculation is under way
  pub none_scans : (c : ℕ) → c < k.cpus → scan k c e.log ≡ 0
  none_scans c lt =
      let seat = seat_there seats c k.cpus all lt in
      sym (reads k c e.log).apart.scanning ∙ (ap (scan k c) (e.of_each c seat.0 seat.1) ∙ (rests c seat.0 seat.1).idle)

  pub close_of_ended : (g : List Deed) × IsCloseAt shape k e.log p g
  close_of_ended =
      let w = woven k.cpus p e.log in
      let is : IsWoven shape k p e.log w = weaves shape k e.log p e.sound e.rests e.authors lists_there in (
        closing shape k w,
        record {
          before = w;
          woven = is;
          is = refl;
          close = closes shape k e.log p w checked none_scans is (λ c g legal. headline shape k c g legal.0);
          words = λ s. ap (λ (f : ℕ → SlotState). f s) (cpus_words shape k k.cpus w) ∙ is.shows.words s;
        },
      )

module _ (shape : ℕ → Option Shape) (accepted : Record → Bool) (text : Record → List ℕ) (k : Config) (words : List ℕ) (seats : List CpuSeat) (consumer : View)
    (worn : ℕ → ℕ) (taken : ℕ → List Batch) (left : List Left) (p : ℕ → List Deed) (is : ClosedFrom shape accepted text k words seats consumer worn taken left p) where
  -- what is left of one CPU
  left_by : (g : List Deed) → IsCloseAt shape k is.ended.log p g → (c : ℕ) (l : Left) → slice_get left c ≡ Some l
      → IsLeftBy shape accepted text k g c (worn c) (taken c) (p c) l
  left_by g found c l there =
      let lt : c < k.cpus = subst (λ n. c < n) is.all (slice_get_within left c l there) in
      let shown = is.shows c l there in
      let own = found.close.own c lt in
      let alike = (found.close.reads c lt).apart in
      let listed = own_of_fitting shape k c g found.close.legal.0.1 in
      let sealed : AreSealed shape accepted text k c (part (Cpu c) g) (reverse (taken c ++ waiting l.rest))
      = subst (λ q. AreSealed shape accepted text k c q (reverse (taken c ++ waiting l.rest))) (sym own) shown.sealed in
      let last : IsSealed shape accepted text k c (part (Cpu c) g) l.last = subst (λ q. IsSealed shape accepted text k c q l.last) (sym own) shown.last in
      let kept : HoldInOrder shape accepted text (taken c ++ waiting l.rest ++ l.last ∷ []) (stream c g)
      = subst (λ os. HoldInOrder shape accepted text (taken c ++ waiting l.rest ++ l.last ∷ []) (reverse (contents os))) (reads k c g).apart.taking
      (hold_all shape accepted text k c (part (Cpu c) g) (taken c ++ waiting l.rest) l.last listed sealed last) in
      let came : HoldInOrder shape accepted text (taken c) (accepted_first (length (taken c)) c g)
      = subst (λ bs. HoldInOrder shape accepted text (taken c) (batch_records (take (length (taken c)) (reverse bs)))) (reads k c g).sealed
      (hold_first shape accepted text k c (part (Cpu c) g) (taken c) (waiting l.rest) listed sealed) in
      record {
        own = own ∙ (λ i. own_closed shape k (λ s. sym (found.words s) i) c k.nspec (p c));
        sealed = sealed;
        last = last;
        came = came;
        kept = kept;
        reported = shown.report ∙ alike.reporting (worn c);
        none_held = λ id. found.close.none_held c id lt;
        headline = found.close.headline c lt;
      }

  pub closes_as : (g : List Deed) × ClosesAs shape accepted text k worn taken consumer.own left p g
  closes_as =
      let found = close_of_ended shape k words seats consumer is.checked is.seats_all is.ended p is.rests in
      let close = found.1.close in
      let wove = found.1.woven in
      let idle = none_scans shape k words seats consumer is.checked is.seats_all is.ended p is.rests in (
        found.0,
        record {
          before = found.1.before;
          all_before = record {
            can_close = record { legal = wove.legal.0; rests = wove.rests; idle = λ c lt. scan_bare k c found.1.before ∙ (ap (scan k c) wove.rest ∙ idle c lt) };
            authors = wove.legal.1;
            own = wove.own;
            consumer_is = wove.consumer ∙ is.ended.of_consumer;
          };
          closing_is = found.1.is;
          legal = close.legal;
          consumer_is = close.consumer ∙ is.ended.of_consumer;
          all = is.all;
          each = left_by found.0 found.1;
          waits = close.waits;
        },
      )
