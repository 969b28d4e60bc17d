-- Cited by calls. What the close of a session promises.
use Rattle.std.specs.Prelude.{ℕ, ◌≡◌, ◌<◌, Bool, false, List, [], ◌∷◌, ◌++◌, length, reverse, slice_get, Option, Some, None}
use Rattle.dspec_session_core.specs.Words.Outside.{Record, Piece, records, HasPieces, Speculation, part, scan, verdict, is_undecided, word_at, CanClose, WaitsUndecided, closing, Headline, IsLegal}
use Rattle.dspec_session_core.specs.Words.Outside.{HasAuthors, held, stream, accepted_first, IsOwn, start_fault, report, bare, own_closed, Ended, known, IsSealed, AreSealed, waiting, Shape, Config}
use Rattle.dspec_session_core.specs.Words.Outside.{Consumer, Deed, View, CpuSeat, Batch}
use Rattle.dspec_session_core.specs.declared.left.Left.{Left}
use Rattle.dspec_deeds.specs.declared.calls.Actor.TheVariants.{Cpu}

-- which sealed batch wasn't taken: the first of those drained, else the one in hand
abbrev pub rest_of : Option Batch → List Batch → Option Batch
rest_of held_back [] = held_back
rest_of held_back (b ∷ drained) = Some b

-- A list of all deeds before the close: it can close, each CPU's part of it is the CPU's list, the consumer's is the consumer's, and no
-- other has a deed in it.
pub record HasAllBefore (shape : ℕ → Option Shape) (k : Config) (consumer : List Deed) (p : ℕ → List Deed) (h : List Deed) : Type 0 where
  pub can_close : CanClose shape k h
  pub authors : HasAuthors k h
  pub own : (c : ℕ) → c < k.cpus → part (Cpu c) h ≡ p c
  pub consumer_is : part Consumer h ≡ consumer

module _ (shape : ℕ → Option Shape) (accepted : Record → Bool) (text : Record → List ℕ) where
  -- the buffers of these batches, the oldest first, hold these records in order
  abbrev pub HoldInOrder : List Batch → List Record → Type 0
  HoldInOrder [] rs = rs ≡ []
  HoldInOrder (b ∷ bs) rs =
      (ps : List Piece) × (rest : List Record) × HasPieces shape accepted text b.buffer ps × (rs ≡ reverse (records ps) ++ rest) × HoldInOrder bs rest

  -- What is left of the CPU c by the list g of all deeds, where the CPU had the list p, these batches of it were taken, and so many
  -- of its calls were answered Worn.
  pub record IsLeftBy (k : Config) (g : List Deed) (c worn : ℕ) (taken : List Batch) (p : List Deed) (l : Left) : Type 0 where
    -- its part is its list, then what it had still to settle by the words that the list shows
    pub own : part (Cpu c) g ≡ own_closed shape k (λ s. word_at s g) c k.nspec p
    -- its batches are those taken, then the one that wasn't, if there is one
    pub sealed : AreSealed shape accepted text k c (part (Cpu c) g) (reverse (taken ++ waiting l.rest))
    -- the last is its active buffer, with the drops since its last Seal
    pub last : IsSealed shape accepted text k c (part (Cpu c) g) l.last
    -- what was taken is what its first batches accepted, so many as were taken
    pub came : HoldInOrder taken (accepted_first (length taken) c g)
    -- what was taken, then what is left, is all that it accepted, in order
    pub kept : HoldInOrder (taken ++ waiting l.rest ++ l.last ∷ []) (stream c g)
    -- its report counts its deeds
    pub reported : l.report ≡ report k c worn g
    -- nothing decided is held
    pub none_held : (id : Speculation) → is_undecided (verdict id g) ≡ false → held c id g ≡ []
    -- what its first batches accepted, however many, is a prefix of all that it accepted; a record is accepted at most once, only
    -- after its own speculation's commit, and never after a discard; and every offered record has exactly one fate
    pub headline : Headline k c g

  -- The list g of all deeds closes the lists of the CPUs and of the consumer: it is a list of those alone and, in front of it, what the
  -- CPUs then owed, CPU by CPU; it is legal, the consumer's part of it is the consumer's list, this is left of each CPU, and a record
  -- that is held waits for a speculation that is undecided.
  pub record ClosesAs (k : Config) (worn : ℕ → ℕ) (taken : ℕ → List Batch) (consumer : List Deed) (left : List Left) (p : ℕ → List Deed) (g : List Deed) : Type 0 where
    pub before : List Deed
    pub all_before : HasAllBefore shape k consumer p before
    pub closing_is : g ≡ closing shape k before
    pub legal : IsLegal shape k g
    pub consumer_is : part Consumer g ≡ consumer
    pub all : length left ≡ k.cpus
    pub each : (c : ℕ) (l : Left) → slice_get left c ≡ Some l → IsLeftBy k g c (worn c) (taken c) (p c) l
    pub waits : WaitsUndecided k g

  -- for whichever lists the CPUs had, there is one such list of all deeds
  abbrev pub IsClosedBy : Config → (ℕ → List Deed → Type 0) → (ℕ → ℕ) → (ℕ → List Batch) → List Deed → List Left → Type 0
  IsClosedBy k had worn taken consumer left =
      (p : ℕ → List Deed) → ((c : ℕ) → c < k.cpus → had c (p c)) → (g : List Deed) × ClosesAs k worn taken consumer left p g

  -- what is left of the CPU c, told of one list of its own
  pub record LeftShows (k : Config) (c worn : ℕ) (taken : List Batch) (q : List Deed) (l : Left) : Type 0 where
    pub sealed : AreSealed shape accepted text k c q (reverse (taken ++ waiting l.rest))
    pub last : IsSealed shape accepted text k c q l.last
    pub report : l.report ≡ report k c worn q

-- a CPU can have the list, of which its seat has this one, and no call of speculation is under way
pub record IsAtRest (shape : ℕ → Option Shape) (k : Config) (c : ℕ) (seat p : List Deed) : Type 0 where
  pub legal : IsOwn shape k c p
  pub own : bare p ≡ seat
  pub idle : scan k c seat ≡ 0

module _ (shape : ℕ → Option Shape) (accepted : Record → Bool) (text : Record → List ℕ) where
  -- What is known once all seats and ring ends are back, where the CPUs had these lists: each is its seat's, and shows what is left
  -- of its CPU, once the CPU has settled by the last words.
  pub record ClosedFrom (k : Config) (words : List ℕ) (seats : List CpuSeat) (consumer : View) (worn : ℕ → ℕ) (taken : ℕ → List Batch) (left : List Left) (p : ℕ → List Deed) : Type 0 where
    pub checked : start_fault k ≡ None
    pub ended : Ended k words seats consumer
    pub seats_all : length seats ≡ k.cpus
    pub all : length left ≡ k.cpus
    pub rests : (c : ℕ) (s : CpuSeat) → slice_get seats c ≡ Some s → IsAtRest shape k c (known s).own (p c)
    pub shows : (c : ℕ) (l : Left) → slice_get left c ≡ Some l
        → LeftShows shape accepted text k c (worn c) (taken c) (own_closed shape k (λ s. word_at s ended.log) c k.nspec (p c)) l
