-- What is written after a file is read after what it has.
use Rattle.std.proofs.Common.{◌≡◌, ◌<◌, ◌++◌, ℕ, List, [], ◌∷◌, Some, ap, ◌∙◌, arith, All}
use Rattle.std.proofs.lemmas.{Grind.flat_map-append, List.append-nil, List.Elements.All-append, List.Elements.All-head, List.Elements.All-tail, List.Elements.All-weaker}
use Rattle.dspec_filing_reading.specs.Words.{FileTells, PartTells, Layout, EventRead, PacketRead, events_of, loss_of, read_file}

-- that it is read so
abbrev pub FilesJoin : Type 0
FilesJoin = (layout : Layout) (a b : List ℕ) (ps qs : List PacketRead) → read_file layout a ≡ Some ps → read_file layout b ≡ Some qs → read_file layout (a ++ b) ≡ Some (ps ++ qs)

-- packets that tell more than nothing tell it after others
loss_after : (ps qs : List PacketRead) (n : ℕ) → loss_of qs ≡ n → 0 < n → loss_of (ps ++ qs) ≡ n
loss_after [] qs n tells some = tells
loss_after (p ∷ []) [] n tells some = absurd (omega (arith, tells, some))
loss_after (p ∷ []) (q ∷ qs) n tells some = tells
loss_after (p ∷ o ∷ ps) qs n tells some = loss_after (o ∷ ps) qs n tells some

-- packets that tell what was told already change nothing
loss_kept : (n : ℕ) (ps qs : List PacketRead) → loss_of ps ≡ n → All (λ (p : PacketRead). p.discarded ≡ n) qs → loss_of (ps ++ qs) ≡ n
loss_kept n [] [] tells all = tells
loss_kept n [] (q ∷ []) tells all = All-head (λ (p : PacketRead). p.discarded ≡ n) q [] all
loss_kept n [] (q ∷ o ∷ qs) tells all = loss_kept n [] (o ∷ qs) tells (All-tail (λ (p : PacketRead). p.discarded ≡ n) q (o ∷ qs) all)
loss_kept n (p ∷ []) [] tells all = tells
loss_kept n (p ∷ []) (q ∷ []) tells all = All-head (λ (p : PacketRead). p.discarded ≡ n) q [] all
loss_kept n (p ∷ []) (q ∷ o ∷ qs) tells all = loss_kept n (p ∷ []) (o ∷ qs) tells (All-tail (λ (p : PacketRead). p.discarded ≡ n) q (o ∷ qs) all)
loss_kept n (p ∷ o ∷ ps) qs tells all = loss_kept n (o ∷ ps) qs tells all

module _ (join : FilesJoin) (layout : Layout) (uuid : List ℕ) (cpu : ℕ) where
  abbrev Whose : PacketRead → Type 0
  Whose p = (p.uuid ≡ uuid) × (p.cpu ≡ cpu)

  -- a part with more events
  pub grown : (a b : List ℕ) (es fs : List EventRead) (n : ℕ) → FileTells layout uuid cpu a es n → PartTells layout uuid cpu b fs n → FileTells layout uuid cpu (a ++ b) (es ++ fs) n
  grown a b es fs n whole part = record {
    packets = whole.packets ++ part.packets;
    read = join layout a b whole.packets part.packets whole.read part.read;
    has = flat_map-append (λ (p : PacketRead). p.events) whole.packets part.packets ∙ ap (λ xs. xs ++ events_of part.packets) whole.has ∙ ap (λ ys. es ++ ys) part.has;
    misses = loss_kept n whole.packets part.packets whole.misses
        (All-weaker (λ (p : PacketRead). (p.uuid ≡ uuid) × (p.cpu ≡ cpu) × (p.discarded ≡ n)) (λ (p : PacketRead). p.discarded ≡ n) (λ p h. h.2) part.packets part.whose);
    whose = All-append Whose whole.packets part.packets whole.whose
        (All-weaker (λ (p : PacketRead). (p.uuid ≡ uuid) × (p.cpu ≡ cpu) × (p.discarded ≡ n)) Whose (λ p h. (h.0, h.1)) part.packets part.whose);
  }

  -- packets without events that tell more
  pub told_more : (a b : List ℕ) (es : List EventRead) (n m : ℕ) → FileTells layout uuid cpu a es n → FileTells layout uuid cpu b [] m → 0 < m → FileTells layout uuid cpu (a ++ b) es m
  told_more a b es n m whole more some = record {
    packets = whole.packets ++ more.packets;
    read = join layout a b whole.packets more.packets whole.read more.read;
    has = flat_map-append (λ (p : PacketRead). p.events) whole.packets more.packets ∙ ap (λ xs. xs ++ events_of more.packets) whole.has ∙ ap (λ ys. es ++ ys) more.has ∙ append-nil es;
    misses = loss_after whole.packets more.packets m more.misses some;
    whose = All-append Whose whole.packets more.packets whole.whose more.whose;
  }
