-- The records of a CPU's batches, and what is put around them.
use Rattle.std.proofs.Common.{◌≡◌, ℕ, ◌+◌, ◌<◌, ◌==◌, List, [], ◌∷◌, ◌++◌, length, map, reverse, Some, drop, get_or, refl, sym, ap, ◌∙◌, subst, append_assoc, All, arith, Bool, true, false}
use Rattle.std.proofs.Common.{if◌then◌else◌, ◌^◌, suc, add-one, drop-cons}
use Rattle.std.proofs.lemmas.{Bool.Decides.nat_tests, List.get_or-map, List.length-map, List.reverse-append, List.Elements.All-nil, List.Elements.All-cons, List.Elements.All-head}
use Rattle.std.proofs.lemmas.{List.Elements.All-tail, List.Elements.All-push, List.Elements.All-append, List.Elements.All-map, List.Elements.All-get_or}
use Rattle.specview.specs.Words.{Record, EnabledRows, enabled, table_accepts, contents, accepts, accepted, stream, Offer, growing, seals_now, batches, batch_records, events, packet_of}
use Rattle.specview.specs.Words.{HasNoRecordPacket, metadata_fault, form_fault, ShareOf, share_of, shares, last_share, shown_share, written_shares, Accepts, packets_following, refused_in, Deed}
use Rattle.specview.specs.Words.{Form, AsTaken, ByTime, NoStamp, Numbered, PacketFault}
use Rattle.specview.specs.declared.batches.Share.{Share}
use Rattle.dspec_buffer.proofs.Accepted.{front_accepted, back_accepted}
use Rattle.dspec_deeds.proofs.Prefixes.{stream_in_batches}
use Rattle.dspec_record.specs.declared.header.Header.TheVariants as header
use Rattle.dspec_ctf.specs.declared.stream.PacketFault.TheVariants as packet

-- the contents of two lists, one after the other
contents_more : (xs ys : List Offer) → contents (xs ++ ys) ≡ contents xs ++ contents ys
contents_more [] ys = refl
contents_more (x ∷ xs) ys = ap (λ zs. x.content ∷ zs) (contents_more xs ys)

-- the stream after one more deed
pub stream_more : (c : ℕ) (d : Deed) (h : List Deed) → stream c (d ∷ h) ≡ stream c h ++ reverse (contents (accepts c d h))
stream_more c d h = ap reverse (contents_more (accepts c d h) (accepted c h)) ∙ reverse-append (contents (accepts c d h)) (contents (accepted c h))

pub all_turned : {X : Type 0} (P : X → Type 0) (xs : List X) → All P xs → All P (reverse xs)
all_turned P [] all = all
all_turned P (x ∷ xs) all = subst (All P) (sym (reverse-append (x ∷ []) xs)) (All-push P (reverse xs) x (all_turned P xs (All-tail P x xs all)) (All-head P x xs all))

module _ (Q : ShareOf → Type 0) where
  last_all : (s : ShareOf) → Q s → All Q (last_share s)
  last_all s is = grind (arith, nat_tests, All-nil, All-cons)

  -- what is true of each batch that grows, by what is known of the list then, is true of all that the CPU's file has packets of
  module _ (c : ℕ) (Known : List Deed → Type 0) (before : (d : Deed) (h : List Deed) → Known (d ∷ h) → Known h)
      (own : (h : List Deed) → Known h → Q (share_of (growing c h))) where
    batches_all : (h : List Deed) → Known h → All (λ b. Q (share_of b)) (batches c h)
    batches_all [] known = All-nil (λ b. Q (share_of b))
    batches_all (d ∷ h) known = step (seals_now c d) (batches_all h (before d h known))
      where
        step : (b : Bool) → All (λ x. Q (share_of x)) (batches c h) → All (λ x. Q (share_of x)) (if b then growing c h ∷ batches c h else batches c h)
        step true others = All-cons (λ x. Q (share_of x)) (growing c h) (batches c h) (own h (before d h known)) others
        step false others = others

    pub written_all : (drops : ℕ) (h : List Deed) → Q (record { drops = drops; records = [] }) → Known h → All Q (written_shares c h drops)
    written_all drops h none known = step (length (stream c h) == 0)
      where
        step : (b : Bool) → All Q (if b then last_share (record { drops = drops; records = [] }) else shares c h)
        step true = last_all (record { drops = drops; records = [] }) none
        step false =
            All-append Q (map share_of (reverse (batches c h))) (last_share (share_of (growing c h)))
            (All-map Q share_of (reverse (batches c h)) (all_turned (λ b. Q (share_of b)) (batches c h) (batches_all h known)))
            (last_all (share_of (growing c h)) (own h known))

  -- what is said of each is said of the one at a place
  pub share_at : (ss : List Share) (i : ℕ) (s : Share) → All Q (map shown_share ss) → i < length ss → s ≡ get_or ss i s → Q (shown_share s)
  share_at ss i s all lt is =
      subst Q (get_or-map shown_share ss i s (shown_share s) lt ∙ ap shown_share (sym is)) (All-get_or Q (map shown_share ss) i (shown_share s) (rw length-map lt) all)

-- the events have the records of each batch
abbrev pub HasRecords : EnabledRows → ShareOf → Type 0
HasRecords e s = All (Accepts e) s.records

module _ (e : EnabledRows) (c : ℕ) where
  pub known_before : (d : Deed) (h : List Deed) → All (Accepts e) (stream c (d ∷ h)) → All (Accepts e) (stream c h)
  known_before d h all =
      front_accepted (table_accepts e.header (enabled e.rows)) (stream c h) (reverse (contents (accepts c d h))) (subst (All (Accepts e)) (stream_more c d h) all)

  pub growing_known : (h : List Deed) → All (Accepts e) (stream c h) → All (Accepts e) (reverse (contents (growing c h).offers))
  growing_known h all =
      back_accepted (table_accepts e.header (enabled e.rows)) (batch_records (reverse (batches c h))) (reverse (contents (growing c h).offers))
      (subst (All (Accepts e)) (stream_in_batches c h) all)

  pub written_known : (drops : ℕ) (h : List Deed) → All (Accepts e) (stream c h) → All (HasRecords e) (written_shares c h drops)
  written_known drops h all = written_all (HasRecords e) c (λ g. All (Accepts e) (stream c g)) known_before growing_known drops h (All-nil (Accepts e)) all

-- records without a stamp have no trace by time
pub no_stamp : (form : Form) (e : EnabledRows) → (form ≡ AsTaken → ⊥) → e.header ≡ header.One → metadata_fault form e Numbered ≡ Some NoStamp
unfolding metadata_fault form_fault
no_stamp AsTaken e timed is = absurd (timed refl)
no_stamp (ByTime hertz) e timed is = rw is refl

module _ (e : EnabledRows) (missed : ℕ) (ss : List Share) (i : ℕ) (s : Share) (lt : i < length ss) (is : s ≡ get_or ss i s) where
  here : map shown_share (drop i ss) ≡ shown_share s ∷ map shown_share (drop (i + 1) ss)
  here =
      let next : drop (suc i) ss ≡ drop (i + 1) ss = ap (λ m. drop m ss) (sym (add-one i)) in
      ap (map shown_share) (drop-cons ss i s lt ∙ ap (λ (x : Share). x ∷ drop (suc i) ss) (sym is))
      ∙ ap (λ l. shown_share s ∷ map shown_share l) next

  -- its packet after those so far
  pub packet_next : (uuid : List ℕ) (cpu : ℕ) (old new bytes all : List ℕ) → new ≡ old ++ bytes → bytes ≡ packet_of uuid e (missed + s.drops) cpu s.records.now
      → old ++ packets_following uuid e cpu missed (map shown_share (drop i ss)) ≡ all → new ++ packets_following uuid e cpu (missed + s.drops) (map shown_share (drop (i + 1) ss)) ≡ all
  packet_next uuid cpu old new bytes all put is_packet before =
      ap (λ l. l ++ packets_following uuid e cpu (missed + s.drops) (map shown_share (drop (i + 1) ss))) (put ∙ ap (λ l. old ++ l) is_packet)
      ∙ (append_assoc old (packet_of uuid e (missed + s.drops) cpu s.records.now) (packets_following uuid e cpu (missed + s.drops) (map shown_share (drop (i + 1) ss)))
      ∙ (ap (λ l. old ++ packets_following uuid e cpu missed l) (sym here) ∙ before))

  -- what was refused so far, and what the batches from this one on refuse
  pub refused_next : missed + refused_in (map shown_share (drop i ss)) ≡ (missed + s.drops) + refused_in (map shown_share (drop (i + 1) ss))
  refused_next = let split = ap refused_in here in omega arith

-- records whose numbers are small have a packet, where memory isn't wanting
pub memory_alone : (e : EnabledRows) (missed drops : ℕ) (rs : List Record) (f : PacketFault) → missed + drops < 2 ^ 64 → length (events e rs) < 2 ^ 60
    → HasNoRecordPacket e missed drops rs f → f ≡ packet.Memory
memory_alone = grind (arith, nat_tests)
