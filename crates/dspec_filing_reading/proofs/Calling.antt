-- What each call makes of what is known of a CPU's files and packets.
use Rattle.std.proofs.Common.{◌≡◌, ◌<◌, ◌≤◌, ◌+◌, ◌-◌, ◌^◌, ◌++◌, inl, inr, ℕ, true, List, [], ◌∷◌, Some, None, ap, sym, subst, ◌∙◌, arith, length, min, take}
use Rattle.std.proofs.Math.Seq.{take-append_seam}
use Rattle.std.proofs.lemmas.{Bool.Decides.nat_tests, List.append-nil, List.Elements.All-nil}
use Rattle.std.specs.Prelude.{slice_range}
use Rattle.dspec_filing_reading.specs.Words.{Record, EnabledRows, Accepts, IsText, CpuFiling, FilingRoom, as_written, emptied_in, Hands, HandsNone, has_no_rest, HasAsMuchRoom, OpensBatch, unwritten}
use Rattle.dspec_filing_reading.specs.Words.{without_rest, with_more_missed, AreFrontsKept, FilingCall, CallMakes, told_missed, packets_after, Packets, all_written, opened_text, Opened, OpenRefused}
use Rattle.dspec_filing_reading.specs.Words.{Put, NoMore, PutRefused, Lost, Missed, Reserved, RoomSwapped, Names, Packet, PutFault}
use Rattle.dspec_record.specs.declared.header.Header.TheVariants as header
use Rattle.dspec_filing_reading.proofs.{FilesLaws.FilesLaws, Fronts.all_accepted, Fronts.more_fronts, Fronts.none_between, Fronts.one_front, Packets.Reads, Packets.reads_same, Standing.Stands}
use Rattle.dspec_filing_reading.proofs.{Standing.finds, Standing.hands_missed, Standing.hands_run, Standing.settles}

-- so many are counted, where 64 bits are enough
pub counted_whole : (n : ℕ) → min n (2 ^ 64 - 1) + 1 < 2 ^ 64 → min n (2 ^ 64 - 1) ≡ n
counted_whole n small = omega (arith, small)

-- what was missed before no call makes less, where 64 bits are enough
pub rises_put : (old : CpuFiling) (room : List ℕ) (p : Packet) (filled : List ℕ) (new : CpuFiling) → Hands old room (Some p) filled new → new.missed ≡ old.missed
rises_put old room p filled new (inl (to_tell, h)) = ap (λ (f : CpuFiling). f.missed) h.is
rises_put old room p filled new (inr x) = ap (λ (f : CpuFiling). f.missed) x.hands.is ∙ ap (λ (f : CpuFiling). f.missed) x.finds.is

rises_none : (old : CpuFiling) (room : List ℕ) (fault : PutFault) (new : CpuFiling) → HandsNone old room fault new → new.missed ≡ old.missed
rises_none = grind (arith, nat_tests)

pub rises : (old : CpuFiling) (call : FilingCall) (new : CpuFiling) → CallMakes old call new → new.missed + 1 < 2 ^ 64 → old.missed ≤ new.missed
rises = grind (arith, nat_tests, rises_put, rises_none, counted_whole)

-- where no record is left, all of them are written or lost
at_the_end : (f : CpuFiling) → has_no_rest f ≡ true → f.from ≤ length f.records → f.from ≡ length f.records
at_the_end f through within = grind (arith, nat_tests)

-- bytes at the front of a room are the first of it
at_front : (bytes rest filled : List ℕ) (size : ℕ) → size ≡ length bytes → filled ≡ bytes ++ rest → take size filled ≡ bytes
at_front bytes rest filled size size_is is = ap (λ n. take n filled) size_is ∙ ap (take (length bytes)) is ∙ take-append_seam bytes rest

module _ (uuid : List ℕ) (e : EnabledRows) (names : Names) (hertz cpu : ℕ) where
  abbrev Stand : CpuFiling → Packets → List (List ℕ) → ℕ → Type 0
  Stand f w texts count = Stands uuid e names hertz cpu f w texts count

  -- only the room changes
  roomy : (f : CpuFiling) (w : Packets) (texts : List (List ℕ)) (count : ℕ) (new : CpuFiling) → HasAsMuchRoom f new → Stand f w texts count → Stand new w texts count
  roomy = grind (arith, nat_tests)

  -- more was missed
  misses : (f : CpuFiling) (w : Packets) (texts : List (List ℕ)) (count more : ℕ) → min (f.missed + more) (2 ^ 64 - 1) + 1 < 2 ^ 64 → Stand f w texts count
      → Stand (with_more_missed f more) w texts (count + more)
  misses f w texts count more small s = grind (arith, nat_tests, counted_whole)

  -- what was handed out last is lost, and the rest of the batch
  loses : (f : CpuFiling) (w : Packets) (texts : List (List ℕ)) (count : ℕ) → min (f.missed + unwritten f) (2 ^ 64 - 1) + 1 < 2 ^ 64 → Stand f w texts count
      → Stand (without_rest f) (record { written = w.written; last = [] }) texts count
  loses f w texts count small s =
      let whole = counted_whole (f.missed + unwritten f) small in
      let end : ℕ = length f.records in
      let start : f.from ≤ end = omega (arith, s.from_place, s.within) in
      record {
        uuid_is = s.uuid_is;
        schema_is = s.schema_is;
        cpu_is = s.cpu_is;
        accepted = s.accepted;
        from_place = omega arith;
        within = omega arith;
        few = s.few;
        first = s.first;
        found = λ run none. absurd (cc (none));
        kept = s.kept;
        lost = s.lost + unwritten f;
        keeps = λ to low high.
            let at_end : to ≡ end = omega (arith, low, high) in
            let none : slice_range f.records f.from f.from ≡ slice_range f.records end to =
            none_between f.records f.from ∙ sym (ap (λ n. slice_range f.records end n) at_end ∙ none_between f.records end) in
            let no_more : s.lost + (end - f.from) ≡ s.lost + (end - f.from) + (end - to) = omega (arith, at_end) in
            subst (λ n. AreFrontsKept e texts (s.kept ++ slice_range f.records end to) n) no_more
            (subst (λ rs. AreFrontsKept e texts (s.kept ++ rs) (s.lost + (end - f.from))) none (s.keeps f.from (omega arith) start));
        counted = omega (arith, whole, s.counted);
        written = s.written;
        all = reads_same uuid e names hertz cpu w.written s.kept f.records end f.told_before s.written;
        told = omega (arith, whole, s.told, s.told_before);
        told_before = omega arith;
      }

  -- the room is another, and no batch is there any more
  swaps : (f : CpuFiling) (w : Packets) (texts : List (List ℕ)) (count : ℕ) (room : FilingRoom) → has_no_rest f ≡ true → Stand f w texts count → Stand (emptied_in room f) w texts count
  swaps f w texts count room through s =
      let end : ℕ = length f.records in
      let at_end : f.from ≡ end = at_the_end f through (omega (arith, s.from_place, s.within)) in
      let placed : f.place ≡ f.from = omega (arith, at_end, s.from_place, s.within) in
      let none : slice_range f.records f.from f.place ≡ [] = ap (λ n. slice_range f.records f.from n) placed ∙ none_between f.records f.from in
      record {
        uuid_is = s.uuid_is;
        schema_is = s.schema_is;
        cpu_is = s.cpu_is;
        accepted = All-nil (Accepts e);
        from_place = omega arith;
        within = omega arith;
        few = s.few;
        first = s.first;
        found = λ run none. absurd (cc (none));
        kept = s.kept;
        lost = s.lost;
        keeps = λ to low high.
            let start : to ≡ 0 = omega (arith, high) in
            let no_more : s.lost + (end - f.from) ≡ s.lost + (0 - to) = omega (arith, at_end, start) in
            let nothing : slice_range f.records f.from f.from ≡ slice_range [] 0 to = none_between f.records f.from ∙ sym (ap (λ n. slice_range [] 0 n) start) in
            subst (λ n. AreFrontsKept e texts (s.kept ++ slice_range [] 0 to) n) no_more
            (subst (λ rs. AreFrontsKept e texts (s.kept ++ rs) (s.lost + (end - f.from))) nothing (s.keeps f.from (omega arith) (omega (arith, at_end))));
        counted = s.counted;
        written = s.written;
        all = subst (λ rs. Reads uuid e names hertz cpu (w.written ++ w.last) (s.kept ++ rs) f.told) none s.all;
        told = s.told;
        told_before = s.told_before;
      }

  -- a batch is opened
  opens : (f : CpuFiling) (w : Packets) (texts : List (List ℕ)) (count drops : ℕ) (text : List ℕ) (new : CpuFiling) → OpensBatch f drops text new → Stand f w texts count
      → Stand new (all_written w) (texts ++ text ∷ []) (count + drops)
  opens f w texts count drops text new o s =
      let is_text : IsText e text o.read = subst (λ x. IsText x text o.read) s.schema_is o.is_text in
      let left : ℕ = length f.records - f.place in
      let kept : List Record = s.kept ++ slice_range f.records f.from f.place in
      subst (λ (g : CpuFiling). Stand g (all_written w) (texts ++ text ∷ []) (count + drops)) (sym o.is) (record {
        uuid_is = s.uuid_is;
        schema_is = s.schema_is;
        cpu_is = s.cpu_is;
        accepted = all_accepted e o.read 0 text is_text;
        from_place = omega arith;
        within = omega arith;
        few = s.few;
        first = s.first;
        found = λ run none. absurd (cc (none));
        kept = kept;
        lost = s.lost + left;
        keeps = λ to low high.
            more_fronts e texts (text ∷ []) kept (slice_range o.read 0 to) (s.lost + left) (length o.read - to) (s.keeps f.place s.from_place s.within) (one_front e text o.read is_text to high);
        counted = omega (arith, s.counted);
        written = s.all;
        all = reads_same uuid e names hertz cpu (w.written ++ w.last) kept o.read 0 f.told s.all;
        told = omega (arith, s.told);
        told_before = omega arith;
      })

module _ (laws : FilesLaws) (uuid : List ℕ) (e : EnabledRows) (names : Names) (hertz cpu : ℕ) (low : cpu < 2 ^ 32) (long : length uuid ≡ 16) (stamped : e.header ≡ header.Two) where
  -- a packet is handed out
  puts : (f : CpuFiling) (w : Packets) (texts : List (List ℕ)) (count : ℕ) (room : List ℕ) (p : Packet) (filled : List ℕ) (new : CpuFiling) (bytes : List ℕ) → Hands f room (Some p) filled new
      → bytes ≡ take p.size filled → f.missed < 2 ^ 64 → Stands uuid e names hertz cpu f w texts count
      → Stands uuid e names hertz cpu new (record { written = w.written ++ w.last; last = (p.file, bytes) ∷ [] }) texts count
  puts f w texts count room p filled new bytes (inl (to_tell, h)) bytes_are small s =
      let rises : f.told < f.missed = omega (arith, s.told, to_tell) in
      let file_is : p.file ≡ 0 = ap (λ (q : Packet). q.file) h.packet_is in
      let same = bytes_are ∙ at_front _ _ filled p.size (ap (λ (q : Packet). q.size) h.packet_is) h.bytes.is in
      roomy uuid e names hertz cpu (record (as_written f) { told = f.missed }) (record { written = w.written ++ w.last; last = (p.file, bytes) ∷ [] }) texts count new (h.roomy, h.is)
      (subst (λ n. Stands uuid e names hertz cpu (record (as_written f) { told = f.missed }) (record { written = w.written ++ w.last; last = (n, bytes) ∷ [] }) texts count) (sym file_is)
      (subst (λ bs. Stands uuid e names hertz cpu (record (as_written f) { told = f.missed }) (record { written = w.written ++ w.last; last = (0, bs) ∷ [] }) texts count) (sym same)
      (hands_missed laws uuid e names hertz cpu low long stamped (as_written f) (w.written ++ w.last) texts count rises small (settles uuid e names hertz cpu f w texts count s))))
  puts f w texts count room p filled new bytes (inr x) bytes_are small s =
      let told : x.found.missed ≡ x.found.told = ap (λ (g : CpuFiling). g.missed) x.finds.is ∙ x.finds.told ∙ sym (ap (λ (g : CpuFiling). g.told) x.finds.is) in
      let there : x.found.run ≡ Some x.run = ap (λ (g : CpuFiling). g.run) x.finds.is in
      let fits : x.found.missed < 2 ^ 64 = omega (arith, small, ap (λ (g : CpuFiling). g.missed) x.finds.is) in
      let then : Stands uuid e names hertz cpu x.found (all_written w) texts count =
      subst (λ (g : CpuFiling). Stands uuid e names hertz cpu g (all_written w) texts count) (sym x.finds.is)
      (finds laws uuid e names hertz cpu low long stamped (as_written f) (all_written w) texts count x.run x.finds.lasts x.finds.is_run (settles uuid e names hertz cpu f w texts count s)) in
      let file_is : p.file ≡ x.run.file = ap (λ (q : Packet). q.file) x.hands.packet_is in
      let same = bytes_are ∙ at_front _ _ filled p.size (ap (λ (q : Packet). q.size) x.hands.packet_is) x.hands.bytes.is in
      roomy uuid e names hertz cpu (record x.found { place = x.run.end; run = None }) (record { written = w.written ++ w.last; last = (p.file, bytes) ∷ [] }) texts count new
      (x.hands.roomy, x.hands.is)
      (subst (λ n. Stands uuid e names hertz cpu (record x.found { place = x.run.end; run = None }) (record { written = w.written ++ w.last; last = (n, bytes) ∷ [] }) texts count) (sym file_is)
      (subst (λ bs. Stands uuid e names hertz cpu (record x.found { place = x.run.end; run = None }) (record { written = w.written ++ w.last; last = (x.run.file, bs) ∷ [] }) texts count) (sym same)
      (hands_run laws uuid e names hertz cpu low long stamped x.found (w.written ++ w.last) texts count x.run told there fits then)))

  -- none is, for a fault
  puts_none : (f : CpuFiling) (w : Packets) (texts : List (List ℕ)) (count : ℕ) (room : List ℕ) (fault : PutFault) (new : CpuFiling) → HandsNone f room fault new
      → Stands uuid e names hertz cpu f w texts count → Stands uuid e names hertz cpu new (all_written w) texts count
  puts_none f w texts count room fault new (inl (to_tell, why, same)) s =
      roomy uuid e names hertz cpu (as_written f) (all_written w) texts count new same (settles uuid e names hertz cpu f w texts count s)
  puts_none f w texts count room fault new (inr (inl alone)) s =
      roomy uuid e names hertz cpu alone.found (all_written w) texts count new alone.is
      (subst (λ (g : CpuFiling). Stands uuid e names hertz cpu g (all_written w) texts count) (sym alone.finds.is)
      (finds laws uuid e names hertz cpu low long stamped (as_written f) (all_written w) texts count alone.run alone.finds.lasts alone.finds.is_run (settles uuid e names hertz cpu f w texts count s)))
  puts_none f w texts count room fault new (inr (inr none)) s =
      subst (λ (g : CpuFiling). Stands uuid e names hertz cpu g (all_written w) texts count) (sym none.is) (settles uuid e names hertz cpu f w texts count s)

  -- a call that opens no batch and tells nothing as missed
  plain : (f : CpuFiling) (w : Packets) (texts : List (List ℕ)) (count : ℕ) → Stands uuid e names hertz cpu f w texts count → Stands uuid e names hertz cpu f w (texts ++ []) (count + 0)
  plain f w texts count s = grind (arith, nat_tests, Stands, append-nil)

  pub after : (old : CpuFiling) (w : Packets) (texts : List (List ℕ)) (count : ℕ) (call : FilingCall) (new : CpuFiling) → CallMakes old call new → new.missed + 1 < 2 ^ 64
      → Stands uuid e names hertz cpu old w texts count → Stands uuid e names hertz cpu new (packets_after w call) (texts ++ opened_text call) (count + told_missed call)
  after old w texts count (Opened drops text) new o small s = opens uuid e names hertz cpu old w texts count drops text new o s
  after old w texts count (OpenRefused drops text) new (fault, (why, room)) small s = plain new w texts count (roomy uuid e names hertz cpu old w texts count new room s)
  after old w texts count (Put p bytes) new (room, (filled, (h, bytes_are))) small s =
      plain new (packets_after w (Put p bytes)) texts count (puts old w texts count room p filled new bytes h bytes_are (omega (arith, small, rises_put old room p filled new h)) s)
  after old w texts count NoMore new (room, (handed, same, is)) small s =
      plain new (all_written w) texts count (subst (λ (g : CpuFiling). Stands uuid e names hertz cpu g (all_written w) texts count) (sym is) (settles uuid e names hertz cpu old w texts count s))
  after old w texts count PutRefused new (room, (fault, h)) small s = plain new (all_written w) texts count (puts_none old w texts count room fault new h s)
  after old w texts count Lost new is small s = grind (arith, nat_tests, plain, Stands, loses)
  after old w texts count (Missed more) new is small s = grind (arith, nat_tests, Stands, append-nil, misses)
  after old w texts count Reserved new room small s = plain new w texts count (roomy uuid e names hertz cpu old w texts count new room s)
  after old w texts count RoomSwapped new (through, is) small s =
      plain new w texts count (subst (λ (g : CpuFiling). Stands uuid e names hertz cpu g w texts count) (sym is) (swaps uuid e names hertz cpu old w texts count new.room through s))
