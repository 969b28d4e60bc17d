-- What all batches of a session bring to one CPU's file, where some may be lost.
use Rattle.std.proofs.Common.{◌≡◌, ◌≢◌, ◌<◌, ◌≤◌, ◌+◌, ◌^◌, ◌==◌, ℕ, Bool, true, false, if◌then◌else◌, ◌⊎◌, inl, inr, List, [], ◌∷◌, ◌++◌, Some, None, refl, sym, ap, ◌∙◌, subst, arith, length, All}
use Rattle.std.proofs.Common.{append_assoc, slice_index}
use Rattle.std.proofs.lemmas.{Bool.eqb-true, Bool.eqb-false, List.append-nil, List.get_or-set_same, List.Elements.All-cons, List.Elements.All-nil}
use Rattle.std.specs.List.{flat_map}
use Rattle.dspec_trace_reading.specs.Words.{Record, EnabledRows, Passed, GotAll, passed_from, filled_packets, Accepts, IsText, missed_on, FileWrite, file_of, AreNextOf, GetsPacket, Tracing}
use Rattle.dspec_trace_reading.specs.Words.{cpu_name, AreKept, HaveNumbers, drops_carried, told_on, Batch}
use Rattle.dspec_ctf_sink.proofs.Written.{brought_whole, file_of_more}
use Rattle.dspec_trace_reading.proofs.{Asking.missed_before, Asking.missed_here, Asking.some_lost, Asking.took, Asking.unlost, Folding.Holds, Folding.last_from, Folding.one_text, Losing.Came}
use Rattle.dspec_trace_reading.proofs.{Losing.files_stay, Losing.leaves, Losing.own_missed, Naming.names_differ}
use Rattle.dspec_filing_reading.proofs.Fronts.{all_accepted}

-- nothing was lost, or 64 bits are enough for what the CPU missed
abbrev pub IsExact : ℕ → Tracing → Type 0
IsExact c t = (t.lost ≡ None) ⊎ (missed_on t c + 1 < 2 ^ 64)

module _ (e : EnabledRows) where
  module _ (uuid : List ℕ) (c : ℕ) (low : c < 64) where
    abbrev pub Told : Tracing → ℕ × List Record → Type 0
    Told new p = (p.0 ≤ missed_on new c) × All (Accepts e) p.1

    -- the packets that were taken of a CPU's batches, and how many records were lost
    pub record Kept (old new : Tracing) (bs : List Batch) (was : List FileWrite) : Type 0 where
      pub packets : List (ℕ × List Record)
      pub lost : ℕ
      pub writes : List FileWrite
      pub asked : new.written ≡ Some writes
      pub bytes : file_of (cpu_name c) writes ≡ file_of (cpu_name c) was ++ flat_map (λ p. filled_packets false e uuid p.0 c p.1) packets
      pub are_kept : AreKept e bs (flat_map (λ p. p.1) packets) lost
      pub counted : missed_on new c ≡ missed_on old c + drops_carried bs + lost
      pub told : last_from (told_on old c) packets ≡ told_on new c
      pub each : All (Told new) packets
      pub whole : new.lost ≡ None → (lost ≡ 0) × (told_on old c ≡ missed_on old c → told_on new c ≡ missed_on new c)

    -- another CPU's batch
    passes : (old mid new : Tracing) (bs : List Batch) (was next : List FileWrite) → file_of (cpu_name c) next ≡ file_of (cpu_name c) was → missed_on mid c ≡ missed_on old c
        → told_on mid c ≡ told_on old c → Kept mid new bs next → Kept old new bs was
    passes old mid new bs was next file missed told k = record {
      packets = k.packets;
      lost = k.lost;
      writes = k.writes;
      asked = k.asked;
      bytes = k.bytes ∙ ap (λ xs. xs ++ flat_map (λ p. filled_packets false e uuid p.0 c p.1) k.packets) file;
      are_kept = k.are_kept;
      counted = omega (arith, k.counted, missed);
      told = ap (λ n. last_from n k.packets) (sym told) ∙ k.told;
      each = k.each;
      whole = λ none. let w = k.whole none in (w.0, λ same. w.1 (told ∙ same ∙ sym missed));
    }

    -- one of its own of which nothing had to be written, or which is lost: so many records
    loses_one : (old mid new : Tracing) (b : Batch) (bs : List Batch) (rs : List Record) (was next : List FileWrite) → IsText e b.buffer.text rs
        → file_of (cpu_name c) next ≡ file_of (cpu_name c) was → missed_on mid c ≡ missed_on old c + b.drops + length rs → told_on mid c ≡ told_on old c
        → (new.lost ≡ None → b.drops + length rs ≡ 0) → Kept mid new bs next → Kept old new (b ∷ bs) was
    loses_one old mid new b bs rs was next text file missed told free k = record {
      packets = k.packets;
      lost = length rs + k.lost;
      writes = k.writes;
      asked = k.asked;
      bytes = k.bytes ∙ ap (λ xs. xs ++ flat_map (λ p. filled_packets false e uuid p.0 c p.1) k.packets) file;
      are_kept = (rs, flat_map (λ p. p.1) k.packets, k.lost, text, k.are_kept, inr (refl, refl));
      counted = omega (arith, k.counted, missed);
      told = ap (λ n. last_from n k.packets) (sym told) ∙ k.told;
      each = k.each;
      whole = λ none. let w = k.whole none in let nothing = free none in (omega (arith, w.0, nothing), λ same. w.1 (omega (arith, told, same, missed, nothing)));
    }

    -- one of its own whose packet was taken
    keeps_one : (old mid new : Tracing) (b : Batch) (bs : List Batch) (read : List Record) (total : ℕ) (was next : List FileWrite) → IsText e b.buffer.text read
        → file_of (cpu_name c) next ≡ file_of (cpu_name c) was ++ filled_packets false e uuid total c read → missed_on mid c ≡ total → total ≡ missed_on old c + b.drops → told_on mid c ≡ total
        → Kept mid new bs next → Kept old new (b ∷ bs) was
    keeps_one old mid new b bs read total was next text file missed sum told k = record {
      packets = (total, read) ∷ k.packets;
      lost = k.lost;
      writes = k.writes;
      asked = k.asked;
      bytes = k.bytes ∙ ap (λ xs. xs ++ flat_map (λ p. filled_packets false e uuid p.0 c p.1) k.packets) file
          ∙ append_assoc (file_of (cpu_name c) was) (filled_packets false e uuid total c read) (flat_map (λ p. filled_packets false e uuid p.0 c p.1) k.packets);
      are_kept = (read, flat_map (λ p. p.1) k.packets, k.lost, text, k.are_kept, inl (refl, refl));
      counted = omega (arith, k.counted, missed, sum);
      told = ap (λ n. last_from n k.packets) (sym told) ∙ k.told;
      each = All-cons (Told new) (total, read) k.packets (omega (arith, k.counted, missed), all_accepted e read 0 b.buffer.text text) k.each;
      whole = λ none. let w = k.whole none in (w.0, λ same. w.1 (told ∙ sym missed));
    }

    -- the same after a packet of no records, which tells of none missed
    keeps_first : (old mid new : Tracing) (b : Batch) (bs : List Batch) (read : List Record) (total : ℕ) (was next : List FileWrite) → IsText e b.buffer.text read
        → file_of (cpu_name c) next ≡ file_of (cpu_name c) was ++ (filled_packets false e uuid 0 c [] ++ filled_packets false e uuid total c read) → missed_on mid c ≡ total
        → total ≡ missed_on old c + b.drops → told_on mid c ≡ total → Kept mid new bs next → Kept old new (b ∷ bs) was
    keeps_first old mid new b bs read total was next text file missed sum told k =
        let later : List ℕ = flat_map (λ p. filled_packets false e uuid p.0 c p.1) k.packets in
        let silent : List ℕ = filled_packets false e uuid 0 c [] in
        let own : List ℕ = filled_packets false e uuid total c read in
        record {
          packets = (0, []) ∷ (total, read) ∷ k.packets;
          lost = k.lost;
          writes = k.writes;
          asked = k.asked;
          bytes = k.bytes ∙ ap (λ xs. xs ++ later) file ∙ append_assoc (file_of (cpu_name c) was) (silent ++ own) later
              ∙ ap (λ xs. file_of (cpu_name c) was ++ xs) (append_assoc silent own later);
          are_kept = (read, flat_map (λ p. p.1) k.packets, k.lost, text, k.are_kept, inl (refl, refl));
          counted = omega (arith, k.counted, missed, sum);
          told = ap (λ n. last_from n k.packets) (sym told) ∙ k.told;
          each = All-cons (Told new) (0, []) ((total, read) ∷ k.packets) (omega arith, All-nil (Accepts e))
              (All-cons (Told new) (total, read) k.packets (omega (arith, k.counted, missed), all_accepted e read 0 b.buffer.text text) k.each);
          whole = λ none. let w = k.whole none in (w.0, λ same. w.1 (told ∙ sym missed));
        }

    -- the next packets of its file
    keeps_next : (old mid new : Tracing) (b : Batch) (bs : List Batch) (total before : ℕ) (bytes : List ℕ) (was next : List FileWrite)
        → AreNextOf e uuid total c b.buffer.text before bytes → file_of (cpu_name c) next ≡ file_of (cpu_name c) was ++ bytes → missed_on mid c ≡ total
        → total ≡ missed_on old c + b.drops → told_on mid c ≡ total → Kept mid new bs next → Kept old new (b ∷ bs) was
    keeps_next old mid new b bs total before bytes was next (inl (first, p)) file missed sum told k =
        keeps_first old mid new b bs p.are_packets.read total was next p.are_packets.is_text
        (file ∙ ap (λ xs. file_of (cpu_name c) was ++ xs) (p.bytes_are ∙ ap (λ xs. filled_packets false e uuid 0 c [] ++ xs) p.are_packets.bytes_are)) missed sum told k
    keeps_next old mid new b bs total before bytes was next (inr (later, p)) file missed sum told k =
        keeps_one old mid new b bs p.read total was next p.is_text (file ∙ ap (λ xs. file_of (cpu_name c) was ++ xs) p.bytes_are) missed sum told k

    next_kept : (old mid new : Tracing) (x : Passed) (xs : List Passed) (was : List FileWrite) (rs : List Record) → old.uuid ≡ uuid → length old.missed ≡ 64 → length old.told ≡ 64
        → old.written ≡ Some was → IsExact c new → (new.lost ≡ None → mid.lost ≡ None) → x.batch.cpu ≡ x.from
        → ((next : List FileWrite) (more : List Record) → length mid.missed ≡ 64 → length mid.told ≡ 64 → mid.written ≡ Some next → Holds e (passed_from c xs) more
        → Kept mid new (passed_from c xs) next)
        → Came e old x.batch mid → (q : Bool) → (x.from == c) ≡ q
        → Holds e (if q then x.batch ∷ passed_from c xs else passed_from c xs) rs → Kept old new (if q then x.batch ∷ passed_from c xs else passed_from c xs) was
    next_kept old mid new x xs was rs u wide broad asked exact unlost own more_kept came false is holds =
        let l = leaves e old mid x.batch came in
        let apart : x.batch.cpu ≢ c = λ s. eqb-false x.from c is (sym own ∙ s) in
        let one = l.files was asked in
        passes old mid new (passed_from c xs) was (was ++ one.0)
        (one.1.1 (cpu_name c) (λ there. names_differ x.batch.cpu c (subst (λ n. x.batch.cpu < n) wide there) low apart)) (l.missed c apart) (l.told c apart)
        (more_kept (was ++ one.0) rs (l.wide ∙ wide) (l.broad ∙ broad) one.1.0 holds)
    next_kept old mid new x xs was rs u wide broad asked exact unlost own more_kept (inl nothing) true is (ps, more, has, many, sum, holds) =
        let l = leaves e old mid x.batch (inl nothing) in
        let same : missed_on mid c ≡ missed_on old c = ap (λ (t : Tracing). missed_on t c) nothing.1 in
        loses_one old mid new x.batch (passed_from c xs) [] was was nothing.0.0 refl (omega (arith, same, nothing.0.1)) (ap (λ (t : Tracing). told_on t c) nothing.1)
        (λ none. omega (arith, nothing.0.1))
        (more_kept was more (l.wide ∙ wide) (l.broad ∙ broad) (ap (λ (t : Tracing). t.written) nothing.1 ∙ asked) holds)
    next_kept old mid new x xs was rs u wide broad asked exact unlost own more_kept (inr (some, inl adds)) true is (ps, more, has, many, sum, holds) =
        let w : FileWrite = record { name = cpu_name x.batch.cpu; bytes = adds.bytes; refused = None } in
        let here : x.batch.cpu ≡ c = own ∙ eqb-true x.from c is in
        let l = leaves e old mid x.batch (inr (some, inl adds)) in
        let there : x.batch.cpu < length old.told = omega (arith, low, here, broad) in
        let before : ℕ = slice_index old.told x.batch.cpu in
        let packets : AreNextOf e uuid adds.total c x.batch.buffer.text before adds.bytes =
        subst (λ id. AreNextOf e id adds.total c x.batch.buffer.text before adds.bytes) u
        (subst (λ n. AreNextOf e old.uuid adds.total n x.batch.buffer.text before adds.bytes) here adds.packet_is.packet_is) in
        keeps_next old mid new x.batch (passed_from c xs) adds.total before adds.bytes was (was ++ w ∷ []) packets
        (file_of_more (cpu_name c) was w ∙ ap (λ ys. file_of (cpu_name c) was ++ ys) (brought_whole (cpu_name x.batch.cpu) (cpu_name c) adds.bytes (ap cpu_name here)))
        (missed_here e old mid x.batch adds wide c here) (missed_before e old mid x.batch adds wide c here)
        (subst (λ n. slice_index mid.told n ≡ adds.total) here (ap (λ (ns : List ℕ). slice_index ns x.batch.cpu) adds.told ∙ get_or-set_same old.told x.batch.cpu adds.total 0 there))
        (more_kept (was ++ w ∷ []) more (l.wide ∙ wide) (l.broad ∙ broad)
        (took old.written mid.written was (cpu_name x.batch.cpu) adds.bytes asked adds.written) holds)
    next_kept old mid new x xs was rs u wide broad asked exact unlost own more_kept (inr (some, inr loses)) true is (ps, more, has, many, sum, holds) =
        let l = leaves e old mid x.batch (inr (some, inr loses)) in
        let kept = files_stay e old mid x.batch was asked loses in
        let here : x.batch.cpu ≡ c = own ∙ eqb-true x.from c is in
        let later : Kept mid new (passed_from c xs) (was ++ kept.0) =
        more_kept (was ++ kept.0) more (l.wide ∙ wide) (l.broad ∙ broad) kept.1.0 holds in
        let some : new.lost ≡ None → ⊥ = λ none. some_lost old.lost _ (sym loses.counted.lost ∙ unlost none) in
        let below : missed_on mid c + 1 < 2 ^ 64 = elim exact [
          | inl none ↦ absurd (some none)
          | inr small ↦ omega (arith, small, later.counted)
        ] in
        loses_one old mid new x.batch (passed_from c xs) ps was (was ++ kept.0) has (kept.1.1 (cpu_name c))
        (own_missed e old mid x.batch loses wide c low here below ps has (λ qs text. one_text e x.batch ps qs has text))
        (ap (λ (ns : List ℕ). slice_index ns c) loses.counted.told) (λ none. absurd (some none)) later

    pub all_kept : (bs : List Passed) (old new : Tracing) (was : List FileWrite) (rs : List Record) → GotAll (GetsPacket e) old bs new → old.uuid ≡ uuid → length old.missed ≡ 64
        → length old.told ≡ 64 → old.written ≡ Some was → IsExact c new → HaveNumbers bs → Holds e (passed_from c bs) rs → Kept old new (passed_from c bs) was
    all_kept [] old new was rs got u wide broad asked exact own hold = subst (λ t. Kept old t [] was) got (record {
      packets = [];
      lost = 0;
      writes = was;
      asked = asked;
      bytes = sym (append-nil (file_of (cpu_name c) was));
      are_kept = (refl, refl);
      counted = omega arith;
      told = refl;
      each = All-nil (Told old);
      whole = λ none. (refl, λ same. same);
    })
    all_kept (x ∷ xs) old new was rs (mid, gets, rest) u wide broad asked exact (own, owns) hold =
        next_kept old mid new x xs was rs u wide broad asked exact (unlost e xs mid new rest) own
        (λ next more still large there holds. all_kept xs mid new next more rest (gets.uuid ∙ u) still large there exact owns holds)
        gets.came (x.from == c) refl hold
