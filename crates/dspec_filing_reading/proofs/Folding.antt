-- What is known of a CPU's files and packets after all calls.
use Rattle.std.proofs.Common.{◌≡◌, ◌<◌, ◌≤◌, ◌+◌, ◌-◌, ◌^◌, ◌++◌, ℕ, List, [], ◌∷◌, ap, subst, arith, append_assoc, length}
use Rattle.std.proofs.lemmas.{Bool.Decides.nat_tests, List.append-nil, List.Elements.All-nil}
use Rattle.dspec_filing_reading.specs.Words.{EnabledRows, Accepts, CpuFiling, as_written, no_packets, FilingCall, CallsMake, told_missed, all_told_missed, packets_after, packets_after_all}
use Rattle.dspec_filing_reading.specs.Words.{packets_of, Packets, ReadsWritten, all_written, opened_text, opened_texts, WrittenIsRead, Names}
use Rattle.dspec_record.specs.declared.header.Header.TheVariants as header
use Rattle.dspec_filing_reading.proofs.{Calling.after, Calling.rises, FilesLaws.FilesLaws, Fronts.none_between, Packets.reads_none, Packets.reads_same, Standing.Stands, Standing.settles}

-- what was missed before no calls make less
all_rise : (calls : List FilingCall) (old new : CpuFiling) → CallsMake old calls new → new.missed + 1 < 2 ^ 64 → old.missed ≤ new.missed
all_rise [] old new is small = omega (arith, ap (λ (f : CpuFiling). f.missed) is)
all_rise (call ∷ calls) old new (mid, (makes, rest)) small = grind (arith, nat_tests, all_rise calls mid new rest small, rises)

module _ (uuid : List ℕ) (e : EnabledRows) (names : Names) (hertz cpu : ℕ) where
  -- before all calls
  begins : Stands uuid e names hertz cpu (no_packets uuid e cpu) (record { written = []; last = [] }) [] 0
  begins = grind (arith, nat_tests, All-nil (Accepts e), reads_none uuid e names hertz cpu, reads_same uuid e names hertz cpu)

  -- what counts as written is read
  reads : (calls : List FilingCall) (f : CpuFiling) (w : Packets) → Stands uuid e names hertz cpu f w (opened_texts calls) (all_told_missed calls)
      → ReadsWritten uuid e names hertz cpu calls (w.written) f
  reads calls f w s = grind (arith, nat_tests, none_between, append-nil)

module _ (laws : FilesLaws) (uuid : List ℕ) (e : EnabledRows) (names : Names) (hertz cpu : ℕ) (low : cpu < 2 ^ 32) (long : length uuid ≡ 16) (stamped : e.header ≡ header.Two) where
  all_after : (calls : List FilingCall) (old : CpuFiling) (w : Packets) (texts : List (List ℕ)) (count : ℕ) (new : CpuFiling) → CallsMake old calls new → new.missed + 1 < 2 ^ 64
      → Stands uuid e names hertz cpu old w texts count → Stands uuid e names hertz cpu new (packets_after_all w calls) (texts ++ opened_texts calls) (count + all_told_missed calls)
  all_after [] old w texts count new is small s = grind (arith, nat_tests, Stands, append-nil)
  all_after (call ∷ calls) old w texts count new (mid, (makes, rest)) small s =
      let fits : mid.missed + 1 < 2 ^ 64 = omega (arith, all_rise calls mid new rest small, small) in
      let one = after laws uuid e names hertz cpu low long stamped old w texts count call mid makes fits s in
      let now : Packets = packets_after_all (packets_after w call) calls in
      let sum : (count + told_missed call) + all_told_missed calls ≡ count + (told_missed call + all_told_missed calls) = omega arith in
      subst (λ ts. Stands uuid e names hertz cpu new now ts (count + (told_missed call + all_told_missed calls))) (append_assoc texts (opened_text call) (opened_texts calls))
      (subst (λ n. Stands uuid e names hertz cpu new now ((texts ++ opened_text call) ++ opened_texts calls) n) sum
      (all_after calls mid (packets_after w call) (texts ++ opened_text call) (count + told_missed call) new rest small one))

pub written_read : FilesLaws → WrittenIsRead
written_read laws uuid e names hertz cpu calls f stamped long low makes small =
    let w : Packets = packets_of calls in
    let texts : List (List ℕ) = opened_texts calls in
    let count : ℕ = all_told_missed calls in
    let none : 0 + count ≡ count = omega arith in
    let s : Stands uuid e names hertz cpu f w texts count =
    subst (λ n. Stands uuid e names hertz cpu f w texts n) none
    (all_after laws uuid e names hertz cpu low long stamped calls (no_packets uuid e cpu) (record { written = []; last = [] }) [] 0 f makes small (begins uuid e names hertz cpu)) in
    (reads uuid e names hertz cpu calls f w s, reads uuid e names hertz cpu calls (as_written f) (all_written w) (settles uuid e names hertz cpu f w texts count s))
