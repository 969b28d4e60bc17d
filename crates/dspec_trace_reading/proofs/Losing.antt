-- What one batch asks of the folder, where some may be lost.
use Rattle.std.proofs.Common.{◌≡◌, ◌≢◌, ◌<◌, ◌≤◌, ◌+◌, ◌^◌, ◌⊎◌, ℕ, inl, inr, List, [], ◌∷◌, ◌++◌, Option, Some, None, sym, ap, ◌∙◌, subst, arith, length, length-set, slice_index}
use Rattle.std.proofs.lemmas.{Bool.Decides.nat_tests, List.append-nil, List.get_or-set_same, List.get_or-set_other, Option.slice_get_within}
use Rattle.dspec_trace_reading.specs.Words.{AddsPacket, IsNothing, cpu_name, told_on, Record, EnabledRows, IsText, missed_on, HasSoManyRecords, capped, FileWrite, Refuses, file_of, LosesPacket}
use Rattle.dspec_trace_reading.specs.Words.{Tracing, Batch, FolderFault}
use Rattle.dspec_ctf_sink.proofs.Written.{brought_elsewhere, file_of_more}
use Rattle.dspec_trace_reading.proofs.Asking.{missed_before, missed_here, took}

-- what a place refused stands after what it was asked for before, and brings no file anything
pub refused_there : (old new : Option (List FileWrite)) (was : List FileWrite) (name bytes : List ℕ) (fault : FolderFault) → old ≡ Some was → Refuses old name bytes new fault
    → new ≡ Some (was ++ record { name = name; bytes = bytes; refused = Some fault } ∷ [])
refused_there None new was name bytes fault e refuses = absurd (cc (e))
refused_there (Some xs) None was name bytes fault e refuses = elim refuses.asked [ ]
refused_there (Some xs) (Some ys) was name bytes fault e refuses = grind (arith, nat_tests)

-- so many are so many, where the cap isn't reached
pub uncapped : (n : ℕ) → capped n + 1 < 2 ^ 64 → capped n ≡ n
uncapped n below = omega (arith, below)

-- the batch's records, and that its text has no others
module _ (e : EnabledRows) (b : Batch) (rs : List Record) (is_text : IsText e b.buffer.text rs) (unique : (qs : List Record) → IsText e b.buffer.text qs → qs ≡ rs) where
  pub at_most : (n : ℕ) → HasSoManyRecords e b n → n ≤ length rs
  at_most n (inl (qs, (text, is))) = let one : length qs ≡ length rs = ap length (unique qs text) in omega (arith, is, one)
  at_most n (inr (none, is)) = absurd (none rs is_text)

  pub exactly : (n : ℕ) → n + 1 < 2 ^ 64 → HasSoManyRecords e b n → n ≡ length rs
  exactly n small (inl (qs, (text, is))) = is ∙ uncapped (length qs) (subst (λ m. m + 1 < 2 ^ 64) is small) ∙ ap length (unique qs text)
  exactly n small (inr (none, is)) = absurd (none rs is_text)

-- what may come of a batch
abbrev pub Came : EnabledRows → Tracing → Batch → Tracing → Type 0
Came e old b new = (IsNothing old b × (new ≡ record old { last = None })) ⊎ ((IsNothing old b → ⊥) × (AddsPacket e old b new ⊎ LosesPacket e old b new))

-- what a batch leaves as it was: the writes of before stand in front, and each file that isn't its CPU's stays
pub record LeavesTaken (old : Tracing) (b : Batch) (new : Tracing) : Type 0 where
  pub wide : length new.missed ≡ length old.missed
  pub broad : length new.told ≡ length old.told
  pub missed : (c : ℕ) → b.cpu ≢ c → missed_on new c ≡ missed_on old c
  pub told : (c : ℕ) → b.cpu ≢ c → told_on new c ≡ told_on old c
  pub files : (was : List FileWrite) → old.written ≡ Some was → (added : List FileWrite) × ((new.written ≡ Some (was ++ added))
      × ((name : List ℕ) → (b.cpu < length old.missed → cpu_name b.cpu ≢ name) → file_of name (was ++ added) ≡ file_of name was))

module _ (e : EnabledRows) where
  -- every file stays where a batch is lost
  pub files_stay : (old new : Tracing) (b : Batch) (was : List FileWrite) → old.written ≡ Some was → LosesPacket e old b new
      → (added : List FileWrite) × ((new.written ≡ Some (was ++ added)) × ((name : List ℕ) → file_of name (was ++ added) ≡ file_of name was))
  files_stay old new b was asked loses = grind (arith, nat_tests, refused_there, file_of_more, append-nil)

  module _ (old new : Tracing) (b : Batch) (loses : LosesPacket e old b new) (wide : length old.missed ≡ 64) where
    -- what its CPU missed is counted as far as 64 bits go
    pub counted_here : (c : ℕ) → c < 64 → b.cpu ≡ c → missed_on new c ≡ capped (missed_on old c + (b.drops + loses.counted.records))
    counted_here c low same =
        let there : b.cpu < length old.missed = omega (arith, low, same, wide) in
        subst (λ n. slice_index new.missed n ≡ capped (slice_index old.missed n + (b.drops + loses.counted.records))) same
        (ap (λ (xs : List ℕ). slice_index xs b.cpu) loses.counted.missed ∙ get_or-set_same old.missed b.cpu _ 0 there)

    -- no more is counted than the batch's records, and its drops
    pub own_at_most : (c : ℕ) → c < 64 → b.cpu ≡ c → (rs : List Record) → IsText e b.buffer.text rs → ((qs : List Record) → IsText e b.buffer.text qs → qs ≡ rs)
        → missed_on new c ≤ missed_on old c + b.drops + length rs
    own_at_most c low same rs is_text unique = omega (arith, counted_here c low same, at_most e b rs is_text unique loses.counted.records loses.counted.has)

    -- all records of the batch are counted, and its drops
    pub own_missed : (c : ℕ) → c < 64 → b.cpu ≡ c → missed_on new c + 1 < 2 ^ 64 → (rs : List Record) → IsText e b.buffer.text rs
        → ((qs : List Record) → IsText e b.buffer.text qs → qs ≡ rs) → missed_on new c ≡ missed_on old c + b.drops + length rs
    own_missed c low same below rs is_text unique =
        let read = counted_here c low same in
        let sum : missed_on new c ≡ missed_on old c + (b.drops + loses.counted.records) = read ∙ uncapped _ (subst (λ n. n + 1 < 2 ^ 64) read below) in
        let small : loses.counted.records + 1 < 2 ^ 64 = omega (arith, sum, below) in
        let so_many : loses.counted.records ≡ length rs = exactly e b rs is_text unique loses.counted.records small loses.counted.has in
        omega (arith, sum, so_many)

  pub leaves : (old new : Tracing) (b : Batch) → Came e old b new → LeavesTaken old b new
  leaves old new b (inl nothing) = record {
    wide = ap (λ (t : Tracing). length t.missed) nothing.1;
    broad = ap (λ (t : Tracing). length t.told) nothing.1;
    missed = λ c apart. ap (λ (t : Tracing). missed_on t c) nothing.1;
    told = λ c apart. ap (λ (t : Tracing). told_on t c) nothing.1;
    files = λ was asked. ([], (ap (λ (t : Tracing). t.written) nothing.1 ∙ asked ∙ ap Some (sym (append-nil was)), λ name apart. ap (λ ws. file_of name ws) (append-nil was)));
  }
  leaves old new b (inr (some, inl adds)) =
      let w : FileWrite = record { name = cpu_name b.cpu; bytes = adds.bytes; refused = None } in
      record {
        wide = ap length adds.missed ∙ length-set old.missed b.cpu adds.total;
        broad = ap length adds.told ∙ length-set old.told b.cpu adds.total;
        missed = λ c apart. ap (λ (ns : List ℕ). slice_index ns c) adds.missed ∙ get_or-set_other old.missed b.cpu c adds.total 0 (λ s. apart (sym s));
        told = λ c apart. ap (λ (ns : List ℕ). slice_index ns c) adds.told ∙ get_or-set_other old.told b.cpu c adds.total 0 (λ s. apart (sym s));
        files = λ was asked. (
          w ∷ [],
          (
            took old.written new.written was (cpu_name b.cpu) adds.bytes asked adds.written,
            λ name apart.
                file_of_more name was w
                ∙ ap (λ xs. file_of name was ++ xs) (brought_elsewhere name w (apart (slice_get_within old.missed b.cpu adds.packet_is.before adds.packet_is.there)))
                ∙ append-nil (file_of name was),
          ),
        );
      }
  leaves old new b (inr (some, inr loses)) = record {
    wide = ap length loses.counted.missed ∙ length-set old.missed b.cpu _;
    broad = ap length loses.counted.told;
    missed = λ c apart. ap (λ (ns : List ℕ). slice_index ns c) loses.counted.missed ∙ get_or-set_other old.missed b.cpu c _ 0 (λ s. apart (sym s));
    told = λ c apart. ap (λ (ns : List ℕ). slice_index ns c) loses.counted.told;
    files = λ was asked. let kept = files_stay old new b was asked loses in (kept.0, (kept.1.0, λ name apart. kept.1.1 name));
  }

  -- no more is missed on its CPU than its drops and its records, whatever comes of it
  pub own_few : (old new : Tracing) (b : Batch) (c : ℕ) → Came e old b new → length old.missed ≡ 64 → c < 64 → b.cpu ≡ c → (rs : List Record) → IsText e b.buffer.text rs
      → ((qs : List Record) → IsText e b.buffer.text qs → qs ≡ rs) → missed_on new c ≤ missed_on old c + b.drops + length rs
  own_few old new b c (inl nothing) wide low here rs text unique = let same : missed_on new c ≡ missed_on old c = ap (λ (t : Tracing). missed_on t c) nothing.1 in omega (arith, same)
  own_few old new b c (inr (some, inl adds)) wide low here rs text unique = omega (arith, missed_here e old new b adds wide c here, missed_before e old new b adds wide c here)
  own_few old new b c (inr (some, inr loses)) wide low here rs text unique = own_at_most old new b loses wide c low here rs text unique
