-- A CPU's own list tells what its side shows, and what it holds of each slot's present speculation.
use Rattle.std.proofs.Common.{◌≡◌, ℕ, ◌+◌, ◌-◌, ◌<◌, true, false, ◌==◌, List, [], refl, sym, ap, ◌∙◌, subst, ⊎_elim, arith}
use Rattle.std.specs.Prelude.{reverse}
use Rattle.dspec_deeds.specs.Words.{Speculation, part, issue, present, contents, dropped_in, held, IsSound, mark, last_called, own_side, TellsPresent, ReadsApart, bare}
use Rattle.dspec_deeds.specs.declared.{calls.Actor.TheVariants.Cpu, config.Config.Config, config.Policy.TheVariants.Switch, deed.Deed.Deed}
use Rattle.dspec_deeds.proofs.{Emptied.callers_hold, Emptied.past_empty, Marks.mark_tells, OwnReads.reads, OwnReads.apart_bare, TestLemmas.either_way, TestLemmas.same_number}
use Rattle.dspec_deeds.proofs.{TestLemmas.other_number, TestLemmas.numbers_differ}

-- no configuration is read
some_config : Config
some_config = record { cpus = 0; nspec = 0; bufsize = 0; specsize = 0; max_issues = 0; max_calls = 0; policy = Switch }

-- lists that read alike, Seals apart, hold the same of the last speculation that has the CPU as a caller
last_held : (k : Config) (c s : ℕ) (g h : List Deed) → ReadsApart k c g h → held c (last_called c s g) g ≡ held c (last_called c s h) h
last_held k c s g h e = ap (λ (m : ℕ). held c record { issue = m - 1; slot = s } g) (e.marking s) ∙ e.buffers (last_called c s h)

-- and dropped the same of it
last_dropped : (k : Config) (c s : ℕ) (g h : List Deed) → ReadsApart k c g h → dropped_in c (last_called c s g) g ≡ dropped_in c (last_called c s h) h
last_dropped k c s g h e = ap (λ (m : ℕ). dropped_in c record { issue = m - 1; slot = s } g) (e.marking s) ∙ e.dropping (last_called c s h)

-- what a CPU's side shows is the same off the CPU's own list and off the list of all
pub side_part : (c : ℕ) (h : List Deed) → own_side c (part (Cpu c) h) ≡ own_side c h
side_part c h =
    let e = reads some_config c h in
    λ i. record {
      calls = e.apart.calling i;
      seals = e.sealing i;
      missed_busy = e.apart.missing i;
      acks = λ s. e.apart.acks s i;
      marks = λ s. e.apart.marking s i;
      specdrops = λ s. last_dropped some_config c s (part (Cpu c) h) h e.apart i;
      speculative = λ s. contents (last_held some_config c s (part (Cpu c) h) h e.apart i);
      active = e.principal i;
      drops = (e.filling i).drops;
      accepted = reverse (contents (e.apart.taking i));
      batches = e.sealed i;
    }

-- no Seal calls
pub last_bare : (c s : ℕ) (h : List Deed) → last_called c s h ≡ last_called c s (bare h)
last_bare c s h = ap (λ (m : ℕ). record { issue = m - 1; slot = s }) ((apart_bare some_config c h).marking s)

-- of a list that is legal in its common part
pub tells_present : (k : Config) (c s : ℕ) (h : List Deed) → c < k.cpus → IsSound k h → TellsPresent c s h
tells_present k c s h lt sound =
    let t = mark_tells k c s h sound in
    let low = t.bound in
    let over : (id : Speculation) → id.slot ≡ s → id.issue < issue s h → held c id h ≡ [] = λ id at past. past_empty k c id h lt sound (subst (λ x. id.issue < issue x h) (sym at) past) in
    let none : (mark c s h == issue s h + 1) ≡ false → held c (present s h) h ≡ [] = λ f. callers_hold c (present s h) h (t.now ∙ f) in
    record {
      caller = t.now;
      bound = low;
      marked = λ e. is (omega arith);
      unmarked = none;
      older = over;
      holds = ⊎_elim
          (λ (q : (mark c s h - 1 == issue s h) ≡ true). ap (λ id. held c id h) (is (same_number (mark c s h - 1) (issue s h) q)))
          (λ (q : (mark c s h - 1 == issue s h) ≡ false).
          let apart = numbers_differ (mark c s h - 1) (issue s h) q in
          let below : mark c s h - 1 < issue s h = omega arith in
          over (last_called c s h) refl below ∙ sym (none (unmarked (mark c s h) (issue s h) below)))
          (either_way (mark c s h - 1 == issue s h));
    }
  where
    is : mark c s h - 1 ≡ issue s h → last_called c s h ≡ present s h
    is e = λ i. record { issue = e i; slot = s }

    unmarked : (m n : ℕ) → m - 1 < n → (m == n + 1) ≡ false
    unmarked m n lt = other_number m (n + 1) (λ (e : m ≡ n + 1). absurd (omega arith))
