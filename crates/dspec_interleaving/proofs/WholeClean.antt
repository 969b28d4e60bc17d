-- A clean that runs alone.
use Prim.Native.Nat.{zero, suc}
use Rattle.std.proofs.Common.{◌≡◌, ◌<◌, ◌+◌, ℕ, Bool, true, false, ◌&&◌, ◌==◌, List, [], ◌∷◌, ◌++◌, Option, if◌then◌else◌, refl, sym, ap, ◌∙◌, subst, arith}
use Rattle.std.proofs.lemmas.Bool.Decides.{nat_tests}
use Rattle.std.specs.Prelude.{nat_lt}
use Rattle.dspec_interleaving.specs.Words.{Shape, awaits, issue, present, settled, ack, word_at, PlayState, stops, next_slot, loads_slot, loads_ack, reaps, same_word, WholeConsumer, all_settled}
use Rattle.dspec_interleaving.specs.Words.{is_reapable, cleaned_up, releases_up, Deed, Release}
use Rattle.dspec_interleaving.specs.declared.flight.{ConsumerProgress.ConsumerProgress, CpuProgress.CpuProgress}
use Rattle.dspec_deeds.specs.declared.calls.Answer.TheVariants as answer
use Rattle.dspec_interleaving.specs.declared.flight.ConsumerFlight.TheVariants as consumer
use Rattle.dspec_deeds.proofs.{Acked.acked_is, TestLemmas.number_is_itself}
use Rattle.dspec_interleaving.proofs.CleanedParts.{Clears, IsQuiet, cleaned_up_rests, clear_ended, clear_false, clear_goes, clear_test, clear_true, later_side, one_missing, reapable_is}
use Rattle.dspec_interleaving.proofs.StepsWords.{word_is_itself}

module _ (shape : ℕ → Option Shape) (st : PlayState) (all : List CpuProgress) (h : List Deed) (q : IsQuiet st.config h) (i0 : ℕ) (cpus : suc i0 ≡ st.config.cpus) where
  -- the list once the first slots are cleaned
  abbrev upto : ℕ → List Deed
  upto n = cleaned_up st.config n h

  abbrev cleaned : WholeConsumer
  cleaned = record { list = upto st.config.nspec; progresses = all; answer = answer.Cleaned (releases_up st.config st.config.nspec h) }

  -- after a slot
  abbrev NextLeads : ℕ → Type 0
  NextLeads n = (side : ConsumerProgress) (ds : List Deed) (count : ℕ) → (ds ++ upto n) ≡ upto (suc n) → count ≡ releases_up st.config (suc n) h
      → Clears shape st (upto n) (next_slot st.config (upto n) side all (suc n) ds count) cleaned

  next_last : (n : ℕ) → suc n ≡ st.config.nspec → NextLeads n
  next_last n last side ds count list is =
      let left : record { list = ds ++ upto n; progresses = all; answer = answer.Cleaned count } ≡ cleaned =
      λ i. record { list = (list ∙ ap upto last) i; progresses = all; answer = answer.Cleaned ((is ∙ ap (λ m. releases_up st.config m h) last) i) } in
      clear_true (suc n == st.config.nspec) _ (subst (λ m. (suc n == m) ≡ true) last (number_is_itself (suc n)))
      (subst (λ (w : WholeConsumer). Clears shape st (upto n) (stops st.config (upto n) side all ds (answer.Cleaned count)) w) left (clear_ended side))

  next_more : (n : ℕ) → suc n < st.config.nspec
      → ((side : ConsumerProgress) → Clears shape st (upto (suc n))
      (loads_slot st.config (upto (suc n)) side all (suc (suc n)) (releases_up st.config (suc n) h)) cleaned)
      → NextLeads n
  next_more n more rest side ds count list is =
      let other : (suc n == st.config.nspec) ≡ false = grind (arith, nat_tests) in
      let next : suc (suc n) ≡ suc n + 1 = omega arith in
      (clear_false (suc n == st.config.nspec) _ other
      (clear_goes side
      (subst (λ (p : List Deed × ℕ × ℕ). Clears shape st p.0
      (loads_slot st.config p.0 (later_side side (consumer.CleanLoad p.1 p.2)) all p.1 p.2) cleaned)
      (λ i. (sym list i, next i, sym is i)) (rest (later_side side (consumer.CleanLoad (suc (suc n)) (releases_up st.config (suc n) h)))))))

  module _ (n : ℕ) (next : NextLeads n) where
    passes : (side : ConsumerProgress) → is_reapable st.config (suc n) (upto n) ≡ false
        → Clears shape st (upto n) (next_slot st.config (upto n) side all (suc n) [] (releases_up st.config n h)) cleaned
    passes side e =
        let none : releases_up st.config n h ≡ releases_up st.config n h + 0 = omega arith in
        next side [] _ (sym (ap (λ (b : Bool). if b then Release (suc n) ∷ upto n else upto n) e)) (none ∙ sym (ap (λ (b : Bool). releases_up st.config n h + (if b then 1 else 0)) e))

    reap_leads : (side : ConsumerProgress) → is_reapable st.config (suc n) (upto n) ≡ true
        → Clears shape st (upto n) (reaps st.config (upto n) side all (suc n) (word_at (suc n) (upto n)) (releases_up st.config n h)) cleaned
    reap_leads side e =
        clear_true (same_word (word_at (suc n) (upto n)) (word_at (suc n) (upto n))) _ (word_is_itself (word_at (suc n) (upto n)))
        (next side (Release (suc n) ∷ []) _ (sym (ap (λ (b : Bool). if b then Release (suc n) ∷ upto n else upto n) e))
        (sym (ap (λ (b : Bool). releases_up st.config n h + (if b then 1 else 0)) e)))

    reapable_by : (b : Bool) → awaits (word_at (suc n) (upto n)).code ≡ true → all_settled st.config st.config.cpus (present (suc n) (upto n)) (upto n) ≡ b → is_reapable st.config (suc n) (upto n) ≡ b
    reapable_by b waits e = reapable_is st.config (suc n) (upto n) (cleaned_up_rests st.config n h q)
        ∙ (ap (λ x. x && all_settled st.config st.config.cpus (present (suc n) (upto n)) (upto n)) waits ∙ e)

    abbrev acked_by : ℕ → Bool
    acked_by a = nat_lt (issue (suc n) (upto n)) (ack a (suc n) (upto n))

    -- one more CPU's acknowledgement was there
    one_more : (a : ℕ) → all_settled st.config a (present (suc n) (upto n)) (upto n) ≡ true → acked_by a ≡ true → all_settled st.config (suc a) (present (suc n) (upto n)) (upto n) ≡ true
    one_more a below e = ap (λ x. x && settled a (present (suc n) (upto n)) (upto n)) below ∙ (sym (acked_is st.config a (suc n) (upto n) (cleaned_up_rests st.config n h q).sound) ∙ e)

    -- an acknowledgement is missing
    is_missing : (i a : ℕ) → a + suc i ≡ st.config.cpus → acked_by a ≡ false → all_settled st.config st.config.cpus (present (suc n) (upto n)) (upto n) ≡ false
    is_missing i a count e =
        let all_cpus : suc a + i ≡ st.config.cpus = omega arith in
        subst (λ m. all_settled st.config m (present (suc n) (upto n)) (upto n) ≡ false) all_cpus
        (one_missing st.config a i (present (suc n) (upto n)) (upto n) (sym (acked_is st.config a (suc n) (upto n) (cleaned_up_rests st.config n h q).sound) ∙ e))

    -- the acknowledgements, from a CPU to the last one
    ack_leads : (i a : ℕ) (side : ConsumerProgress) → awaits (word_at (suc n) (upto n)).code ≡ true → a + suc i ≡ st.config.cpus → all_settled st.config a (present (suc n) (upto n)) (upto n) ≡ true
        → Clears shape st (upto n) (loads_ack st.config (upto n) side all (suc n) (word_at (suc n) (upto n)) a (releases_up st.config n h)) cleaned
    ack_leads zero a side waits count below =
        let last : suc a ≡ st.config.cpus = omega arith in
        let at_last : (a + 1 == st.config.cpus) ≡ true = grind (arith, nat_tests) in
        clear_test (acked_by a)
        (λ e. clear_true (a + 1 == st.config.cpus) _ at_last
        (clear_goes side
        (reap_leads (later_side side (consumer.CleanReap (suc n) (word_at (suc n) (upto n)) (releases_up st.config n h)))
        (reapable_by true waits (subst (λ m. all_settled st.config m (present (suc n) (upto n)) (upto n) ≡ true) last (one_more a below e))))))
        (λ e. passes side (reapable_by false waits (is_missing zero a count e)))
    ack_leads (suc i) a side waits count below =
        let other : (a + 1 == st.config.cpus) ≡ false = grind (arith, nat_tests) in
        let next : suc a ≡ a + 1 = omega arith in
        let rest : suc a + suc i ≡ st.config.cpus = omega arith in
        clear_test (acked_by a)
        (λ e. clear_false (a + 1 == st.config.cpus) _ other
        (clear_goes side
        (subst (λ m. Clears shape st (upto n)
        (loads_ack st.config (upto n) (later_side side (consumer.CleanAck (suc n) (word_at (suc n) (upto n)) m (releases_up st.config n h))) all (suc n)
        (word_at (suc n) (upto n)) m (releases_up st.config n h)) cleaned) next
        (ack_leads i (suc a) (later_side side (consumer.CleanAck (suc n) (word_at (suc n) (upto n)) (suc a) (releases_up st.config n h))) waits rest (one_more a below e)))))
        (λ e. passes side (reapable_by false waits (is_missing (suc i) a count e)))

    -- a slot, from the load of its word
    slot_leads : (side : ConsumerProgress) → Clears shape st (upto n) (loads_slot st.config (upto n) side all (suc n) (releases_up st.config n h)) cleaned
    slot_leads side =
        let rest : zero + suc i0 ≡ st.config.cpus = omega arith in
        clear_test (awaits (word_at (suc n) (upto n)).code)
        (λ waits. clear_goes side
        (subst (λ m. Clears shape st (upto n)
        (loads_ack st.config (upto n) (later_side side (consumer.CleanAck (suc n) (word_at (suc n) (upto n)) 0 (releases_up st.config n h))) all (suc n)
        (word_at (suc n) (upto n)) 0 (releases_up st.config n h)) cleaned) cpus
        (ack_leads i0 zero (later_side side (consumer.CleanAck (suc n) (word_at (suc n) (upto n)) 0 (releases_up st.config n h))) waits rest refl)))
        (λ idle. passes side
        (reapable_is st.config (suc n) (upto n) (cleaned_up_rests st.config n h q) ∙ ap (λ x. x && all_settled st.config st.config.cpus (present (suc n) (upto n)) (upto n)) idle))

  -- the slots from one to the last
  pub clean_leads : (j n : ℕ) (side : ConsumerProgress) → suc (n + j) ≡ st.config.nspec
      → Clears shape st (upto n) (loads_slot st.config (upto n) side all (suc n) (releases_up st.config n h)) cleaned
  clean_leads zero n side last = let at_last : suc n ≡ st.config.nspec = omega arith in slot_leads n (next_last n at_last) side
  clean_leads (suc j) n side last =
      let more : suc n < st.config.nspec = omega arith in
      let rest : suc (suc n + j) ≡ st.config.nspec = omega arith in
      slot_leads n (next_more n more (λ other. clean_leads j (suc n) other rest)) side
