-- Each ended call of a play answers what is read off its own deeds, and the worn calls are counted.
use Rattle.std.proofs.Common.{◌≡◌, ℕ, ◌+◌, ◌-◌, ◌^◌, ◌<◌, Bool, true, false, ◌==◌, ◌&&◌, List, [], ◌∷◌, ◌++◌, Option, Some, None, if◌then◌else◌, refl, sym, ap, ◌∙◌, subst, arith}
use Rattle.std.proofs.lemmas.{Bool.Decides.nat_tests, List.reverse-append, List.map-append}
use Rattle.std.specs.{List.AllByRecursion, Prelude.min, Prelude.map, Prelude.reverse}
use Rattle.dspec_interleaving.specs.Words.{Shape, Record, op_of, consumer_op_of, is_about, StandsState, PlayState, progress_of, CpuStep, ConsumerStep, cpu_step, consumer_step, start_fault}
use Rattle.dspec_interleaving.specs.Words.{EndedCall, Noted, ended, read_off, IsReadOff, Playing, with_note, with_entered, playing_at_start, begun_cpu, begun_consumer, played, answers_of}
use Rattle.dspec_interleaving.specs.Words.{play_fault, is_worn_answer, is_by, worn_answers, worn_count, same_actor, is_told_worn, entered_calls, AreWornRightly, Config, Actor, Answer, ConsumerOp}
use Rattle.dspec_interleaving.specs.Words.{CpuOp, Op, Turn, Deed}
use Rattle.dspec_interleaving.specs.declared.flight.{CallPlace.CallPlace, ConsumerFlight.ConsumerFlight, CpuProgress.CpuProgress}
use Rattle.dspec_deeds.specs.declared.calls.Actor.TheVariants as actor
use Rattle.dspec_deeds.specs.declared.calls.Op.TheVariants as op
use Rattle.dspec_interleaving.specs.declared.flight.CallPlace.TheVariants as cpu
use Rattle.dspec_deeds.proofs.{Going.AllBy, TestLemmas.number_is_itself}
use Rattle.dspec_interleaving.proofs.{Coherence.idle_at, Coherence.start_coherent, ConsumerSteps.consumer_keeps, CpuSteps.cpu_step_stands, FlightsStay.OwnsClean, FlightsStay.CleanReads}
use Rattle.dspec_interleaving.proofs.{FlightsStay.consumer_unworn, FlightsStay.flights_stay, FlightsStay.worn_stays, FlightsStay.consumer_step_reads, OwnTelling.OwnsCall, OwnTelling.Tells}
use Rattle.dspec_interleaving.proofs.{OwnTelling.worn_after, OwnTelling.ReadsOff, OwnTelling.others_own, PlaysCarry.after_cpu_step, PlaysCarry.after_consumer_step, PlaysCarry.PlayInvariant}
use Rattle.dspec_interleaving.proofs.{PlaysCarry.play_carries, PlaysEnd.IsCoherentPlay, PlaysEnd.coherence_carried, PlaysEnd.coherence_kept, WornCounts.HasEntered, WornCounts.calls_stay}
use Rattle.dspec_interleaving.proofs.{WornCounts.entered_beside, WornCounts.entered_now, WornCounts.note_beside, WornCounts.note_right, WornCounts.same_test, WornCpuSteps.ahead}
use Rattle.dspec_interleaving.proofs.{WornCpuSteps.cpu_step_reads, WornCpuSteps.cpu_step_wears}
pub use Rattle.dspec_interleaving.proofs.Replacing.{put}

-- what is known of a CPU's calls: what the one in flight has entered, and how many were worn, and entered
pub record Knows (k : Config) (h : List Deed) (es : List EndedCall) (c : ℕ) (x : Option CallPlace) (n : ℕ) (own : List Deed) : Type 0 where
  pub owns : OwnsCall c h x own
  pub worn : n ≡ worn_count es c
  pub entered : HasEntered k c h x es

-- a play whose ended calls answer what is read off their deeds, and are worn where they have to be
pub record IsRead (shape : ℕ → Option Shape) (k : Config) (p : Playing) : Type 0 where
  pub play : IsCoherentPlay shape k p
  pub noted : AllByRecursion IsReadOff p.noted
  pub right : AreWornRightly p.state.config (map ended p.noted)
  pub each : (c : ℕ) → c < p.state.config.cpus
      → Knows p.state.config p.state.deeds (map ended p.noted) c (progress_of p.state.progresses c).flight (progress_of p.state.progresses c).worn (p.entered c)
  pub cleaned : OwnsClean p.state.config p.state.side.flight p.cleaned

-- a call that is noted where it ended
noted_reads : (a : Actor) (o : Op) (ds : List Deed) (st : PlayState) (r : Option Answer) (ns : List Noted) → Tells r (read_off o ds st) → AllByRecursion IsReadOff ns
    → AllByRecursion IsReadOff (with_note a o ds st r ns)
noted_reads a o ds st None ns is all = all
noted_reads a o ds st (Some x) ns is all = (is, all)

-- one more worn call of a count that stays at the most
worn_more : (n most : ℕ) → min (min n most + 1) most ≡ min (n + 1) most
worn_more n most = grind (arith, nat_tests)

-- one call more, worn or not
one_worn : (n w most : ℕ) (b : Bool) → n ≡ min w most → (if b then min (n + 1) most else n) ≡ min (w + (if b then 1 else 0)) most
one_worn n w most true e = ap (λ x. min (x + 1) most) e ∙ worn_more w most
one_worn n w most false e = e ∙ ap (λ x. min x most) (let same : w ≡ w + 0 = omega arith in same)

-- the count after a call of the CPU that is noted
worn_noted : (c : ℕ) (o : Op) (ds : List Deed) (st : PlayState) (r : Option Answer) (ns : List Noted) (n : ℕ) → n ≡ worn_count (map ended ns) c
    → worn_after n r ≡ worn_count (map ended (with_note (actor.Cpu c) o ds st r ns)) c
worn_noted c o ds st None ns n e = e
worn_noted c o ds st (Some a) ns n e =
    subst (λ (b : Bool). (if is_worn_answer a then min (n + 1) (2 ^ 64 - 1) else n) ≡ min (worn_answers c (map ended ns) + (if b && is_worn_answer a then 1 else 0))
    (2 ^ 64 - 1)) (sym (number_is_itself c))
    (one_worn n (worn_answers c (map ended ns)) (2 ^ 64 - 1) (is_worn_answer a) e)

-- another's call leaves the count
worn_beside : (c : ℕ) (a : Actor) (o : Op) (ds : List Deed) (st : PlayState) (r : Option Answer) (ns : List Noted) → is_by c a ≡ false
    → worn_count (map ended ns) c ≡ worn_count (map ended (with_note a o ds st r ns)) c
worn_beside c a o ds st None ns other = refl
worn_beside c a o ds st (Some x) ns other =
    subst (λ (b : Bool). min (worn_answers c (map ended ns)) (2 ^ 64 - 1) ≡ min (worn_answers c (map ended ns) + (if b && is_worn_answer x then 1 else 0)) (2 ^ 64 - 1)) (sym other)
    (ap (λ n. min n (2 ^ 64 - 1)) (let same : worn_answers c (map ended ns) ≡ worn_answers c (map ended ns) + 0 = omega arith in same))

-- what the CPU's call has entered, where it was written
entered_here : (c : ℕ) (ds : List Deed) (before : ℕ → List Deed) → with_entered c ds before c ≡ ds
entered_here c ds before = rw (number_is_itself c) refl

entered_there : (c b : ℕ) (ds : List Deed) (before : ℕ → List Deed) → (b == c) ≡ false → with_entered c ds before b ≡ before b
entered_there c b ds before other = rw other refl

-- what is known of a CPU stays after another's step
knows_beside : (k : Config) (b : ℕ) (w : Actor) (o : Op) (new : List Deed) (st : PlayState) (r : Option Answer) (ns : List Noted) (ds h : List Deed) (x : Option CallPlace) (n : ℕ) (own : List Deed)
    → same_actor (actor.Cpu b) w ≡ false → is_by b w ≡ false → AllBy w ds h → Knows k h (map ended ns) b x n own → Knows k (ds ++ h) (map ended (with_note w o new st r ns)) b x n own
knows_beside k b w o new st r ns ds h x n own other apart by was = record {
  owns = others_own b w other ds h by x own was.owns;
  worn = was.worn ∙ worn_beside b w o new st r ns apart;
  entered = entered_beside k b h (ds ++ h) x (map ended ns) _ (calls_stay b w other ds h by) (note_beside b w o new st r ns apart) was.entered;
}

module _ (shape : ℕ → Option Shape) (k : Config) where
  start_read : start_fault k ≡ None → IsRead shape k (playing_at_start k)
  start_read fine = record {
    play = record { config = refl; coherent = start_coherent shape k fine };
    noted = tt;
    right = tt;
    each = λ c lt. subst (λ (me : CpuProgress). Knows k [] [] c me.flight me.worn []) (sym (idle_at k.cpus c))
        record { owns = tt; worn = refl; entered = record { counts = refl; unworn = λ on. absurd (cc (on)) } };
    cleaned = tt;
  }

  cpu_begins : (c : ℕ) (o : CpuOp) (p : Playing) → IsRead shape k p → c < k.cpus → (progress_of p.state.progresses c).flight ≡ None → IsRead shape k (begun_cpu c o p)
  cpu_begins c o p was lt idle =
      let me : CpuProgress = record (progress_of p.state.progresses c) { flight = Some (cpu.Begun o); steps = 0 } in
      let es = map ended p.noted in
      record {
        play = (coherence_kept shape k).cpu_begins c o p was.play lt idle;
        noted = was.noted;
        right = was.right;
        each = put p.state.config.cpus (λ b (x : CpuProgress). Knows p.state.config p.state.deeds es b x.flight x.worn (with_entered c [] p.entered b)) p.state.progresses c me was.play.coherent.count
            (λ b less other. subst (Knows p.state.config p.state.deeds es b _ _) (sym (entered_there c b [] p.entered other)) (was.each b less))
            (λ less.
            let old = was.each c less in
            let counts = old.entered.counts ∙ ap (λ x. entered_calls c es + ahead x) idle in
            subst (Knows p.state.config p.state.deeds es c me.flight me.worn) (sym (entered_here c [] p.entered))
            record { owns = refl; worn = old.worn; entered = record { counts = counts; unworn = λ on. absurd (cc (on)) } });
        cleaned = was.cleaned;
      }

  consumer_begins : (o : ConsumerOp) (p : Playing) → IsRead shape k p → is_about k o ≡ true → p.state.side.flight ≡ None → IsRead shape k (begun_consumer o p)
  consumer_begins o p was about idle = record {
    play = (coherence_kept shape k).consumer_begins o p was.play about idle;
    noted = was.noted;
    right = was.right;
    each = was.each;
    cleaned = (refl, subst (λ (x : Config). is_about x o ≡ true) (sym was.play.config) about);
  }

  cpu_steps : (c : ℕ) (p : Playing) (f : CallPlace) → IsRead shape k p → c < k.cpus → (progress_of p.state.progresses c).flight ≡ Some f → IsRead shape k (after_cpu_step shape c p f)
  cpu_steps c p f was lt is =
      let st : PlayState = p.state in
      let ok = was.play.coherent in
      let within : c < st.config.cpus = subst (λ (x : Config). c < x.cpus) (sym was.play.config) lt in
      let me : CpuProgress = progress_of st.progresses c in
      let m : CpuStep = cpu_step shape st.config c st.deeds me f in
      let o : Op = op.Cpu (op_of f) in
      let ds : List Deed = m.deeds ++ p.entered c in
      let did = cpu_step_stands shape st.config c st.deeds me ok.ranges ok.legal ok.rests (ok.stands c within) f is in
      let old : Knows st.config st.deeds (map ended p.noted) c (Some f) me.worn (p.entered c) =
      subst (λ x. Knows st.config st.deeds (map ended p.noted) c x me.worn (p.entered c)) is (was.each c within) in
      let reads : ReadsOff c st.deeds me (op_of f) (p.entered c) m = cpu_step_reads shape st.config c st.deeds me f (p.entered c) old.owns in
      let told = (cpu_step_wears shape st.config c st.deeds me f).told in
      let es = map ended (with_note (actor.Cpu c) o ds st m.answer p.noted) in
      record {
        play = (coherence_carried shape k).cpu_steps c p f was.play lt is;
        noted = noted_reads (actor.Cpu c) o ds st m.answer p.noted reads.reads was.noted;
        right = note_right st.config (actor.Cpu c) o ds st m.answer p.noted
            (λ x e. ap is_told_worn (sym e) ∙ (told ∙ same_test st.config c st.deeds f (map ended p.noted) old.entered)) was.right;
        each = put st.config.cpus (λ b (x : CpuProgress). Knows st.config (m.deeds ++ st.deeds) es b x.flight x.worn (with_entered c ds p.entered b)) st.progresses c m.progress ok.count
            (λ b less other. subst (Knows st.config (m.deeds ++ st.deeds) es b _ _) (sym (entered_there c b ds p.entered other))
            (knows_beside st.config b (actor.Cpu c) o ds st m.answer p.noted m.deeds st.deeds _ _ (p.entered b) other other did.goes.by (was.each b less)))
            (λ less. subst (Knows st.config (m.deeds ++ st.deeds) es c m.progress.flight m.progress.worn) (sym (entered_here c ds p.entered)) record {
              owns = reads.holds;
              worn = reads.wears ∙ worn_noted c o ds st m.answer p.noted me.worn old.worn;
              entered = entered_now shape st.config c st.deeds me f ds st p.noted old.entered;
            });
        cleaned = was.cleaned;
      }

  consumer_steps : (p : Playing) (f : ConsumerFlight) → IsRead shape k p → p.state.side.flight ≡ Some f → IsRead shape k (after_consumer_step shape p f)
  consumer_steps p f was is =
      let st : PlayState = p.state in
      let ok = was.play.coherent in
      let m : ConsumerStep = consumer_step st.config st.deeds st.side st.progresses f in
      let o : Op = op.Consumer (consumer_op_of f) in
      let ds : List Deed = m.deeds ++ p.cleaned in
      let did = consumer_keeps shape st.config st.deeds st.side st.progresses ok.ranges ok.legal ok.rests ok.count ok.stands f (subst (StandsState st.config st.deeds st.side) is ok.side) in
      let reads : CleanReads st (consumer_op_of f) p.cleaned m =
      consumer_step_reads st f p.cleaned (λ c lt. (ok.stands c lt).counts) (subst (λ (x : Option ConsumerFlight). OwnsClean st.config x p.cleaned) is was.cleaned) in
      let es = map ended (with_note actor.Consumer o ds st m.answer p.noted) in
      record {
        play = (coherence_carried shape k).consumer_steps p f was.play is;
        noted = noted_reads actor.Consumer o ds st m.answer p.noted reads.reads was.noted;
        right = note_right st.config actor.Consumer o ds st m.answer p.noted (λ x e. ap is_told_worn (sym e) ∙ consumer_unworn st.config st.deeds st.side st.progresses f) was.right;
        each = λ b less.
            let flight = flights_stay st.config st.deeds st.side st.progresses ok.count f b less in
            let worn = worn_stays st.config st.deeds st.side st.progresses ok.count f b less in
            subst (λ (x : Option CallPlace × ℕ). Knows st.config (m.deeds ++ st.deeds) es b x.0 x.1 (p.entered b)) (λ i. (sym flight i, sym worn i))
            (knows_beside st.config b actor.Consumer o ds st m.answer p.noted m.deeds st.deeds _ _ (p.entered b) refl refl did.goes.by (was.each b less));
        cleaned = reads.holds;
      }

  reads_kept : PlayInvariant shape k (IsRead shape k)
  reads_kept = record {
    steps = record { config = λ p was. was.play.config; cpu_steps = cpu_steps; consumer_steps = consumer_steps };
    cpu_begins = cpu_begins;
    consumer_begins = consumer_begins;
  }

play_reads : (shape : ℕ → Option Shape) (accepts : Record → Bool) (k : Config) (ts : List Turn) → play_fault shape accepts k ts ≡ None → IsRead shape k (played shape k ts)
play_reads shape accepts k ts e = play_carries shape accepts k (IsRead shape k) (reads_kept shape k) ts (start_read shape k) e

-- each ended call of a play answers what is read off its own deeds
pub played_reads : (shape : ℕ → Option Shape) (accepts : Record → Bool) (k : Config) (ts : List Turn) → play_fault shape accepts k ts ≡ None → AllByRecursion IsReadOff (played shape k ts).noted
played_reads shape accepts k ts e = (play_reads shape accepts k ts e).noted

-- the worn calls of one list and another
worn_both : (c : ℕ) (es fs : List EndedCall) → worn_answers c (es ++ fs) ≡ worn_answers c es + worn_answers c fs
worn_both c [] fs = omega arith
worn_both c (e ∷ es) fs = let more = worn_both c es fs in omega arith

-- in whichever order
worn_reversed : (c : ℕ) (ns : List Noted) → worn_answers c (map ended (reverse ns)) ≡ worn_answers c (map ended ns)
worn_reversed c [] = refl
worn_reversed c (n ∷ ns) =
    let last : worn_answers c (map ended (reverse ns ++ (n ∷ []))) ≡ worn_answers c (map ended (reverse ns)) + worn_answers c (map ended (n ∷ [])) =
    ap (worn_answers c) (map-append ended (reverse ns) (n ∷ [])) ∙ worn_both c (map ended (reverse ns)) (ended n ∷ []) in
    let turns : worn_answers c (map ended (reverse (n ∷ ns))) ≡ worn_answers c (map ended (reverse ns ++ (n ∷ []))) = ap (λ xs. worn_answers c (map ended xs)) (reverse-append (n ∷ []) ns) in
    let before = worn_reversed c ns in
    omega arith

-- so many of a CPU's calls are counted as worn as were answered Worn
pub played_wears : (shape : ℕ → Option Shape) (accepts : Record → Bool) (k : Config) (ts : List Turn) (c : ℕ) → play_fault shape accepts k ts ≡ None → c < k.cpus
    → (progress_of (played shape k ts).state.progresses c).worn ≡ worn_count (answers_of shape k ts) c
played_wears shape accepts k ts c e lt =
    let read = play_reads shape accepts k ts e in
    (read.each c (subst (λ (x : Config). c < x.cpus) (sym read.play.config) lt)).worn ∙ ap (λ n. min n (2 ^ 64 - 1)) (sym (worn_reversed c (played shape k ts).noted))

-- the ended calls in order of ending, turned round, are the noted ones
turned_back : (ns : List Noted) → reverse (map ended (reverse ns)) ≡ map ended ns
turned_back [] = refl
turned_back (n ∷ ns) =
    ap (λ (xs : List Noted). reverse (map ended xs)) (reverse-append (n ∷ []) ns)
    ∙ (ap reverse (map-append ended (reverse ns) (n ∷ []))
    ∙ (reverse-append (map ended (reverse ns)) (ended n ∷ []) ∙ ap (λ xs. ended n ∷ xs) (turned_back ns)))

-- of a play's calls exactly those are worn that have to be
pub played_worn : (shape : ℕ → Option Shape) (accepts : Record → Bool) (k : Config) (ts : List Turn) → play_fault shape accepts k ts ≡ None → AreWornRightly k (reverse (answers_of shape k ts))
played_worn shape accepts k ts e =
    let read = play_reads shape accepts k ts e in
    subst (AreWornRightly k) (sym (turned_back (played shape k ts).noted)) (subst (λ x. AreWornRightly x (map ended (played shape k ts).noted)) read.play.config read.right)
