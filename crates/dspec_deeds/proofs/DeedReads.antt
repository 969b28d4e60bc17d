-- What one deed more changes of what is read off a CPU's own deeds, and that another's deed leaves its report.
use Rattle.std.proofs.Common.{◌≡◌, ℕ, ◌+◌, true, false, not, ◌&&◌, ◌||◌, ◌==◌, ◌++◌, List, [], ◌∷◌, length, Option, Some, None, if◌then◌else◌, arith, refl, sym, ap, ◌∙◌}
use Rattle.std.proofs.lemmas.Bool.Decides.{nat_tests}
use Rattle.std.specs.Prelude.{filter}
use Rattle.dspec_deeds.specs.Words.{Speculation, spoken_kept, same_actor, author, scanned, is_among, joined, calls_on, callers, settles, acks, issue_of, Spoken, one_if, accepts_now}
use Rattle.dspec_deeds.specs.Words.{traces_dropped_now, specdrops_now, loses_now, discards_now, voids_now, stops_now, adds_now, speculative, missed_busy, fails_now, one_if_record, offered_by}
use Rattle.dspec_deeds.specs.Words.{is_call, keeps, empties, held, dropped_after, accepts, is_drop, mark_after, ReadsApart, ReadsAlike}
use Rattle.dspec_deeds.specs.declared.{calls.Actor.TheVariants.Cpu, config.Config.Config, deed.Deed.Deed, deed.Deed.TheVariants.Speculate}
use Rattle.dspec_deeds.proofs.TestLemmas.{has_joined}

-- one more caller
also_called : (c : ℕ) (x : Option ℕ) (cs ds : List ℕ) → is_among c cs ≡ is_among c ds → is_among c (joined x cs) ≡ is_among c (joined x ds)
also_called c None cs ds e = e
also_called c (Some a) cs ds e = has_joined c a cs ∙ (ap (λ b. (c == a) || b) e ∙ sym (has_joined c a ds))

-- two empty lists
pub nothing_apart : (k : Config) (c : ℕ) → ReadsApart k c [] []
nothing_apart k c = grind arith

-- the same deed on lists that read alike, Seals apart
module _ (k : Config) (c : ℕ) (d : Deed) (g h : List Deed) (e : ReadsApart k c g h) where
  kept : (id : Speculation) (d : Deed) → held c id (d ∷ g) ≡ held c id (d ∷ h)
  kept id (Speculate a j r f) = λ i. if keeps c id (Speculate a j r f) then record { number = e.offering i; content = r } ∷ e.buffers id i else e.buffers id i
  kept id d = ap (λ os. if empties c id d then [] else os) (e.buffers id)

  entered : (d : Deed) → accepts c d g ≡ accepts c d h
  entered d = grind arith

  missed : (d : Deed) → missed_busy c (d ∷ g) ≡ missed_busy c (d ∷ h)
  missed d = grind arith

  said : (d : Deed) → adds_now c d g ≡ adds_now c d h
  said (Speculate a id r f) = λ i. if spoken_kept f && (c == a) then (id, record { number = e.offering i; content = r }) ∷ [] else []
  said d = refl

  pub apart_on : ReadsApart k c (d ∷ g) (d ∷ h)
  apart_on =
      let here = missed d in
      let says = said d in
      record {
        scanning = ap (scanned k c d) e.scanning;
        offering = ap (λ n. n + one_if_record (offered_by c d)) e.offering;
        calling = ap (λ n. n + (if is_call c d then 1 else 0)) e.calling;
        buffers = λ id. kept id d;
        dropping = λ id. ap (dropped_after c id d) (e.dropping id);
        taking = let enters = entered d in λ i. enters i ++ e.taking i;
        closing = ap (λ b. is_drop c d || b) e.closing;
        called = λ id. also_called c (calls_on id d) (callers id g) (callers id h) (e.called id);
        settling = λ id. ap (λ b. settles c id d || b) (e.settling id);
        acks = λ s. ap (λ n. if acks c s d then issue_of d + 1 else n) (e.acks s);
        marking = λ s. ap (mark_after c s d) (e.marking s);
        missing = here;
        spoken = λ i. says i ++ filter (λ p. not (empties c p.0 d)) (e.spoken i);
        reporting = λ worn. λ i. record {
          offered = e.offering i + one_if_record (offered_by c d);
          accepted = (e.reporting worn i).accepted + accepts_now c d;
          dropped = (e.reporting worn i).dropped + traces_dropped_now c d;
          specdropped = (e.reporting worn i).specdropped + specdrops_now c d;
          lost = (e.reporting worn i).lost + loses_now c d;
          discarded = (e.reporting worn i).discarded + discards_now c d;
          void = (e.reporting worn i).void + voids_now c d;
          held = length (says i ++ filter (λ p. not (empties c p.0 d)) (e.spoken i));
          drops = (e.reporting worn i).drops + one_if (is_drop c d);
          unavailable = (e.reporting worn i).unavailable + one_if (fails_now k c d && not (here i));
          busy = (e.reporting worn i).busy + one_if (fails_now k c d && here i);
          stopped = (e.reporting worn i).stopped + stops_now c d;
          worn = worn;
        };
      }

-- the same deed on lists that read alike
pub alike_on : (k : Config) (c : ℕ) (d : Deed) (g h : List Deed) → ReadsAlike k c g h → ReadsAlike k c (d ∷ g) (d ∷ h)
alike_on k c d g h e = grind (arith, nat_tests, entered k c d g h e.apart d, apart_on k c d g h e.apart)

-- another's deed counts nowhere in the CPU's report
pub record CountsNowhere (k : Config) (c : ℕ) (d : Deed) (h : List Deed) : Type 0 where
  pub accepted : accepts_now c d ≡ 0
  pub dropped : traces_dropped_now c d ≡ 0
  pub specdropped : specdrops_now c d ≡ 0
  pub lost : loses_now c d ≡ 0
  pub discarded : discards_now c d ≡ 0
  pub void : voids_now c d ≡ 0
  pub stopped : stops_now c d ≡ 0
  pub fails : fails_now k c d ≡ false
  pub says : speculative c (d ∷ h) ≡ speculative c h

kept_all : (ps : List Spoken) → filter (λ p. true) ps ≡ ps
kept_all [] = refl
kept_all (p ∷ ps) = ap (λ qs. p ∷ qs) (kept_all ps)

pub counts_nowhere : (k : Config) (c : ℕ) (d : Deed) (h : List Deed) → same_actor (Cpu c) (author d h) ≡ false → CountsNowhere k c d h
counts_nowhere k c d h e = grind (arith, nat_tests, kept_all (speculative c h))
