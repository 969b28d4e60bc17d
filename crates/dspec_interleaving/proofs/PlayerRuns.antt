-- How far a player has come in its turns, and what it leaves at the end.
use Prim.Native.Nat.{zero, suc}
use Rattle.std.proofs.Common.{◌≡◌, ℕ, ◌+◌, ◌<◌, ◌≤◌, Bool, true, List, [], ◌∷◌, ◌++◌, length, drop, get_or, map, Option, Some, None, refl, sym, ap, ◌∙◌, subst, arith, add-one, drop-cons}
use Rattle.std.proofs.lemmas.List.{map-append}
use Rattle.dspec_interleaving.specs.Words.{Shape, Record, is_actor, is_idle, numbers_below, reports, PlayState, IsCoherent, progress_of, EndedCall, IsPlayingAt, Playing, all_ran, all_turned}
use Rattle.dspec_interleaving.specs.Words.{cpus_ran, or_else, play_fault, played, playing_at_start, ran, refusal, setup_fault, turn_fault, turned, worn_count, start_fault, report, Actor, Turn}
use Rattle.dspec_interleaving.specs.Words.{Config, Deed}
use Rattle.dspec_interleaving.specs.declared.outcome.PlayFault.{PlayFault}
use Rattle.dspec_interleaving.proofs.{OwnAnswersPlay.played_wears, PlaysEnd.all_ran_idle}

-- after so many turns a play goes on to the same end, and to the same refusal
pub record IsSoFar (shape : ℕ → Option Shape) (accepts : Record → Bool) (k : Config) (ts : List Turn) (i : ℕ) (now : PlayState) (answers : List EndedCall) : Type 0 where
  pub playing : Playing
  pub at : IsPlayingAt now answers playing
  pub faults : turn_fault shape accepts i (drop i ts) playing ≡ turn_fault shape accepts 0 ts (playing_at_start k)
  pub turns : all_turned shape (drop i ts) playing ≡ all_turned shape ts (playing_at_start k)

module _ (shape : ℕ → Option Shape) (accepts : Record → Bool) (k : Config) (ts : List Turn) where
  -- before the first turn
  pub so_far_first : (now : PlayState) → now ≡ (playing_at_start k).state → IsSoFar shape accepts k ts 0 now []
  so_far_first now is = record { playing = playing_at_start k; at = record { state = is; told = refl }; faults = refl; turns = refl }

  -- one more turn
  pub so_far_more : (i : ℕ) (t d : Turn) (now new : PlayState) (answers after : List EndedCall) → i < length ts → t ≡ get_or ts i d → refusal shape accepts i t now ≡ None
      → ((p : Playing) → IsPlayingAt now answers p → IsPlayingAt new after (turned shape t p))
      → IsSoFar shape accepts k ts i now answers → IsSoFar shape accepts k ts (i + 1) new after
  so_far_more i t d now new answers after lt is none next s =
      let cons : drop i ts ≡ t ∷ drop (suc i) ts = drop-cons ts i d lt ∙ ap (λ x. x ∷ drop (suc i) ts) (sym is) in
      let p = s.playing in
      let one : drop (suc i) ts ≡ drop (i + 1) ts = ap (λ n. drop n ts) (sym (add-one i)) in
      let allowed : refusal shape accepts i t p.state ≡ None = subst (λ x. refusal shape accepts i t x ≡ None) s.at.state none in
      record {
        playing = turned shape t p;
        at = next p s.at;
        faults = ap (λ l. turn_fault shape accepts (i + 1) l (turned shape t p)) (sym one)
            ∙ (sym (ap (λ q. or_else q (turn_fault shape accepts (i + 1) (drop (suc i) ts) (turned shape t p))) allowed)
            ∙ (sym (ap (λ l. turn_fault shape accepts i l p) cons) ∙ s.faults));
        turns = ap (λ l. all_turned shape l (turned shape t p)) (sym one) ∙ (sym (ap (λ l. all_turned shape l p) cons) ∙ s.turns);
      }

  -- the turn is the one that the play is refused by
  pub so_far_refused : (i : ℕ) (t d : Turn) (now : PlayState) (answers : List EndedCall) (fault : PlayFault) → i < length ts → t ≡ get_or ts i d → refusal shape accepts i t now ≡ Some fault
      → start_fault k ≡ None → IsSoFar shape accepts k ts i now answers → play_fault shape accepts k ts ≡ Some fault
  so_far_refused i t d now answers fault lt is some fine s =
      let cons : drop i ts ≡ t ∷ drop (suc i) ts = drop-cons ts i d lt ∙ ap (λ x. x ∷ drop (suc i) ts) (sym is) in
      let p = s.playing in
      let refused : refusal shape accepts i t p.state ≡ Some fault = subst (λ x. refusal shape accepts i t x ≡ Some fault) s.at.state some in
      ap (λ f. or_else (setup_fault f) (turn_fault shape accepts 0 ts (playing_at_start k))) fine
      ∙ (sym s.faults ∙ (ap (λ l. turn_fault shape accepts i l p) cons ∙ ap (λ q. or_else q (turn_fault shape accepts (i + 1) (drop (suc i) ts) (turned shape t p))) refused))

  drop_all : {X : Type 0} (xs : List X) (i : ℕ) → length xs ≤ i → drop i xs ≡ []
  drop_all [] zero le = refl
  drop_all [] (suc i) le = refl
  drop_all (x ∷ xs) zero le = absurd (omega arith)
  drop_all (x ∷ xs) (suc i) le = drop_all xs i (omega arith)

  -- after the last turn the play is that of all turns, and none was refused
  pub so_far_last : (i : ℕ) (now : PlayState) (answers : List EndedCall) → length ts ≤ i → IsSoFar shape accepts k ts i now answers → IsPlayingAt now answers (all_turned shape ts (playing_at_start k))
  so_far_last i now answers le s = subst (λ x. IsPlayingAt now answers x) (ap (λ l. all_turned shape l s.playing) (sym (drop_all ts i le)) ∙ s.turns) s.at

  pub so_far_unrefused : (i : ℕ) (now : PlayState) (answers : List EndedCall) → length ts ≤ i → start_fault k ≡ None → IsSoFar shape accepts k ts i now answers → play_fault shape accepts k ts ≡ None
  so_far_unrefused i now answers le fine s =
      ap (λ f. or_else (setup_fault f) (turn_fault shape accepts 0 ts (playing_at_start k))) fine
      ∙ (sym s.faults ∙ ap (λ l. turn_fault shape accepts i l s.playing) (drop_all ts i le))

-- after so many CPUs' runs
abbrev pub RanCpus : (ℕ → Option Shape) → ℕ → PlayState → List EndedCall → PlayState → List EndedCall → Type 0
RanCpus shape n st before now answers = (p : Playing) → IsPlayingAt st before p → IsPlayingAt now answers (cpus_ran shape n p)

same_map : {X : Type 0} (f g : ℕ → X) (n : ℕ) → ((c : ℕ) → c < n → f c ≡ g c) → map f (numbers_below n) ≡ map g (numbers_below n)
same_map f g zero e = refl
same_map f g (suc n) e =
    map-append f (numbers_below n) (n ∷ [])
    ∙ (ap (λ l. l ++ f n ∷ []) (same_map f g n (λ c lt. e c (omega arith)))
    ∙ (ap (λ x. map g (numbers_below n) ++ x ∷ []) (e n (omega arith)) ∙ sym (map-append g (numbers_below n) (n ∷ []))))

-- reports tell of the same worn calls
pub same_reports : (k : Config) (f g : ℕ → ℕ) (h : List Deed) → ((c : ℕ) → c < k.cpus → f c ≡ g c) → reports k f h ≡ reports k g h
same_reports k f g h e = same_map (λ c. report k c (f c) h) (λ c. report k c (g c) h) k.cpus (λ c lt. ap (λ n. report k c n h) (e c lt))

-- after all runs no call is in flight
pub all_idle : (shape : ℕ → Option Shape) (st new : PlayState) (before after : List EndedCall) (q : Playing) → IsPlayingAt st before q → IsPlayingAt new after (all_ran shape q)
    → IsCoherent shape st → new.config ≡ st.config → (a : Actor) → is_actor new.config a ≡ true → is_idle a new ≡ true
all_idle shape st new before after q at ran ok same a is =
    subst (λ (s : PlayState). is_idle a s ≡ true) (sym ran.state)
    (all_ran_idle shape q (subst (IsCoherent shape) at.state ok) a (subst (λ k. is_actor k a ≡ true) (same ∙ ap (λ (s : PlayState). s.config) at.state) is))

-- the worn calls of each CPU are those that were answered Worn
pub worn_as_told : (shape : ℕ → Option Shape) (accepts : Record → Bool) (k : Config) (ts : List Turn) (now : PlayState) (answers : List EndedCall) → play_fault shape accepts k ts ≡ None
    → IsPlayingAt now answers (played shape k ts) → (c : ℕ) → c < k.cpus → (progress_of now.progresses c).worn ≡ worn_count answers c
worn_as_told shape accepts k ts now answers none at c lt =
    ap (λ (s : PlayState). (progress_of s.progresses c).worn) at.state ∙ (played_wears shape accepts k ts c none lt ∙ ap (λ (l : List EndedCall). worn_count l c) (sym at.told))
