-- How a session ends, or goes on.
use Rattle.std.proofs.Common.{◌≡◌, ℕ, List, true, false, Option, Some, refl, sym, ◌∙◌, subst, inl, inr}
use Rattle.std.specs.Prelude.{Result, Ok, Err, MatchResult, length}
use Rattle.dspec_c.specs.Words.{EnabledRows, Consuming, held_in, is_full, EndsSo, FinishAnswers, LooksHome, busy, not_home, ClosedBy, EndedBy, Going, IsAway, IsHome, LookedLater, insides, refusals}
use Rattle.dspec_c.specs.Words.{Cpu, Shared, Left}
use Rattle.dspec_c.specs.declared.{ended.EndedSession.EndedSession, handle.Handle.Handle, held.HandleValue.HandleValue}
use Rattle.dspec_c.specs.declared.held.HandleValue.TheVariants as held

-- a look at the session that is held
pub looks_so : {U : Type 0} (h now : HandleValue) (old new : Going) (r : Result U ℕ) → h ≡ held.Session old → now ≡ held.Session new → LookedLater old new
    → MatchResult r (λ _. IsHome new) (λ why. (why ≡ not_home) × IsAway new) → LooksHome h r now
looks_so h now old new r e f looked home = subst (λ (x : HandleValue). LooksHome x r now) (sym e) (new, f, looked, home)

module _ (was new closed : Handle) where
  -- something isn't home, or there is no session
  pub refused_so : (U : Type 0) (h now : HandleValue) (why : ℕ) → LooksHome {U = U} h (Err why) now → is_full was ≡ true → held_in was ≡ h → is_full new ≡ true → held_in new ≡ now
      → FinishAnswers h was closed why new closed
  refused_so U (held.Session old) now why looks f e g i = (looks.0, looks.2, inr (inr (looks.3.0, looks.3.1, record { full = g; holds = i ∙ looks.1; other = refl })))
  refused_so U held.Nothing now why looks f e g i = (looks.1, record { full = g ∙ sym f; holds = i ∙ looks.0 ∙ sym e; other = refl })
  refused_so U (held.Schema s) now why looks f e g i = (looks.1, record { full = g ∙ sym f; holds = i ∙ looks.0 ∙ sym e; other = refl })
  refused_so U (held.Cpu s) now why looks f e g i = (looks.1, record { full = g ∙ sym f; holds = i ∙ looks.0 ∙ sym e; other = refl })
  refused_so U (held.Consumer s) now why looks f e g i = (looks.1, record { full = g ∙ sym f; holds = i ∙ looks.0 ∙ sym e; other = refl })
  refused_so U (held.Closed x) now why looks f e g i = (looks.1, record { full = g ∙ sym f; holds = i ∙ looks.0 ∙ sym e; other = refl })
  refused_so U (held.Files x) now why looks f e g i = (looks.1, record { full = g ∙ sym f; holds = i ∙ looks.0 ∙ sym e; other = refl })
  refused_so U (held.Paths x) now why looks f e g i = (looks.1, record { full = g ∙ sym f; holds = i ∙ looks.0 ∙ sym e; other = refl })
  refused_so U (held.Parking x) now why looks f e g i = (looks.1, record { full = g ∙ sym f; holds = i ∙ looks.0 ∙ sym e; other = refl })

  -- it is still shared
  pub goes_on_so : {U : Type 0} (h now back : HandleValue) (u : U) → LooksHome h (Ok u) now → EndsSo now (Err back) → is_full new ≡ true
      → held_in new ≡ back → FinishAnswers h was closed busy new closed
  goes_on_so (held.Session old) now back u looks ends g i =
      let same : back ≡ held.Session looks.0 = subst (λ (x : HandleValue). EndsSo x (Err back)) looks.1 ends in
      (looks.0, looks.2, inr (inl (refl, looks.3, record { full = g; holds = i ∙ same; other = refl })))
  goes_on_so held.Nothing now back u looks ends g i = absurd looks.1
  goes_on_so (held.Schema s) now back u looks ends g i = absurd looks.1
  goes_on_so (held.Cpu s) now back u looks ends g i = absurd looks.1
  goes_on_so (held.Consumer s) now back u looks ends g i = absurd looks.1
  goes_on_so (held.Closed x) now back u looks ends g i = absurd looks.1
  goes_on_so (held.Files x) now back u looks ends g i = absurd looks.1
  goes_on_so (held.Paths x) now back u looks ends g i = absurd looks.1
  goes_on_so (held.Parking x) now back u looks ends g i = absurd looks.1

  -- it has ended
  pub ended_so : {U : Type 0} (left : Handle) (h now : HandleValue) (ended : EndedSession) (u : U) → LooksHome h (Ok u) now → EndsSo now (Ok ended) → is_full new ≡ false → is_full left ≡ true
      → held_in left ≡ held.Closed ended → FinishAnswers h was closed 0 new left
  ended_so left (held.Session old) now ended u looks ends f g i =
      let by : (length ended.closed ≡ (looks.0).cpus) × EndedBy looks.0 ended.closed ended.refused.items = subst (λ (x : HandleValue). EndsSo x (Ok ended)) looks.1 ends in
      (looks.0, looks.2, inl (refl, looks.3, record { emptied = f; full = g; ended = ended; holds = i; all = by.0; by = by.1 }))
  ended_so left held.Nothing now ended u looks ends f g i = absurd looks.1
  ended_so left (held.Schema s) now ended u looks ends f g i = absurd looks.1
  ended_so left (held.Cpu s) now ended u looks ends f g i = absurd looks.1
  ended_so left (held.Consumer s) now ended u looks ends f g i = absurd looks.1
  ended_so left (held.Closed x) now ended u looks ends f g i = absurd looks.1
  ended_so left (held.Files x) now ended u looks ends f g i = absurd looks.1
  ended_so left (held.Paths x) now ended u looks ends f g i = absurd looks.1
  ended_so left (held.Parking x) now ended u looks ends f g i = absurd looks.1

-- so it is of what the session's handle had
module _ (was new closed : Handle) (h : HandleValue) (e : held_in was ≡ h) where
  in_handle : (status : ℕ) (left : Handle) → FinishAnswers h was closed status new left → FinishAnswers (held_in was) was closed status new left
  in_handle status left is = subst (λ (x : HandleValue). FinishAnswers x was closed status new left) (sym e) is

  pub refused_in : (U : Type 0) (now : HandleValue) (why : ℕ) → LooksHome {U = U} h (Err why) now → is_full was ≡ true → is_full new ≡ true → held_in new ≡ now
      → FinishAnswers (held_in was) was closed why new closed
  refused_in U now why looks f g i = in_handle why closed (refused_so was new closed U h now why looks f e g i)

  pub goes_on_in : {U : Type 0} (now back : HandleValue) (u : U) → LooksHome h (Ok u) now → EndsSo now (Err back) → is_full new ≡ true → held_in new ≡ back
      → FinishAnswers (held_in was) was closed busy new closed
  goes_on_in now back u looks ends g i = in_handle busy closed (goes_on_so was new closed h now back u looks ends g i)

  pub ended_in : {U : Type 0} (left : Handle) (now : HandleValue) (ended : EndedSession) (u : U) → LooksHome h (Ok u) now → EndsSo now (Ok ended) → is_full new ≡ false → is_full left ≡ true
      → held_in left ≡ held.Closed ended → FinishAnswers (held_in was) was closed 0 new left
  ended_in left now ended u looks ends f g i = in_handle 0 left (ended_so was new closed left h now ended u looks ends f g i)

-- what is left of the session by what was home
pub left_of_home : (w : Going) (shared : Shared) (cpus : List (Option (Cpu EnabledRows))) (consumer : Consuming) (left : List Left) (refused : List ℕ) → shared ≡ w.shared → cpus ≡ insides w.places
    → w.consumer.inside ≡ Some consumer → ClosedBy shared cpus consumer left → refused ≡ refusals w.places → EndedBy w left refused
left_of_home w shared cpus consumer left refused e f home closed counted = record {
  consumer = consumer;
  home = home;
  closed = subst (λ (m : Shared). ClosedBy m (insides w.places) consumer left) e (subst (λ (xs : List (Option (Cpu EnabledRows))). ClosedBy shared xs consumer left) f closed);
  counted = counted;
}
