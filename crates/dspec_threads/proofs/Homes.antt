-- How CPUs go out, and come home.
use Rattle.std.proofs.{Common.◌≡◌, Common.ℕ, Common.List, Common.[], Common.◌∷◌, Common.◌++◌, Common.sym, Common.ap, Common.◌∙◌, Common.subst, Common.arith, lemmas.Bool.Decides.nat_tests}
use Rattle.std.specs.Prelude.{slice_get}
use Rattle.dspec_threads.specs.Words.{EnabledRows, CallsMade, called, number_in, words_of, CpuIdentity, IsCallable, identity, IsCpuOf, ComesHome, WentHome, IsOfRank, IsHomeOf, IsLentOut, Rank, Cpu}
use Rattle.dspec_threads.specs.Words.{Shared, HasDone, Belongs}

-- the same CPU can be called by the same
pub still_callable : (shared : Shared) (old new : Cpu EnabledRows) → identity new ≡ identity old → IsCallable shared old → IsCallable shared new
still_callable shared old new same is = subst (λ (i : CpuIdentity EnabledRows). Belongs (words_of shared) i) (sym same) is

pub still_out : (sent : List (Cpu EnabledRows)) (old new : Cpu EnabledRows) → identity new ≡ identity old → IsLentOut sent old → IsLentOut sent new
still_out sent old new same out = record { first = out.first; was = out.was; same = same ∙ out.same }

pub out_first : (sent : List (Cpu EnabledRows)) (first cpu : Cpu EnabledRows) → sent ≡ first ∷ [] → cpu ≡ first → IsLentOut sent cpu
out_first sent first cpu was is = record { first = first; was = was; same = ap (λ (x : Cpu EnabledRows). identity x) is }

-- it is of the rank where the same CPU is
pub still_of_rank : (r : Rank) (c : ℕ) (old new : Cpu EnabledRows) → identity new ≡ identity old → IsOfRank r c old → IsOfRank r c new
still_of_rank r c old new same is = subst (λ (i : CpuIdentity EnabledRows). IsCpuOf r.schema (words_of r.shared) c (slice_get r.pairs c) i) (sym same) is

module _ (done : ℕ → CallsMade → Type 0) where
  -- whoever is out may go home
  pub may_go : (sent : List (Cpu EnabledRows)) (cpu : Cpu EnabledRows) → IsLentOut sent cpu → done (number_in cpu) (called cpu) → ComesHome done sent cpu
  may_go sent cpu out did = let goes : HasDone done out.first cpu = record { same = out.same; did = did } in subst (λ xs. ComesHome done xs cpu) (sym out.was) goes

  pub has_gone : (sent after : List (Cpu EnabledRows)) (cpu : Cpu EnabledRows) → IsLentOut sent cpu → after ≡ sent ++ cpu ∷ [] → WentHome cpu after
  has_gone sent after cpu out e = record { first = out.first; went = e ∙ ap (λ xs. xs ++ cpu ∷ []) out.was }

  -- who came is the CPU of that home
  pub comes_at : (rank : Rank) (c : ℕ) (before : List (Cpu EnabledRows)) (cpu : Cpu EnabledRows) → IsHomeOf rank c before → ComesHome done before cpu → IsOfRank rank c cpu × done c (called cpu)
  comes_at rank c before cpu home allowed = grind (arith, nat_tests, still_of_rank)
