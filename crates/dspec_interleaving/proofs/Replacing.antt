-- One CPU's side is replaced.
use Rattle.std.proofs.Common.{◌≡◌, ℕ, ◌<◌, true, false, ◌==◌, List, length, slice_set, sym, subst, ⊎_elim, arith}
use Rattle.std.proofs.lemmas.List.{get_or-set_same, get_or-set_other}
use Rattle.dspec_interleaving.specs.{Words.progress_of, Words.idle_progress, declared.flight.CpuProgress.CpuProgress}
use Rattle.dspec_deeds.proofs.TestLemmas.{either_way, same_number, numbers_differ}

-- of each CPU, where one CPU's side is replaced
pub put : (n : ℕ) (P : ℕ → CpuProgress → Type 0) (all : List CpuProgress) (c : ℕ) (me : CpuProgress) → length all ≡ n → ((b : ℕ) → b < n → (b == c) ≡ false → P b (progress_of all b))
    → (c < n → P c me) → (b : ℕ) → b < n → P b (progress_of (slice_set all c me) b)
put n P all c me count others now b lt = ⊎_elim
    (λ (t : (b == c) ≡ true).
    let is = same_number b c t in
    let within : c < n = omega arith in
    let here : progress_of (slice_set all c me) c ≡ me = get_or-set_same all c me idle_progress (omega arith) in
    subst (λ x. P x (progress_of (slice_set all c me) x)) (sym is) (subst (P c) (sym here) (now within)))
    (λ (f : (b == c) ≡ false).
    let there : progress_of (slice_set all c me) b ≡ progress_of all b = get_or-set_other all c b me idle_progress (numbers_differ b c f) in
    subst (P b) (sym there) (others b lt f))
    (either_way (b == c))
