-- Whoever doesn't wait for room keeps a path in the same way, wherever room is wanting.
use Rattle.std.proofs.Common.{ℕ, Bool, true, false, Option, Some, None, inl, inr, sym, true≢false}
use Rattle.dspec_paths.specs.Words.{CallsMade, Speculation, Places, Commits, CommitsNewest, CommitsOlder, KeepsPath, KeepsRest, copied_by, loses_block}
use Rattle.dspec_paths.specs.declared.{open_path.OpenPath.OpenPath, path_end.PathEnd.PathEnd, path_key.PathKey.PathKey}

abbrev Nowhere : Speculation → Type 0
Nowhere id = ⊥

module _ (lacks : Speculation → Type 0) (k : PathKey) (a : PathEnd) where
  newest : (n : ℕ) (p : OpenPath) (x y : CallsMade) (ps new : Places) → CommitsNewest lacks false n k p a x y ps new → CommitsNewest Nowhere false n k p a x y ps new
  newest n p x y ps new (inl (is, waits, lack, calls, places)) = absurd (true≢false (sym waits))
  newest n p x y ps new (inr ended) = inr ended

  rest : (b : Bool) (n : ℕ) (p : OpenPath) (x y : CallsMade) (ps new : Places) → KeepsRest lacks false b n k p a x y ps new → KeepsRest Nowhere false b n k p a x y ps new
  rest true n p x y ps new is = is
  rest false n p x y ps new is = newest n p x y ps new is

  older : (id : Speculation) (p : OpenPath) (x y : CallsMade) (ps new : Places) → CommitsOlder lacks false id k p a x y ps new → CommitsOlder Nowhere false id k p a x y ps new
  older id p x y ps new (inl (is, waits, lack, calls, places)) = absurd (true≢false (sym waits))
  older id p x y ps new (inr (d, z, loses, so, more)) = inr (d, z, loses, so, rest (loses_block d) (copied_by d) (record p { older = None; is_kept = true }) z y ps new more)

  commits : (o : Option Speculation) (p : OpenPath) (x y : CallsMade) (ps new : Places) → Commits lacks false o k p a x y ps new → Commits Nowhere false o k p a x y ps new
  commits None p x y ps new is = newest 0 p x y ps new is
  commits (Some id) p x y ps new is = older id p x y ps new is

  pub at_once : (x y : CallsMade) (old new : Places) → KeepsPath lacks false k a x y old new → KeepsPath Nowhere false k a x y old new
  at_once x y old new (inl over) = inl over
  at_once x y old new (inr (p, named, is)) = inr (p, named, commits p.older p x y old new is)
