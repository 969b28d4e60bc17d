-- What one decision does to what became of speculations.
use Rattle.std.proofs.Common.{◌≡◌, Bool, true, false, ◌||◌, Option, Some, None, refl, sym, subst, inl, inr, true≢false}
use Rattle.dspec_deeds.proofs.TestLemmas.{either_way, same_id_tells}
use Rattle.dspec_paths.specs.Words.{is_same_id, Speculation, CallsMade, Decided, Copied, Lost, Thrown, Void, CommitsSo, DiscardsSo, DiscardsIfThere, loses_block, NotCopied, NotThrown}
use Rattle.dspec_deeds.specs.declared.calls.Decided.TheVariants.{Stopped, Worn}

-- two that differ aren't the same
pub other_id : (a b : Speculation) → (a ≡ b → ⊥) → is_same_id a b ≡ false
other_id a b differ = elim (either_way (is_same_id a b)) [ inl e ↦ absurd (differ (same_id_tells a b e)) | inr e ↦ e ]

-- one more that isn't of it
pub one_more : (a b : Bool) → a ≡ false → b ≡ false → (a || b) ≡ false
one_more a b e f = subst (λ (v : Bool). (v || b) ≡ false) (sym e) f

-- a commit throws nothing away
pub commit_throws_none : (id j : Speculation) (d : Decided) (x y : CallsMade) → CommitsSo j d x y → NotThrown id x.done → NotThrown id y.done
commit_throws_none id j (Copied n) x y so none = subst (λ (z : CallsMade). NotThrown id z.done) (sym so) none
commit_throws_none id j (Lost n) x y so none = subst (λ (z : CallsMade). NotThrown id z.done) (sym so) none
commit_throws_none id j (Thrown n) x y so none = subst (λ (z : CallsMade). NotThrown id z.done) (sym so) none
commit_throws_none id j Void x y so none = subst (λ (z : CallsMade). NotThrown id z.done) (sym so) none
commit_throws_none id j Stopped x y so none = subst (λ (z : CallsMade). NotThrown id z.done) (sym so) none
commit_throws_none id j Worn x y so none = subst (λ (z : CallsMade). NotThrown id z.done) (sym so) none

-- it copies no other
pub commit_copies_none : (id j : Speculation) (d : Decided) (x y : CallsMade) → CommitsSo j d x y → is_same_id id j ≡ false → NotCopied id x.done → NotCopied id y.done
commit_copies_none id j (Copied n) x y so other none = subst (λ (z : CallsMade). NotCopied id z.done) (sym so) (one_more (is_same_id id j) _ other none)
commit_copies_none id j (Lost n) x y so other none = subst (λ (z : CallsMade). NotCopied id z.done) (sym so) none
commit_copies_none id j (Thrown n) x y so other none = subst (λ (z : CallsMade). NotCopied id z.done) (sym so) none
commit_copies_none id j Void x y so other none = subst (λ (z : CallsMade). NotCopied id z.done) (sym so) none
commit_copies_none id j Stopped x y so other none = subst (λ (z : CallsMade). NotCopied id z.done) (sym so) none
commit_copies_none id j Worn x y so other none = subst (λ (z : CallsMade). NotCopied id z.done) (sym so) none

-- and where its block is lost it copies none at all
pub lost_copies_none : (id j : Speculation) (d : Decided) (x y : CallsMade) → CommitsSo j d x y → loses_block d ≡ true → NotCopied id x.done → NotCopied id y.done
lost_copies_none id j (Copied n) x y so lost none = absurd (true≢false (sym lost))
lost_copies_none id j (Lost n) x y so lost none = subst (λ (z : CallsMade). NotCopied id z.done) (sym so) none
lost_copies_none id j (Thrown n) x y so lost none = absurd (true≢false (sym lost))
lost_copies_none id j Void x y so lost none = absurd (true≢false (sym lost))
lost_copies_none id j Stopped x y so lost none = absurd (true≢false (sym lost))
lost_copies_none id j Worn x y so lost none = absurd (true≢false (sym lost))

-- a discard copies nothing
pub discard_copies_none : (id j : Speculation) (d : Decided) (x y : CallsMade) → DiscardsSo j d x y → NotCopied id x.done → NotCopied id y.done
discard_copies_none id j (Copied n) x y so none = subst (λ (z : CallsMade). NotCopied id z.done) (sym so) none
discard_copies_none id j (Lost n) x y so none = subst (λ (z : CallsMade). NotCopied id z.done) (sym so) none
discard_copies_none id j (Thrown n) x y so none = subst (λ (z : CallsMade). NotCopied id z.done) (sym so) none
discard_copies_none id j Void x y so none = subst (λ (z : CallsMade). NotCopied id z.done) (sym so) none
discard_copies_none id j Stopped x y so none = subst (λ (z : CallsMade). NotCopied id z.done) (sym so) none
discard_copies_none id j Worn x y so none = subst (λ (z : CallsMade). NotCopied id z.done) (sym so) none

-- it throws no other away
pub discard_throws_none : (id j : Speculation) (d : Decided) (x y : CallsMade) → DiscardsSo j d x y → is_same_id id j ≡ false → NotThrown id x.done → NotThrown id y.done
discard_throws_none id j (Copied n) x y so other none = subst (λ (z : CallsMade). NotThrown id z.done) (sym so) none
discard_throws_none id j (Lost n) x y so other none = subst (λ (z : CallsMade). NotThrown id z.done) (sym so) none
discard_throws_none id j (Thrown n) x y so other none = subst (λ (z : CallsMade). NotThrown id z.done) (sym so) (one_more (is_same_id id j) _ other none)
discard_throws_none id j Void x y so other none = subst (λ (z : CallsMade). NotThrown id z.done) (sym so) none
discard_throws_none id j Stopped x y so other none = subst (λ (z : CallsMade). NotThrown id z.done) (sym so) none
discard_throws_none id j Worn x y so other none = subst (λ (z : CallsMade). NotThrown id z.done) (sym so) none

-- the same of a discard of what there is
pub if_there_copies_none : (id : Speculation) (j : Option Speculation) (a : Option Decided) (x y : CallsMade) → DiscardsIfThere j a x y → NotCopied id x.done → NotCopied id y.done
if_there_copies_none id None a x y (is, so) none = subst (λ (z : CallsMade). NotCopied id z.done) (sym so) none
if_there_copies_none id (Some j) a x y (d, is, so) none = discard_copies_none id j d x y so none

pub if_there_throws_none : (id : Speculation) (j : Option Speculation) (a : Option Decided) (x y : CallsMade) → DiscardsIfThere j a x y → ((k : Speculation) → j ≡ Some k → is_same_id id k ≡ false)
    → NotThrown id x.done → NotThrown id y.done
if_there_throws_none id None a x y (is, so) other none = subst (λ (z : CallsMade). NotThrown id z.done) (sym so) none
if_there_throws_none id (Some j) a x y (d, is, so) other none = discard_throws_none id j d x y so (other j refl) none
