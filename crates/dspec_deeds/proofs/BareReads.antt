-- What is read off all deeds is the same without the Seals.
use Rattle.std.proofs.Common.{arith, ◌≡◌, ℕ, suc, ◌+◌, true, false, ◌||◌, ◌&&◌, if◌then◌else◌, List, [], ◌∷◌, refl, sym, ap, ◌∙◌, true≢false}
use Rattle.std.proofs.lemmas.Bool.Decides.{nat_tests}
use Rattle.dspec_deeds.specs.Words.{Speculation, is_discard, halted, is_halt, issue, releases, opened, opens, verdict, ruling, latest, callers, calls_on, joined, is_sole, solo, solo_of, present}
use Rattle.dspec_deeds.specs.Words.{settled, settles, scan, scanned, opened_since, is_scan, opens_slot, owing, author, code_at, standing, word_at, ack, acks, issue_of, is_seal, bare, ShowsAlike}
use Rattle.dspec_deeds.specs.Words.{Inactive}
use Rattle.dspec_deeds.specs.declared.{config.Config.Config, deed.Deed.Deed, deed.Deed.TheVariants.Discard, deed.Deed.TheVariants.Seal}

-- a Seal is a CPU's
pub seal_is : (d : Deed) → is_seal d ≡ true → (c : ℕ) × (d ≡ Seal c)
seal_is (Seal c) e = (c, refl)
seal_is d e = absurd (true≢false (sym e))

-- what is read off deed by deed, and passes over Seals, reads the same off the bare list
pub reads_bare : {A : Type 0} (F : List Deed → A) (step : Deed → A → A) → ((d : Deed) (h : List Deed) → F (d ∷ h) ≡ step d (F h)) → ((c : ℕ) (x : A) → step (Seal c) x ≡ x)
    → (h : List Deed) → F h ≡ F (bare h)
reads_bare F step each over [] = refl
reads_bare F step each over (d ∷ h) = grind (arith, nat_tests, reads_bare F step each over h)

pub halted_bare : (h : List Deed) → halted h ≡ halted (bare h)
halted_bare = reads_bare halted (λ d x. is_halt d || x) (λ d h. refl) (λ c x. refl)

pub issue_bare : (s : ℕ) (h : List Deed) → issue s h ≡ issue s (bare h)
issue_bare s = reads_bare (issue s) (λ d x. if releases s d then suc x else x) (λ d h. refl) (λ c x. refl)

pub opened_bare : (id : Speculation) (h : List Deed) → opened id h ≡ opened id (bare h)
opened_bare id = reads_bare (opened id) (λ d x. opens id d || x) (λ d h. refl) (λ c x. refl)

pub verdict_bare : (id : Speculation) (h : List Deed) → verdict id h ≡ verdict id (bare h)
verdict_bare id = reads_bare (verdict id) (λ d x. latest (ruling id d) x) (λ d h. refl) (λ c x. refl)

pub callers_bare : (id : Speculation) (h : List Deed) → callers id h ≡ callers id (bare h)
callers_bare id = reads_bare (callers id) (λ d x. joined (calls_on id d) x) (λ d h. refl) (λ c x. refl)

pub settled_bare : (c : ℕ) (id : Speculation) (h : List Deed) → settled c id h ≡ settled c id (bare h)
settled_bare c id = reads_bare (settled c id) (λ d x. settles c id d || x) (λ d h. refl) (λ a x. refl)

pub scan_bare : (k : Config) (c : ℕ) (h : List Deed) → scan k c h ≡ scan k c (bare h)
scan_bare k c = reads_bare (scan k c) (λ d x. scanned k c d x) (λ d h. refl) (λ a x. refl)

pub since_bare : (c s : ℕ) (h : List Deed) → opened_since c s h ≡ opened_since c s (bare h)
since_bare c s = reads_bare (opened_since c s) (λ d x. if is_scan c d then false else (opens_slot s d || x)) (λ d h. refl) (λ a x. refl)

pub ack_bare : (c s : ℕ) (h : List Deed) → ack c s h ≡ ack c s (bare h)
ack_bare c s = reads_bare (ack c s) (λ d x. if acks c s d then issue_of d + 1 else x) (λ d h. refl) (λ a x. refl)

pub solo_bare : (id : Speculation) (h : List Deed) → solo id h ≡ solo id (bare h)
solo_bare id h = λ i. solo_of (verdict_bare id h i) (callers_bare id h i)

pub present_bare : (s : ℕ) (h : List Deed) → present s h ≡ present s (bare h)
present_bare s h = λ i. record { issue = issue_bare s h i; slot = s }

pub author_bare : (d : Deed) (h : List Deed) → author d h ≡ author d (bare h)
author_bare d h = grind (arith, nat_tests, present_bare, solo_bare)

pub owing_bare : (d : Deed) (h : List Deed) → owing d h ≡ owing d (bare h)
owing_bare (Discard c j f) h = ap (λ cs. if is_discard f && is_sole c cs then j.slot else 0) (callers_bare j h)
owing_bare d h = refl

code_bare : (id : Speculation) (h : List Deed) → code_at id h ≡ code_at id (bare h)
code_bare id h = λ i. if opened_bare id h i then standing (verdict_bare id h i) (callers_bare id h i) else Inactive

word_bare : (s : ℕ) (h : List Deed) → word_at s h ≡ word_at s (bare h)
word_bare s h = ap (λ (j : Speculation). record { issue = j.issue; code = code_at j h }) (present_bare s h) ∙ ap (λ x. record { issue = issue s (bare h); code = x }) (code_bare (present s (bare h)) h)

-- the Seals show nothing of what is read off all deeds
pub shows_bare : (h : List Deed) → ShowsAlike h (bare h)
shows_bare h = grind (arith, nat_tests, halted_bare, word_bare, ack_bare, opened_bare, verdict_bare, callers_bare, solo_bare, settled_bare)
