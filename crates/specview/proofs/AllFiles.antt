-- The file of each CPU stands at its place.
use Rattle.std.proofs.Common.{◌≡◌, ℕ, ◌<◌, List, [], ◌∷◌, Option, Bool, true, false, if◌then◌else◌, Some, length, None, ◌==◌, slice_get, reverse, map, get_or, refl, sym, ap, ◌∙◌, subst, below_more}
use Rattle.std.proofs.Common.{⊎_elim, ◌⊎◌, zero, suc, add-one, arith}
use Rattle.std.proofs.lemmas.{Bool.Decides.nat_tests, List.length-append, List.length-map, List.get_or_append_left, List.get_or_at, List.get_or_default, List.get_or-map}
use Rattle.std.proofs.lemmas.{Option.get_or_from_slice_get, Option.slice_get_within}
use Rattle.specview.specs.Words.{Record, EnabledRows, numbers_below, reports, stream, Offer, accepts, accepts_now, report, IsLegal, TellsCounts, AreStreams, AsTaken, ByTime, Numbered, MetadataFault}
use Rattle.specview.specs.Words.{HasUnknown, IsFileFault, IsOfNumbered, IsPlayTraceFault, fault_of_metadata, earlier, form_fault, names_fault, Header, Deed, Report, Form, Shape, Config}
use Rattle.specview.specs.declared.fault.ViewFault.{ViewFault, TheVariants.NoStamp, TheVariants.NoEvent, TheVariants.Memory}
use Rattle.dspec_record.specs.declared.header.Header.TheVariants as header
use Rattle.dspec_deeds.proofs.{DeedEffects.Accounts, DeedEffects.legal_accounts, DeedOffers.next_offer, DeedOffers.Effect, DeedOffers.idle, DeedOffers.offering, DeedOffers.emptying}
use Rattle.dspec_ctf.specs.declared.fault.MetadataFault.TheVariants as metadata_fault

below_long : (n : ℕ) → length (numbers_below n) ≡ n
below_long zero = refl
below_long (suc n) = let before = below_long n in let long = length-append (numbers_below n) (n ∷ []) in omega arith

below_at : (n c d : ℕ) → c < n → get_or (numbers_below n) c d ≡ c
below_at zero c d lt = absurd (omega arith)
below_at (suc n) c d lt =
    below_more (λ k. get_or (numbers_below (suc n)) k d ≡ k) n
    (λ k less. get_or_append_left (numbers_below n) (n ∷ []) d k (let long = below_long n in omega arith) ∙ below_at n k d less)
    (get_or_at (numbers_below n) n [] d n (below_long n))
    c (subst (λ m. c < m) (sym (add-one n)) lt)

-- a list of something of each CPU
module _ {X : Type 0} (f : ℕ → X) (n : ℕ) (xs : List X) (are : xs ≡ map f (numbers_below n)) where
  pub mapped_long : length xs ≡ n
  mapped_long = ap length are ∙ (length-map (numbers_below n) f ∙ below_long n)

  mapped_at : (c : ℕ) (x : X) → c < n → get_or xs c x ≡ f c
  mapped_at c x lt =
      let within : c < length (numbers_below n) = subst (λ m. c < m) (sym (below_long n)) lt in
      ap (λ l. get_or l c x) are ∙ (get_or-map f (numbers_below n) c 0 x within ∙ ap f (below_at n c 0 lt))

-- the records of a CPU are its stream
pub stream_at : (cpus c : ℕ) (deeds : List Deed) (rss : List (List Record)) (rs : List Record) → AreStreams cpus deeds rss → c < cpus → rs ≡ get_or rss c rs → rs ≡ stream c (reverse deeds)
stream_at cpus c deeds rss rs streams lt is = is ∙ mapped_at (λ a. stream a (reverse deeds)) cpus rss streams c rs lt

-- why there is no file is why there is no trace
pub no_trace : (form : Form) (e : EnabledRows) (rss : List (List Record)) (rs : List Record) (c : ℕ) (fault : ViewFault) → c < length rss → rs ≡ get_or rss c rs
    → IsFileFault form e rs fault → IsPlayTraceFault form e rss fault
no_trace form e rss rs c NoStamp lt is why = why
no_trace form e rss rs c (NoEvent epid) lt is why = (c, subst (HasUnknown e epid) (is ∙ get_or_default rss c rs [] lt) why)
no_trace form e rss rs c Memory lt is why = why
no_trace form e rss rs c fault lt is why = absurd why

-- a deed tells how many records it brought
one_or_none : (b : Bool) (os : List Offer) → (if b then length os else 0) ≡ length (if b then os else [])
one_or_none true os = refl
one_or_none false os = refl

effect_told : (c : ℕ) (d : Deed) (h : List Deed) → Effect c d h → accepts_now c d ≡ length (accepts c d h)
effect_told = grind (arith, nat_tests, idle, offering, one_or_none, next_offer, emptying)

accounts_told : (c : ℕ) (h : List Deed) → Accounts c h → TellsCounts c h
accounts_told c [] a = tt
accounts_told c (d ∷ h) a = (accounts_told c h a.0, effect_told c d h a.1)

pub legal_told : (shape : ℕ → Option Shape) (k : Config) (c : ℕ) (h : List Deed) → IsLegal shape k h → TellsCounts c h
legal_told shape k c h legal = accounts_told c h (legal_accounts shape k c h legal.0)

-- the report at a place is that CPU's
pub report_at : (k : Config) (worn : ℕ → ℕ) (h : List Deed) (reps : List Report) (c : ℕ) (p : Report) → reps ≡ reports k worn h → slice_get reps c ≡ Some p → p ≡ report k c (worn c) h
report_at k worn h reps c p are at =
    let f : ℕ → Report = λ a. report k a (worn a) h in
    let within = slice_get_within reps c p at in
    let long = mapped_long f k.cpus reps are in
    sym (get_or_from_slice_get reps c p p at) ∙ mapped_at f k.cpus reps are c p (omega arith)

of_clock : (form : Form) (e : EnabledRows) (f : MetadataFault) → fault_of_metadata form e Numbered ≡ Some f → IsOfNumbered f
unfolding fault_of_metadata form_fault names_fault
of_clock AsTaken e f is = absurd (cc (is))
of_clock (ByTime hertz) e f is = by_header e.header is
  where
    by_frequency : (b : Bool) → earlier (if b then Some metadata_fault.NoFrequency else None) None ≡ Some f → IsOfNumbered f
    by_frequency true is = let same : metadata_fault.NoFrequency ≡ f = cc in subst IsOfNumbered same tt
    by_frequency false is = absurd (cc (is))

    by_header : (h : Header) → earlier (form_fault (ByTime hertz) h) None ≡ Some f → IsOfNumbered f
    by_header header.One is = let same : metadata_fault.NoStamp ≡ f = cc in subst IsOfNumbered same tt
    by_header header.Two is = by_frequency (hertz == 0) is

-- where names are numbered, and no process is told, there are few faults of the metadata
pub of_numbered : (form : Form) (e : EnabledRows) (f : MetadataFault) → (f ≡ metadata_fault.Memory) ⊎ (fault_of_metadata form e Numbered ≡ Some f) → IsOfNumbered f
of_numbered form e f why = ⊎_elim (λ memory. subst IsOfNumbered (sym memory) tt) (λ is. of_clock form e f is) why
