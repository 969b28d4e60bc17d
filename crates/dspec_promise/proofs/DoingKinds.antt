-- What a deed may do for a CPU, as the page tells it, and that the deeds of others do nothing.
use Rattle.std.proofs.Common.{arith, ◌≡◌, ◌⊎◌, ℕ, true, false, if◌then◌else◌, List, [], ◌∷◌, ◌++◌, map, length, Option, None, Some}
use Rattle.std.proofs.lemmas.Bool.Decides.{nat_tests}
use Rattle.dspec_promise.specs.Words.{Speculation, offered_by, empties, buffer, traces_dropped_now, specdrops_now, done_by, By, Did, emptied, RecordFate, taken, dropped, specdropped, lost}
use Rattle.dspec_promise.specs.Words.{discarded, void, held, emptied_fate, same_fate, HandedRecord, once_emptied, handed, held_for, cpu_stream, TellNumbers, IsFate, DecideFate, Deed}
use Rattle.dspec_deeds.specs.declared.deed.DecideFate.TheVariants as decide
use Rattle.dspec_deeds.specs.Fates as told
use Rattle.dspec_deeds.proofs.DeedOffers.{Idle, Offers, Empties, Effect, idle, offering, emptying}
use Rattle.dspec_deeds.proofs.TestLemmas.{off, id_is_itself}
use Rattle.dspec_promise.proofs.Emptying.{one, nothing_emptied}

-- the fate as the list of deeds tells it
abbrev pub as_told : RecordFate → Option Speculation → told.Fate
as_told taken x = told.taken
as_told dropped x = told.dropped
as_told specdropped x = told.dropped
as_told lost x = told.dropped
as_told discarded x = told.discarded
as_told void x = told.void
as_told held (Some id) = told.waiting id
as_told held None = told.void

-- what must have been decided where a record for the speculation has such a fate
abbrev pub IsDue : List Deed → Speculation → RecordFate → Type 0
IsDue h id taken = told.has_commit id h ≡ true
IsDue h id lost = told.has_commit id h ≡ true
IsDue h id discarded = told.has_discard id h ≡ true
IsDue h id f = Unit {0}

-- nothing
pub record DoesNothing (c : ℕ) (d : Deed) (h : List Deed) : Type 0 where
  pub idle : Idle c d h
  pub made : (ds : List Did) → handed (done_by c d ++ ds) ≡ handed ds
  pub streamed : (ds : List Did) → cpu_stream (done_by c d ++ ds) ≡ cpu_stream ds
  pub numbers : (ds : List Did) → TellNumbers ds → TellNumbers (done_by c d ++ ds)
  pub drops : traces_dropped_now c d ≡ 0
  pub specdrops : specdrops_now c d ≡ 0

-- it offers this record
pub record DoesOffer (c : ℕ) (d : Deed) (h : List Deed) (o : HandedRecord) : Type 0 where
  pub offering : Offers c d h o.content (as_told o.fate o.to)
  pub fate : IsFate o.fate o.to (as_told o.fate o.to)
  pub to : told.offered_to d ≡ o.to
  pub made : (ds : List Did) → handed (done_by c d ++ ds) ≡ o ∷ handed ds
  pub streamed : (ds : List Did) → cpu_stream (done_by c d ++ ds) ≡ (if same_fate taken o.fate then o.content ∷ cpu_stream ds else cpu_stream ds)
  pub numbers : (ds : List Did) → TellNumbers ds → TellNumbers (done_by c d ++ ds)
  pub drops : traces_dropped_now c d ≡ one (same_fate dropped o.fate)
  pub specdrops : specdrops_now c d ≡ one (same_fate specdropped o.fate)
  pub follows : (id : Speculation) → o.to ≡ Some id → IsDue (d ∷ h) id o.fate

-- it empties the buffer of this speculation
pub record DoesEmpty (c : ℕ) (d : Deed) (h : List Deed) (id : Speculation) (f : DecideFate) : Type 0 where
  pub emptying : Empties c d h id (as_told (emptied_fate f) None)
  pub gone : same_fate held (emptied_fate f) ≡ false
  pub fate : (x : Option Speculation) → IsFate (emptied_fate f) x (as_told (emptied_fate f) None)
  pub made : (ds : List Did) → handed (done_by c d ++ ds) ≡ map (once_emptied id f) (handed ds)
  pub streamed : (ds : List Did) → cpu_stream (done_by c d ++ ds) ≡ (if same_fate taken (emptied_fate f) then held_for id (handed ds) ++ cpu_stream ds else cpu_stream ds)
  pub numbers : (ds : List Did) → TellNumbers ds → length (buffer c id h) ≡ length (held_for id (handed ds)) → TellNumbers (done_by c d ++ ds)
  pub drops : traces_dropped_now c d ≡ 0
  pub specdrops : specdrops_now c d ≡ 0
  pub fresh : (same_fate dropped (emptied_fate f) ≡ false) × (same_fate specdropped (emptied_fate f) ≡ false)
  pub follows : IsDue (d ∷ h) id (emptied_fate f)

pub data Does (c : ℕ) (d : Deed) (h : List Deed) : Type 0 where
  nothing : DoesNothing c d h → Does c d h
  offers_one : (o : HandedRecord) → DoesOffer c d h o → Does c d h
  empties_one : (id : Speculation) (f : DecideFate) → DoesEmpty c d h id f → Does c d h

-- a deed that neither offers nor empties is idle
idle_of : (c : ℕ) (d : Deed) (h : List Deed) → Effect c d h → offered_by c d ≡ None → ((id : Speculation) → empties c id d ≡ false) → Idle c d h
idle_of = grind (arith, nat_tests, idle, offering, emptying, off, id_is_itself)

-- a deed of another CPU
pub does_not : (c : ℕ) (d : Deed) (h : List Deed) → Effect c d h → offered_by c d ≡ None → ((id : Speculation) → empties c id d ≡ false) → done_by c d ≡ []
    → traces_dropped_now c d ≡ 0 → specdrops_now c d ≡ 0 → DoesNothing c d h
does_not c d h e none never is drops specdrops = grind (arith, nat_tests, idle, idle_of)

-- a decision that decides nothing
pub does_not_decide : (c : ℕ) (d : Deed) (h : List Deed) (b : By) (id : Speculation) (f : DecideFate) → Effect c d h → offered_by c d ≡ None → ((id : Speculation) → empties c id d ≡ false)
    → done_by c d ≡ emptied b id f ∷ [] → (f ≡ decide.Void) ⊎ (f ≡ decide.Stopped) → traces_dropped_now c d ≡ 0 → specdrops_now c d ≡ 0 → DoesNothing c d h
does_not_decide c d h b id f e none never is which drops specdrops = grind (arith, nat_tests, idle, idle_of, nothing_emptied)
