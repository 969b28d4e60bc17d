-- Files that are held have what was written to them.
use Rattle.std.proofs.Common.{◌≡◌, ◌≢◌, ℕ, zero, suc, ◌⊎◌, inl, inr, ⊎_elim, List, [], ◌∷◌, ◌++◌, ap, sym, refl, subst, ◌∙◌, append_assoc, arith, slice_get, slice_set, length, All, Some, None}
use Rattle.std.proofs.Common.{Option, true, false, Bool, ◌&&◌, if◌then◌else◌, bytes_eq, is_none, Decides}
use Rattle.std.proofs.lemmas.{Bool.Decides.nat_tests, Grind.flat_map-append, List.append-nil, Option.slice_get_within, Option.get_or_from_slice_get, Slice.Eq.bytes_eq-Decides}
use Rattle.std.specs.Io.KnownBytes.{Appends, Keeps}
use Rattle.dspec_ctf_sink.specs.Words.{FileWrite, brought_to, file_of, FilesHave, KeepsInFront, HasWritten, HaveBesides, Held, IsNotAmong, LeavesFile}
use Rattle.dspec_ctf_sink.specs.declared.fault.FolderFault.{FolderFault}
use Rattle.dspec_deeds.proofs.Places.{got_set, got_other}

-- ---- places

-- a place of a list of which one place was written has that, or what it had
set_cases : {A : Type 0} (xs : List A) (i j : ℕ) (y x : A) → slice_get (slice_set xs i y) j ≡ Some x → ((j ≡ i) × (y ≡ x)) ⊎ ((j ≢ i) × (slice_get xs j ≡ Some x))
set_cases [] i j y x e = absurd (cc (e))
set_cases (z ∷ xs) zero zero y x e = inl (refl, cc (e))
set_cases (z ∷ xs) zero (suc j) y x e = inr (λ s. omega (arith, s), e)
set_cases (z ∷ xs) (suc i) zero y x e = inr (λ s. omega (arith, s), e)
set_cases (z ∷ xs) (suc i) (suc j) y x e = ⊎_elim (λ h. inl (ap suc h.0, h.1)) (λ h. inr (λ s. h.0 (omega (arith, s)), h.1)) (set_cases xs i j y x e)

-- where one was pushed, a place has what it had, or the last has that one
push_cases : {A : Type 0} (xs : List A) (y : A) (j : ℕ) (x : A) → slice_get (xs ++ y ∷ []) j ≡ Some x → (slice_get xs j ≡ Some x) ⊎ ((j ≡ length xs) × (y ≡ x))
push_cases [] y zero x e = inr (refl, cc (e))
push_cases [] y (suc j) x e = absurd (cc (e))
push_cases (z ∷ xs) y zero x e = inl e
push_cases (z ∷ xs) y (suc j) x e = ⊎_elim (λ h. inl h) (λ h. inr (ap suc h.0, h.1)) (push_cases xs y j x e)

got_front : {A : Type 0} (xs ys : List A) (j : ℕ) (x : A) → slice_get xs j ≡ Some x → slice_get (xs ++ ys) j ≡ Some x
got_front [] ys j x e = absurd (cc (e))
got_front (z ∷ xs) ys zero x e = e
got_front (z ∷ xs) ys (suc j) x e = got_front xs ys j x e

same_place : (a b : ℕ) → (a ≡ b) ⊎ (a ≢ b)
same_place a b = grind (arith, nat_tests)

pub none_among : (files : List Held) (name : List ℕ) → All (λ file. file.name ≢ name) files → IsNotAmong files name
none_among files name all place file got e =
    all place file (slice_get_within files place file got) (ap (λ (x : Held). x.name) (get_or_from_slice_get files place file file got) ∙ e)

-- ---- what a write brings

neither : (a b : Bool) (xs : List ℕ) → b ≡ false → (if (a && b) then xs else []) ≡ []
neither = grind (arith, nat_tests)

both : (b : Bool) (xs : List ℕ) → b ≡ true → (if (true && b) then xs else []) ≡ xs
both true xs e = refl
both false xs e = absurd (cc (e))

is_not : {P : Type 0} (r : Bool) → Decides r P → (P → ⊥) → r ≡ false
is_not true d refutes = absurd (refutes (d.0 refl))
is_not false d refutes = refl

is_so : {P : Type 0} (r : Bool) → Decides r P → P → r ≡ true
is_so r d p = d.1 p

pub brought_elsewhere : (name : List ℕ) (w : FileWrite) → w.name ≢ name → brought_to name w ≡ []
brought_elsewhere name w apart = neither (is_none w.refused) (bytes_eq w.name name) w.bytes (is_not (bytes_eq w.name name) (bytes_eq-Decides w.name name) apart)

pub brought_whole : (name other bytes : List ℕ) → name ≡ other → brought_to other (record { name = name; bytes = bytes; refused = None }) ≡ bytes
brought_whole name other bytes e = both (bytes_eq name other) bytes (is_so (bytes_eq name other) (bytes_eq-Decides name other) e)

pub file_of_more : (name : List ℕ) (writes : List FileWrite) (w : FileWrite) → file_of name (writes ++ w ∷ []) ≡ file_of name writes ++ brought_to name w
file_of_more name writes w = flat_map-append (brought_to name) writes (w ∷ []) ∙ ap (λ xs. file_of name writes ++ xs) (append-nil (brought_to name w))

file_of_same : (name : List ℕ) (writes : List FileWrite) (w : FileWrite) → brought_to name w ≡ [] → file_of name (writes ++ w ∷ []) ≡ file_of name writes
file_of_same name writes w none = file_of_more name writes w ∙ ap (λ xs. file_of name writes ++ xs) none ∙ append-nil (file_of name writes)

-- ---- files

-- no file was written, and the write brought none anything
pub asks_in_vain : (files : List Held) (name bytes : List ℕ) (fault : FolderFault) → HaveBesides files (record { name = name; bytes = bytes; refused = Some fault }) files
asks_in_vain files name bytes fault = grind (arith, nat_tests, file_of_same)

-- a file that has no bytes yet is there besides
pub one_file_more : (files : List Held) (file : Held) (writes : List FileWrite) → file.bytes ≡ Some [] → IsNotAmong files file.name → FilesHave files writes
    → FilesHave (files ++ file ∷ []) writes
one_file_more files file writes empty none has = record {
  each = λ place f got. ⊎_elim (λ h. has.each place f h)
      (λ h. subst (λ (x : Held). HasWritten x (file_of x.name writes)) h.1 (record {
        more = [];
        has = empty ∙ ap (λ xs. Some (xs ++ [])) (sym (has.others file.name none));
        whole = λ _. refl;
      }))
      (push_cases files file place f got);
  apart = λ a b f g ga gb same. ⊎_elim
      (λ h. ⊎_elim (λ k. has.apart a b f g h k same) (λ k. absurd (none a f h (same ∙ ap (λ (x : Held). x.name) (sym k.1)))) (push_cases files file b g gb))
      (λ h. ⊎_elim (λ k. absurd (none b g k (sym same ∙ ap (λ (x : Held). x.name) (sym h.1)))) (λ k. h.0 ∙ sym k.0) (push_cases files file b g gb))
      (push_cases files file a f ga);
  others = λ name beyond. has.others name (λ place f got. beyond place f (got_front files (file ∷ []) place f got));
}

module _ (files : List Held) (place : ℕ) (old new : Held) (w : FileWrite) (got : slice_get files place ≡ Some old) (named : new.name ≡ old.name) (whose : w.name ≡ old.name) where
  named_as : (q : ℕ) (f : Held) → slice_get (slice_set files place new) q ≡ Some f → (g : Held) × ((slice_get files q ≡ Some g) × (g.name ≡ f.name))
  named_as q f g = grind (arith, nat_tests, set_cases)

  got_new : slice_get (slice_set files place new) place ≡ Some new
  got_new = got_set files place new (slice_get_within files place old got)

  not_before : (name : List ℕ) → IsNotAmong (slice_set files place new) name → IsNotAmong files name
  not_before name none = grind (arith, nat_tests, got_new, got_other, same_place)

  -- one file has what the write brought it
  pub one_file_has : ((bytes : List ℕ) → HasWritten old bytes → HasWritten new (bytes ++ brought_to old.name w)) → HaveBesides files w (slice_set files place new)
  one_file_has grows writes has = record {
    each = λ q f g. ⊎_elim
        (λ h. subst (λ (x : Held). HasWritten x (file_of x.name (writes ++ w ∷ []))) h.1
        (subst (λ n. HasWritten new (file_of n (writes ++ w ∷ []))) (sym named)
        (subst (λ xs. HasWritten new xs) (sym (file_of_more old.name writes w)) (grows (file_of old.name writes) (has.each place old got)))))
        (λ h. subst (λ xs. HasWritten f xs) (sym (file_of_same f.name writes w (brought_elsewhere f.name w (λ e. h.0 (has.apart q place f old h.1 got (sym e ∙ whose)))))) (has.each q f h.1))
        (set_cases files place q new f g);
    apart = λ a b f g ga gb same.
        let x = named_as a f ga in
        let y = named_as b g gb in
        has.apart a b x.0 y.0 x.1.0 y.1.0 (x.1.1 ∙ same ∙ sym y.1.1);
    others = λ name none.
        file_of_same name writes w (brought_elsewhere name w (λ e. none place new got_new (named ∙ sym whose ∙ e))) ∙ has.others name (not_before name none);
  }

-- ---- one file

appended : (a b : Option (List ℕ)) (xs bytes : List ℕ) → a ≡ Some xs → Appends a b bytes → b ≡ Some (xs ++ bytes)
appended None b xs bytes e h = absurd (cc (e))
appended (Some ys) None xs bytes e h = elim h [ ]
appended (Some ys) (Some zs) xs bytes e h = grind (arith, nat_tests)

kept_bytes : (a b : Option (List ℕ)) (xs : List ℕ) → a ≡ Some xs → Keeps a b → b ≡ Some xs
kept_bytes None b xs e h = absurd (cc (e))
kept_bytes (Some ys) None xs e h = elim h [ ]
kept_bytes (Some ys) (Some zs) xs e h = ap Some h ∙ e

-- a file that is whole now was whole before, where a broken one stays as it is
was_whole : (old new : Held) → (old.broken ≡ true → new ≡ old) → new.broken ≡ false → old.broken ≡ false
was_whole old new stays whole = grind (arith, nat_tests)

pub has_more : (old new : Held) (name bytes xs : List ℕ) → name ≡ old.name → Appends old.bytes new.bytes bytes → new.broken ≡ false → (old.broken ≡ true → new ≡ old)
    → HasWritten old xs → HasWritten new (xs ++ brought_to old.name (record { name = name; bytes = bytes; refused = None }))
has_more old new name bytes xs named more whole stays has = grind (arith, nat_tests, was_whole, append-nil, appended, brought_whole)

has_same : (old new : Held) (xs : List ℕ) → Keeps old.bytes new.bytes → new.broken ≡ false → (old.broken ≡ true → new ≡ old) → HasWritten old xs → HasWritten new (xs ++ [])
has_same old new xs keeps whole stays has = grind (arith, nat_tests, was_whole, append-nil, kept_bytes)

has_broken : (old new : Held) (xs : List ℕ) → KeepsInFront old.bytes new.bytes → new.broken ≡ true → HasWritten old xs → HasWritten new (xs ++ [])
has_broken old new xs goes broken has = record {
  more = has.more ++ goes.0;
  has = appended old.bytes new.bytes (xs ++ has.more) goes.0 has.has goes.1
      ∙ ap Some (append_assoc xs has.more goes.0 ∙ ap (λ front. front ++ (has.more ++ goes.0)) (sym (append-nil xs)));
  whole = λ e. absurd (cc (e, broken));
}

pub has_left : (old new : Held) (name bytes xs : List ℕ) (fault : FolderFault) → LeavesFile old new fault → (old.broken ≡ true → new ≡ old) → HasWritten old xs
    → HasWritten new (xs ++ brought_to old.name (record { name = name; bytes = bytes; refused = Some fault }))
has_left = grind (arith, nat_tests, has_same, has_broken)
