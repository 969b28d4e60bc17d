-- What the bytes of a ring are after some of them went, or more came.
use Rattle.std.proofs.Common.{◌≡◌, ℕ, ◌+◌, ◌-◌, ◌<◌, ◌≤◌, ◌⊎◌, inl, inr, List, [], ◌++◌, length, take, drop, refl, sym, ap, ◌∙◌, arith, length-append, length-drop}
use Rattle.std.proofs.lemmas.List.{append_assoc, append-nil, drop-append-le, drop-drop, drop_all, drop_at, length-take, length-take-le, take_all, take_at}
use Rattle.std.proofs.lemmas.Slice.{drop-append-drop}
use Rattle.dspec_parking.specs.Words.{laid_from}

-- it has as many as are used
pub length-laid : (bs : List ℕ) (size start used : ℕ) → length bs ≤ size → start ≤ length bs → used ≤ size → (length bs ≡ size) ⊎ (start + used ≡ length bs)
    → length (laid_from bs size start used) ≡ used
length-laid bs size start used long from fits (inl full) =
    omega (
      arith,
      full,
      length-append (drop start (take (start + used) bs)) (take (start + used - size) bs),
      length-drop start (take (start + used) bs),
      length-take (start + used) bs,
      length-take (start + used - size) bs,
    )
length-laid bs size start used long from fits (inr last) =
    omega (
      arith,
      last,
      length-append (drop start (take (start + used) bs)) (take (start + used - size) bs),
      length-drop start (take (start + used) bs),
      length-take (start + used) bs,
      length-take (start + used - size) bs,
    )

-- what is used is laid out
pub inside-laid : (bs : List ℕ) (size start used n : ℕ) → n ≤ used → start + n ≤ size → (length bs ≡ size) ⊎ (start + used ≡ length bs) → start + n ≤ length bs
inside-laid bs size start used n some inside (inl full) = omega arith
inside-laid bs size start used n some inside (inr last) = omega arith

-- where what is used reaches the end of the memory, all of that is
pub full-laid : (bs : List ℕ) (size start used : ℕ) → length bs ≤ size → size ≤ start + used → (length bs ≡ size) ⊎ (start + used ≡ length bs) → length bs ≡ size
full-laid bs size start used long reach (inl full) = full
full-laid bs size start used long reach (inr last) = omega arith

-- the first ones go, before the end of the memory
pub drop-before : (bs : List ℕ) (size start used n : ℕ) → n ≤ used → start + n ≤ length bs → laid_from bs size (start + n) (used - n) ≡ drop n (laid_from bs size start used)
drop-before bs size start used n some before =
    let front = drop start (take (start + used) bs) in
    let back = take (start + used - size) bs in
    let same : start + n + (used - n) ≡ start + used = omega arith in
    let long : n ≤ length front = omega (arith, length-drop start (take (start + used) bs), length-take (start + used) bs) in
    ap (λ (k : ℕ). drop (start + n) (take k bs) ++ take (k - size) bs) same ∙ ap (λ (l : List ℕ). l ++ back) (sym (drop-drop n start (take (start + used) bs)))
    ∙ sym (drop-append-le n front back long)

-- all up to the end of the memory go, and some from its beginning on
pub drop-round : (bs : List ℕ) (size start used n rest : ℕ) → start + rest ≡ size → length bs ≡ size → used ≤ size → rest ≤ n → n ≤ used
    → laid_from bs size (n - rest) (used - n) ≡ drop n (laid_from bs size start used)
drop-round bs size start used n rest rests full fits over some =
    let front = drop start (take (start + used) bs) in
    let back = take (start + used - size) bs in
    let all : take (start + used) bs ≡ bs = take_all (start + used) bs (omega arith) in
    let long : length front ≡ rest = omega (arith, length-drop start (take (start + used) bs), ap length all) in
    let ends : n - rest + (used - n) ≡ start + used - size = omega arith in
    let none : n - rest + (used - n) - size ≡ 0 = omega arith in
    let after : drop (rest + (n - rest)) (front ++ back) ≡ drop (n - rest) back =
    sym (drop-drop (n - rest) rest (front ++ back)) ∙ ap (λ (l : List ℕ). drop (n - rest) l) (drop_at front back rest long) in
    let whole : rest + (n - rest) ≡ n = omega arith in
    ap (λ (k : ℕ). drop (n - rest) (take (n - rest + (used - n)) bs) ++ take k bs) none ∙ append-nil (drop (n - rest) (take (n - rest + (used - n)) bs))
    ∙ ap (λ (k : ℕ). drop (n - rest) (take k bs)) ends ∙ sym after ∙ ap (λ (k : ℕ). drop k (front ++ back)) whole

-- what is put at a place, among what is there or after it
abbrev pub put_in : ℕ → List ℕ → List ℕ → List ℕ
put_in at more bs = take at bs ++ more ++ drop (at + length more) bs

-- up to the end of what was put
take-put : (at : ℕ) (more bs : List ℕ) → at ≤ length bs → take (at + length more) (put_in at more bs) ≡ take at bs ++ more
take-put at more bs from =
    take_at (take at bs ++ more) (drop (at + length more) bs) (at + length more) (omega (arith, length-append (take at bs) more, length-take at bs))

-- more come, with room before the end of the memory
pub put-before : (bs : List ℕ) (size start used : ℕ) (more : List ℕ) → start + used ≤ length bs → start + used + length more ≤ size
    → laid_from (put_in (start + used) more bs) size start (used + length more) ≡ laid_from bs size start used ++ more
put-before bs size start used more from fits =
    let end = start + used in
    let long : length (take end bs) ≡ end = length-take-le end bs from in
    let none : end - size ≡ 0 = omega arith in
    let none_then : start + (used + length more) - size ≡ 0 = omega arith in
    let ends : start + (used + length more) ≡ end + length more = omega arith in
    let was : laid_from bs size start used ≡ drop start (take end bs) = ap (λ (k : ℕ). drop start (take end bs) ++ take k bs) none ∙ append-nil (drop start (take end bs)) in
    ap (λ (k : ℕ). drop start (take (start + (used + length more)) (put_in end more bs)) ++ take k (put_in end more bs)) none_then
    ∙ append-nil (drop start (take (start + (used + length more)) (put_in end more bs)))
    ∙ ap (λ (k : ℕ). drop start (take k (put_in end more bs))) ends ∙ ap (λ (l : List ℕ). drop start l) (take-put end more bs from)
    ∙ drop-append-le start (take end bs) more (omega arith) ∙ ap (λ (l : List ℕ). l ++ more) (sym was)

-- more come, some of them up to the end of the memory and the others from its beginning on
pub put-round : (bs : List ℕ) (size start used : ℕ) (here there : List ℕ) → start + used ≤ length bs → length bs ≤ size → start + used + length here ≡ size → used + length here + length there ≤ size
    → laid_from (put_in 0 there (put_in (start + used) here bs)) size start (used + (length here + length there)) ≡ laid_from bs size start used ++ (here ++ there)
put-round bs size start used here there from long reach fits =
    let end = start + used in
    let mid = put_in end here bs in
    let none : end - size ≡ 0 = omega arith in
    let nothing : drop (end + length here) bs ≡ [] = drop_all (end + length here) bs (omega arith) in
    let mid_is : mid ≡ take end bs ++ here = ap (λ (l : List ℕ). take end bs ++ here ++ l) nothing ∙ append-nil (take end bs ++ here) in
    let taken : length (take end bs) ≡ end = length-take-le end bs from in
    let full : length mid ≡ size = omega (arith, ap length mid_is, length-append (take end bs) here) in
    let last = put_in 0 there mid in
    let zero : 0 + length there ≡ length there = omega arith in
    let last_is : last ≡ there ++ drop (length there) mid = ap (λ (k : ℕ). there ++ drop k mid) zero in
    let full_then : length last ≡ size = omega (arith, ap length last_is, length-append there (drop (length there) mid), length-drop (length there) mid) in
    let all : take (start + (used + (length here + length there))) last ≡ last = take_all (start + (used + (length here + length there))) last (omega arith) in
    let ends : start + (used + (length here + length there)) - size ≡ length there = omega arith in
    let front : drop start last ≡ drop start (take end bs) ++ here =
    ap (λ (l : List ℕ). drop start l) last_is ∙ drop-append-drop (length there) mid there start (omega arith) refl
    ∙ ap (λ (l : List ℕ). drop start l) mid_is ∙ drop-append-le start (take end bs) here (omega arith) in
    let was : laid_from bs size start used ≡ drop start (take end bs) = ap (λ (k : ℕ). drop start (take end bs) ++ take k bs) none ∙ append-nil (drop start (take end bs)) in
    ap (λ (l : List ℕ). drop start l ++ take (start + (used + (length here + length there)) - size) last) all
    ∙ ap (λ (k : ℕ). drop start last ++ take k last) ends ∙ ap (λ (l : List ℕ). drop start last ++ take (length there) l) last_is
    ∙ ap (λ (l : List ℕ). drop start last ++ l) (take_at there (drop (length there) mid) (length there) refl)
    ∙ ap (λ (l : List ℕ). l ++ there) front ∙ append_assoc (drop start (take end bs)) here there ∙ ap (λ (l : List ℕ). l ++ (here ++ there)) (sym was)

-- more come, and the newest one was before the oldest
pub put-after : (bs : List ℕ) (size start used end : ℕ) (more : List ℕ) → length bs ≡ size → size + end ≡ start + used → end + length more ≤ start → start ≤ size
    → laid_from (put_in end more bs) size start (used + length more) ≡ laid_from bs size start used ++ more
put-after bs size start used end more full ends_at fits from =
    let then = put_in end more bs in
    let long : length then ≡ size =
    omega (arith, length-append (take end bs ++ more) (drop (end + length more) bs), length-append (take end bs) more, length-take end bs, length-drop (end + length more) bs) in
    let all : take (start + used) bs ≡ bs = take_all (start + used) bs (omega arith) in
    let all_then : take (start + (used + length more)) then ≡ then = take_all (start + (used + length more)) then (omega arith) in
    let ends : start + used - size ≡ end = omega arith in
    let ends_then : start + (used + length more) - size ≡ end + length more = omega arith in
    let put : length (take end bs ++ more) ≡ end + length more = omega (arith, length-append (take end bs) more, length-take end bs) in
    let front : drop start then ≡ drop start bs = drop-append-drop (end + length more) bs (take end bs ++ more) start fits put in
    let was : laid_from bs size start used ≡ drop start bs ++ take end bs =
    ap (λ (l : List ℕ). drop start l ++ take (start + used - size) bs) all ∙ ap (λ (k : ℕ). drop start bs ++ take k bs) ends in
    ap (λ (l : List ℕ). drop start l ++ take (start + (used + length more) - size) then) all_then ∙ ap (λ (k : ℕ). drop start then ++ take k then) ends_then
    ∙ ap (λ (l : List ℕ). drop start then ++ l) (take-put end more bs (omega arith)) ∙ ap (λ (l : List ℕ). l ++ (take end bs ++ more)) front
    ∙ sym (append_assoc (drop start bs) (take end bs) more) ∙ ap (λ (l : List ℕ). l ++ more) (sym was)
