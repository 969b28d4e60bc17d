-- The faults and the schedules of lines, one after the other.
use Rattle.std.proofs.Common.{◌≡◌, ℕ, ◌+◌, List, [], ◌∷◌, ◌++◌, length, Option, Some, None, option_map, Result, Ok, Err, refl, ap, sym, ◌∙◌, arith, IfOk, IfErr}
use Rattle.std.specs.{List.slice_split, Option.ok_or, Prelude.◌==◌}
use Rattle.dspec_schedule.specs.Words.{Plan, first_line_of, words_read, line_read, lines_read, without_empty_end, lines_of, schedule_of, configured, IsReadingFault, plan_of, ◌>>=◌, at_line}
use Rattle.dspec_schedule.specs.declared.fault.{LineKind.LineKind, LineKind.TheVariants.NoConfig, ScheduleFault.ScheduleFault, ScheduleFault.TheVariants.Line, ScheduleFault.TheVariants.Memory}
use Rattle.dspec_schedule.specs.declared.schedule.Schedule.{Schedule}

-- a step that has no fault of its own
IsReadingFault-then : {A B : Type 0} (line : ℕ) (r : Result A LineKind) (f : A → B) (fault : ScheduleFault)
    → IsReadingFault (at_line line r) fault → IsReadingFault (at_line line (r >>= λ x. Ok (f x))) fault
IsReadingFault-then line (Ok x) f (Line n k) h = absurd (cc)
IsReadingFault-then line (Ok x) f Memory h = tt
IsReadingFault-then line (Err e) f (Line n k) h = cc
IsReadingFault-then line (Err e) f Memory h = tt

pub words_read-first_fault : (so_far : Option Plan) (line : ℕ) (words : List (List ℕ)) (first : List ℕ) (rest : List (List ℕ)) (fault : ScheduleFault) → so_far ≡ None
    → words ≡ first ∷ rest → IsReadingFault (at_line line (first_line_of line first rest)) fault → IsReadingFault (at_line line (words_read so_far line words)) fault
unfolding words_read
words_read-first_fault so_far line words first rest fault none parts h =
    rw (none, parts) (IsReadingFault-then line (first_line_of line first rest) (λ p. Some p) fault h)

-- more lines after those that were read
read_on : (n : ℕ) (ps qs : List (List ℕ)) (t : Option Plan) (m : ℕ) (r : Result (Option Plan) LineKind) → (at_line n r >>= λ a. lines_read a (n + 1) ps) ≡ Ok t
    → ((a : Option Plan) → lines_read a (n + 1) ps ≡ Ok t → lines_read a (n + 1) (ps ++ qs) ≡ lines_read t m qs)
    → (at_line n r >>= λ a. lines_read a (n + 1) (ps ++ qs)) ≡ lines_read t m qs
read_on n ps qs t m (Ok a) h more = more a h
read_on n ps qs t m (Err k) h more = absurd (cc)

pub lines_read-append : (ps qs : List (List ℕ)) (s t : Option Plan) (n m : ℕ) → m ≡ n + length ps → lines_read s n ps ≡ Ok t
    → lines_read s n (ps ++ qs) ≡ lines_read t m qs
lines_read-append [] qs s t n m number h =
    let same : s ≡ t = cc in let here : n ≡ m = omega arith in
    ap (λ x. lines_read x n qs) same ∙ ap (λ k. lines_read t k qs) here
lines_read-append (p ∷ ps) qs s t n m number h =
    let next : m ≡ n + 1 + length ps = omega arith in
    read_on n ps qs t m (line_read s n p) h (λ a g. lines_read-append ps qs a t (n + 1) m next g)

pub lines_read-more : (ps : List (List ℕ)) (p : List ℕ) (s t u : Option Plan) (n m : ℕ) → m ≡ n + length ps → lines_read s n ps ≡ Ok t
    → line_read t m p ≡ Ok u → lines_read s n (ps ++ p ∷ []) ≡ Ok u
lines_read-more ps p s t u n m number h here = lines_read-append ps (p ∷ []) s t n m number h ∙ rw here refl

-- an empty line says nothing
line_read-empty : (s : Option Plan) (n : ℕ) → line_read s n [] ≡ Ok s
unfolding line_read words_read
line_read-empty s n = refl

lines_read-same : (n : ℕ) (ps qs : List (List ℕ)) (r : Result (Option Plan) LineKind) → ((a : Option Plan) → lines_read a (n + 1) ps ≡ lines_read a (n + 1) qs)
    → (at_line n r >>= λ a. lines_read a (n + 1) ps) ≡ (at_line n r >>= λ a. lines_read a (n + 1) qs)
lines_read-same n ps qs (Ok a) h = h a
lines_read-same n ps qs (Err k) h = refl

lines_read-without_end : (ps : List (List ℕ)) (s : Option Plan) (n : ℕ) → lines_read s n (without_empty_end ps) ≡ lines_read s n ps
lines_read-without_end [] s n = refl
lines_read-without_end ([] ∷ []) s n = rw (line_read-empty s n) refl
lines_read-without_end ((b ∷ bs) ∷ []) s n = refl
lines_read-without_end (p ∷ q ∷ ps) s n =
    lines_read-same n (without_empty_end (q ∷ ps)) (q ∷ ps) (line_read s n p) (λ a. lines_read-without_end (q ∷ ps) a (n + 1))

-- where a line of the text has a fault
pub schedule_of-fault : (text : List ℕ) (ps : List (List ℕ)) (p : List ℕ) (qs : List (List ℕ)) (t : Option Plan) (m : ℕ) (fault : ScheduleFault)
    → slice_split (λ byte. byte == 10) text ≡ ps ++ (p ∷ qs) → lines_read None 1 ps ≡ Ok t → m ≡ 1 + length ps
    → IsReadingFault (at_line m (line_read t m p)) fault → IsReadingFault (schedule_of text) fault
unfolding schedule_of
schedule_of-fault text ps p qs t m (Line n k) split so_far number h =
    let read : lines_read None 1 (lines_of text) ≡ Err (n, k) =
    lines_read-without_end (slice_split (λ byte. byte == 10) text) None 1 ∙ ap (lines_read None 1) split ∙ lines_read-append ps (p ∷ qs) None t 1 m number so_far
    ∙ ap (λ r. r >>= λ after. lines_read after (m + 1) qs) h in
    ap (λ r. r >>= λ found. configured (length (lines_of text) + 1) found) read
schedule_of-fault text ps p qs t m Memory split so_far number h = tt

-- where all lines were read
schedule_of-whole : (text : List ℕ) (ps : List (List ℕ)) (o : Option Plan) (next_line : ℕ) → ps ≡ slice_split (λ byte. byte == 10) text
    → lines_read None 1 ps ≡ Ok o → next_line ≡ length (without_empty_end ps) + 1 → schedule_of text ≡ configured next_line o
unfolding schedule_of
schedule_of-whole text ps o next_line split so_far number =
    let read : lines_read None 1 (lines_of text) ≡ Ok o =
    lines_read-without_end (slice_split (λ byte. byte == 10) text) None 1 ∙ ap (lines_read None 1) (sym split) ∙ so_far in
    let count : length (lines_of text) + 1 ≡ next_line = ap (λ l. length (without_empty_end l) + 1) (sym split) ∙ sym number in
    ap (λ r. r >>= λ found. configured (length (lines_of text) + 1) found) read ∙ ap (λ n. configured n o) count

pub schedule_of-end : (text : List ℕ) (ps : List (List ℕ)) (o : Option Schedule) (next_line : ℕ) (r : Result Schedule ScheduleFault) → r ≡ ok_or o (Line next_line NoConfig)
    → ps ≡ slice_split (λ byte. byte == 10) text → lines_read None 1 ps ≡ Ok (option_map plan_of o) → next_line ≡ length (without_empty_end ps) + 1
    → IfOk r (λ s. schedule_of text ≡ Ok (plan_of s)) × IfErr r (IsReadingFault (schedule_of text))
schedule_of-end text ps None next_line r same split so_far number = rw same (tt, schedule_of-whole text ps None next_line split so_far number)
schedule_of-end text ps (Some s) next_line r same split so_far number = rw same (schedule_of-whole text ps (Some (plan_of s)) next_line split so_far number, tt)
