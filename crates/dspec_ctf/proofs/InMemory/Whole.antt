-- All packets of a batch have all its records.
use Rattle.std.proofs.Common.{◌≡◌, ◌-◌, ◌<◌, ◌≤◌, ◌==◌, ◌∷◌, ◌∙◌, ℕ, List, [], inl, inr, length, ap, refl, subst, arith}
use Rattle.std.proofs.lemmas.Bool.Decides.{nat_tests}
use Rattle.std.specs.Prelude.{None, if◌then◌else◌}
use Rattle.dspec_ctf.specs.Words.{IsFileRun, CpuFiling, FilingRoom, FindsAndHands, HandsMissed, IsAllHanded, IsFoundRun, as_written, HaveAllLeft, PutsPackets, parts_of}
use Rattle.dspec_ctf.specs.declared.{in_memory.packet.Packet.Packet, rows.Run.Run}

-- a packet without records is none of the parts
none_of : (p : Packet) (ps : List Packet) → p.records ≡ 0 → parts_of (p ∷ ps) ≡ parts_of ps
none_of p ps is = ap (λ n. if n == 0 then parts_of ps else (p.file, n) ∷ parts_of ps) is

some_part : (file n : ℕ) (rest : List (ℕ × ℕ)) → 0 < n → (if n == 0 then rest else (file, n) ∷ rest) ≡ (file, n) ∷ rest
some_part file n rest some = grind (arith)

-- one with records is the first of them
one_of : (p : Packet) (ps : List Packet) (file n : ℕ) → p.file ≡ file → p.records ≡ n → 0 < n → parts_of (p ∷ ps) ≡ (file, n) ∷ parts_of ps
one_of p ps file n is_file is some = grind (arith, nat_tests, some_part)

-- what was missed is handed out: the files are these then, and their records, runs and stamps are as they were
told_all : CpuFiling → FilingRoom → CpuFiling
told_all f roomy = record (as_written f) { told = f.missed; room = roomy }

after_missed : (f mid new : CpuFiling) (p : Packet) (ps : List Packet) (room filled : List ℕ) → HandsMissed (as_written f) room p filled mid
    → HaveAllLeft (told_all f mid.room) ps new → HaveAllLeft f (p ∷ ps) new
unfolding told_all
after_missed f mid new p ps room filled h all =
    record { runs = all.runs; are_runs = all.are_runs; parts = none_of p ps (ap (λ q. q.records) h.packet_is) ∙ all.parts }

-- the packet of a run is handed out: the files are these then
once_run : CpuFiling → Run → List ℕ → FilingRoom → CpuFiling
once_run f run lasts roomy = record (as_written f) { lasts = lasts; place = run.end; run = None; room = roomy }

is_after : (f mid : CpuFiling) (p : Packet) (room filled : List ℕ) (h : FindsAndHands (as_written f) room p filled mid) → mid ≡ once_run f h.run h.finds.lasts mid.room
unfolding once_run
is_after f mid p room filled h = h.hands.is ∙ ap (λ (x : CpuFiling). record x { place = h.run.end; run = None; room = mid.room }) h.finds.is

is_run_of : (f mid : CpuFiling) (p : Packet) (room filled : List ℕ) → f.run ≡ None → (h : FindsAndHands (as_written f) room p filled mid)
    → IsFileRun f.lasts f.records f.place h.run h.finds.lasts
is_run_of f mid p room filled none h = subst (λ o. IsFoundRun o (as_written f) h.run h.finds.lasts) none h.finds.is_run

after_run : (f mid new : CpuFiling) (p : Packet) (ps : List Packet) (room filled : List ℕ) → f.run ≡ None → (h : FindsAndHands (as_written f) room p filled mid)
    → HaveAllLeft (once_run f h.run h.finds.lasts mid.room) ps new → HaveAllLeft f (p ∷ ps) new
unfolding once_run
after_run f mid new p ps room filled none h all =
    let run = h.run in
    let is_run = is_run_of f mid p room filled none h in
    let count : p.records ≡ run.end - f.place = ap (λ q. q.records) h.hands.packet_is ∙ ap (λ (x : CpuFiling). run.end - x.place) h.finds.is in
    let some : 0 < run.end - f.place = omega (arith, is_run.some) in
    let first : parts_of (p ∷ ps) ≡ (run.file, run.end - f.place) ∷ parts_of ps = one_of p ps run.file (run.end - f.place) (ap (λ q. q.file) h.hands.packet_is) count some in
    record { runs = run ∷ all.runs; are_runs = (h.finds.lasts, (is_run, all.are_runs)); parts = first ∙ ap (λ rs. (run.file, run.end - f.place) ∷ rs) all.parts }

pub have_all : (f new : CpuFiling) (ps : List Packet) → f.run ≡ None → f.place ≤ length f.records → PutsPackets f ps new → IsAllHanded new → HaveAllLeft f ps new
unfolding told_all once_run
have_all f new [] none within is done =
    let all : length f.records ≤ f.place = subst (λ (m : CpuFiling). length m.records ≤ m.place) is done.1 in
    let to : length f.records ≡ f.place = omega (arith, all, within) in
    record { runs = []; are_runs = (to, ap (λ m. m.lasts) is); parts = refl }
have_all f new (p ∷ ps) none within (room, (filled, (mid, (inl (todo, h), rest)))) done =
    after_missed f mid new p ps room filled h (have_all (told_all f mid.room) new ps none within (subst (λ m. PutsPackets m ps new) h.is rest) done)
have_all f new (p ∷ ps) none within (room, (filled, (mid, (inr h, rest)))) done =
    let is_run = is_run_of f mid p room filled none h in
    after_run f mid new p ps room filled none h
    (have_all (once_run f h.run h.finds.lasts mid.room) new ps refl is_run.within (subst (λ m. PutsPackets m ps new) (is_after f mid p room filled h) rest) done)
