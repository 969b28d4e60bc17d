-- The slots so far were missed.
use Rattle.std.proofs.Common.{◌≡◌}
use Rattle.dspec_cpu.specs.Words.{known, IsAt, set_up, cpu_of}
use Rattle.dspec_cpu.proofs.{Scans.Came, Slots.asked}
use Rattle.dspec_cpu.proofs.scanning.scan_slots.Given as goal

abbrev pub invariant-loop-place : goal.invariant-loop-place
invariant-loop-place l =
    record {
      seat : IsAt l.words l.seat × (cpu_of l.seat ≡ cpu_of l.fn.seat);
      came : Came (set_up l.words) (cpu_of l.fn.seat) (known l.fn.seat) l.place l.busy (known l.seat);
    }

abbrev pub ghosts-load_activity : goal.ghosts-load_activity
ghosts-load_activity a = record { doing = asked }
