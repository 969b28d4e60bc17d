use Rattle.std.proofs.Common.{◌≡◌, ◌+◌, ◌≤◌, false}
use Rattle.dspec_cpu.specs.Words.{CanBeReleased, known, IsAt, set_up, cpu_of, turns, Shown}
use Rattle.dspec_cpu.proofs.Retries.{left}
use Rattle.dspec_cpu.proofs.reaching.work.Given as goal

-- the last step found the word, and the call goes on from there with so many exchanges at most
abbrev pub invariant-loop-act : goal.invariant-loop-act
invariant-loop-act g l =
    record {
      seat : IsAt l.words l.seat × (cpu_of l.seat ≡ cpu_of l.fn.seat);
      shown : Shown (set_up l.words) (cpu_of l.fn.seat) g.J.HasDoing.doing l.fn.id l.slot (known l.fn.seat) l.word false (known l.seat);
      bounded : (known l.seat).steps + left (turns g.J.HasDoing.doing.op) l.fn.id l.word ≤ (known l.fn.seat).steps + turns g.J.HasDoing.doing.op;
      limit : CanBeReleased l.word;
    }

abbrev pub decreases-loop-act : goal.decreases-loop-act
decreases-loop-act g l = left (turns g.J.HasDoing.doing.op) l.fn.id l.word
