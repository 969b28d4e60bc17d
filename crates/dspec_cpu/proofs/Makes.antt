-- A CPU before its first call.
use Rattle.std.proofs.Common.{◌≡◌, ℕ, ◌≤◌, Bool, List, [], ◌++◌, length, reverse, Option, Some, None, sym, ap, ◌∙◌, subst, arith}
use Rattle.dspec_cpu.specs.{Words.Record, Words.Stored, Words.HasPieces, Words.start_fault, Words.part, Words.scan, Words.known, Words.cpu_of, Words.fresh_seat, Words.IsSound, Words.ShowsList}
use Rattle.dspec_cpu.specs.{Words.waiting, Words.HasList, Words.IsSteady, Words.batches_of, Words.spare_count, Words.Shape, Words.CpuActor, Words.View, declared.parts.CpuParts.CpuParts as Cpu}

module _ (shape : ℕ → Option Shape) (accepted : Record → Bool) (text : Record → List ℕ) {S : Type 0} (cpu : Cpu S) where
  -- all of it is empty, and its seat is unused
  pub record IsUnused : Type 0 where
    pub seat : known cpu.seat ≡ fresh_seat cpu.config cpu.cpu
    pub handed : cpu.end.handed ≡ []
    pub held_back : cpu.held_back ≡ None
    pub side : ShowsList (λ b. HasPieces shape accepted text b) (λ b. b.size) cpu.config cpu.cpu [] cpu.side

  module _ (u : IsUnused) where
    spare_most : (x : Option Stored) → spare_count x ≤ 1
    spare_most None = omega arith
    spare_most (Some b) = omega arith

    none_sealed : batches_of cpu ≡ []
    none_sealed = λ i. waiting (u.held_back i) ++ reverse (u.handed i)

    pub unused_list : HasList shape accepted text cpu []
    unused_list = record {
      own = sym (ap (λ (v : View). v.own) u.seat);
      shown = record {
        legal = tt;
        side = u.side.parts;
        sealed = none_sealed;
        counted = u.side.counted;
      };
    }

    pub unused_steady : cpu_of cpu.seat ≡ cpu.cpu → start_fault cpu.config ≡ None → ((b : Stored) → cpu.spare ≡ Some b → b.size ≡ cpu.config.bufsize)
        → IsSteady shape accepted text cpu
    unused_steady number fine spare = record {
      seat = number;
      config = ap (λ (v : View). v.config) u.seat;
      checked = fine;
      idle = ap (λ (v : View). scan cpu.config cpu.cpu v.own) u.seat;
      flight = ap (λ (v : View). v.flight) u.seat;
      sound = subst (λ (v : View). IsSound cpu.config v.seen) (sym u.seat) tt;
      part_is = ap (λ (v : View). part (CpuActor cpu.cpu) v.seen) u.seat ∙ sym (ap (λ (v : View). v.own) u.seat);
      spare = spare;
      few = let none = ap length none_sealed in let most = spare_most cpu.spare in omega arith;
      list = [];
      listed = unused_list;
    }
