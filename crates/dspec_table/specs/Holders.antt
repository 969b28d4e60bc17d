-- Cited by calls. Whose a seat is: a CPU's, the consumer's, or nobody's, as a note is.
use Rattle.std.specs.Prelude.{ℕ, Bool, false, List, [], Option, Some, None}
use Rattle.dspec_table.specs.Words.Outside.{Actor, Cpu, Consumer, Deed, author, part, same_actor}

abbrev pub Holder : Type 0
Holder = Option Actor

abbrev pub of_cpu : ℕ → Holder
of_cpu c = Some (Cpu c)

abbrev pub of_consumer : Holder
of_consumer = Some Consumer

abbrev pub of_nobody : Holder
of_nobody = None

abbrev pub same_holder : Holder → Holder → Bool
same_holder None w = false
same_holder (Some a) None = false
same_holder (Some a) (Some b) = same_actor a b

-- whose deed it is
abbrev pub doer : Deed → List Deed → Holder
doer d h = Some (author d h)

-- the holder's deeds
abbrev pub part_of : Holder → List Deed → List Deed
part_of None h = []
part_of (Some w) h = part w h

-- the CPU's number
abbrev pub number_of : Holder → ℕ
number_of None = 0
number_of (Some (Cpu c)) = c
number_of (Some Consumer) = 0
