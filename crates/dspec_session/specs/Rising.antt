-- Cited by calls. Whether the values of EPID 1 rise strictly, followed from record to record.
use Rattle.std.specs.Prelude.{ℕ, ◌≡◌, ◌⊎◌, ◌==◌, Bool, true, false, ◌&&◌, nat_lt, List, [], ◌∷◌, Option, Some, None, if◌then◌else◌}
use Rattle.dspec_session.specs.{Words.Outside.Record, Words.Outside.BufferText, Words.Outside.Shape, Words.Outside.Batch, Words.Outside.Left, declared.demonstration.order.Order.Order}

abbrev pub is_above : Option ℕ → ℕ → Bool
is_above None v = true
is_above (Some last) v = nat_lt last v

abbrev pub with_value : Order → ℕ → Order
with_value o v = record { last = Some v; rises = o.rises && is_above o.last v }

abbrev pub with_first : Order → List ℕ → Order
with_first o [] = o
with_first o (v ∷ vs) = with_value o v

-- a record of EPID 1 tells by its value
abbrev pub with_record : Order → Record → Order
with_record o r = if r.epid == 1 then with_first o r.values else o

abbrev pub with_records : Order → List Record → Order
with_records o [] = o
with_records o (r ∷ rs) = with_records (with_record o r) rs

-- a text is read: its records are followed, and one that can't be read doesn't rise
module _ (shape : ℕ → Option Shape) (accepted : Record → Bool) (text : Record → List ℕ) where
  abbrev pub FollowsText : List ℕ → Order → Order → Type 0
  FollowsText bytes o u =
      ((rs : List Record) × BufferText shape accepted text 0 bytes rs × (u ≡ with_records o rs))
      ⊎ (((rs : List Record) → ¬ BufferText shape accepted text 0 bytes rs) × (u.rises ≡ false))

  -- what is left of a CPU is read: the batch that wasn't taken, if there is one, then the last
  abbrev pub FollowsRest : Option Batch → Order → Order → Type 0
  FollowsRest None o u = u ≡ o
  FollowsRest (Some b) o u = FollowsText b.buffer.text o u

  abbrev pub FollowsLeft : Left → Order → Bool → Type 0
  FollowsLeft l o rises = (u : Order) × (w : Order) × FollowsRest l.rest o u × FollowsText l.last.buffer.text u w × (rises ≡ w.rises)
