-- Cited by calls. What the words of a turn say: a call of an actor, or one step of it.
use Rattle.std.specs.List.{position_or_len, before_first, after_first}
use Rattle.std.specs.Prelude.{ℕ, ◌/◌, ◌%◌, ◌==◌, nat_le, nat_lt, ◌&&◌, Bool, List, [], ◌∷◌, length, if◌then◌else◌, bytes_eq, codes, Result, Ok, Err}
use Rattle.dspec_schedule.specs.LineWords.{small_number_of, wide_number_of, numbers_of, only_word, no_word}
use Rattle.dspec_schedule.specs.Steps.{◌>>=◌}
use Rattle.dspec_schedule.specs.Words.Outside.{Record, Speculation, Header, Actor, CpuOp, Trace, Open, Speculate, Commit, Discard, Service, ConsumerOp, Ask, Take, GiveBack, Clean, Stop, Turn}
use Rattle.dspec_schedule.specs.Words.Outside.{BeginCpu, BeginConsumer, Step, RunCpu, RunConsumer}
use Rattle.dspec_schedule.specs.declared.{fault.LineKind.LineKind, fault.LineKind.TheVariants.UnknownWord, fault.LineKind.TheVariants.WordCount, grammar.ActorCall.ActorCall}
use Rattle.dspec_record.specs.declared.header.Header.TheVariants as header
use Rattle.dspec_deeds.specs.declared.calls.Actor.TheVariants as actor
use Rattle.dspec_schedule.specs.declared.grammar.ActorCall.TheVariants as call

-- `consumer`, or the number of a CPU
unfoldable pub actor_read : List ℕ → Result Actor LineKind
actor_read word = if bytes_eq word (codes "consumer") then Ok actor.Consumer else do
  cpu ← small_number_of word
  Ok (actor.Cpu cpu)

abbrev pub is_at : ℕ → Bool
is_at byte = byte == 64

abbrev pub has_at : List ℕ → Bool
has_at word = nat_lt (position_or_len is_at word) (length word)

-- a probe identifier, and after an `@` (64) its stamp, which is 0 where there is none
unfoldable pub stamped_epid_of : List ℕ → Result (ℕ × ℕ) LineKind
stamped_epid_of word = if has_at word then (do
  epid ← small_number_of (before_first is_at word)
  stamp ← wide_number_of (after_first is_at word)
  Ok (epid, stamp)) else (do
    epid ← small_number_of word
    Ok (epid, 0))

-- a probe identifier and its stamp: without a header that has one, there is no word for it
unfoldable pub epid_of : Header → List ℕ → Result (ℕ × ℕ) LineKind
epid_of header.One word = do
  epid ← small_number_of word
  Ok (epid, 0)
epid_of header.Two word = stamped_epid_of word

-- a probe identifier with its stamp, and eight values at the most
unfoldable pub record_read : Header → List (List ℕ) → Result Record LineKind
record_read h [] = Err WordCount
record_read h (epid ∷ values) = if nat_le (length values) 8 then (do
  e ← epid_of h epid
  vs ← numbers_of values
  Ok (record { epid = e.0; stamp = e.1; values = vs })) else Err WordCount

-- what a number of 64 bits names
abbrev pub speculation_of : ℕ → Speculation
speculation_of n = record { issue = n / 64; slot = n % 64 }

-- the number of a speculation
unfoldable pub id_of : List ℕ → Result Speculation LineKind
id_of word = do
  n ← wide_number_of word
  Ok (speculation_of n)

-- so many words can be a record
abbrev pub is_record_count : ℕ → Bool
is_record_count n = nat_le 1 n && nat_le n 9

-- a speculation, and a record
unfoldable pub speculate_of : Header → List (List ℕ) → Result CpuOp LineKind
speculate_of h [] = Err WordCount
speculate_of h (id ∷ words) = if is_record_count (length words) then (do
  i ← id_of id
  r ← record_read h words
  Ok (Speculate i r)) else Err WordCount

-- a call of a CPU: its operation, and what this takes
unfoldable pub cpu_call_read : Header → List ℕ → List (List ℕ) → Result CpuOp LineKind
cpu_call_read h operation words =
    if bytes_eq operation (codes "trace") then (do
      r ← record_read h words
      Ok (Trace r)) else
    (if bytes_eq operation (codes "speculation") then (do
      none ← no_word words
      Ok Open) else
    (if bytes_eq operation (codes "speculate") then speculate_of h words else
    (if bytes_eq operation (codes "commit") then (do
      word ← only_word words
      i ← id_of word
      Ok (Commit i)) else
    (if bytes_eq operation (codes "discard") then (do
      word ← only_word words
      i ← id_of word
      Ok (Discard i)) else
    (if bytes_eq operation (codes "service") then (do
      none ← no_word words
      Ok Service) else Err UnknownWord)))))

-- the one CPU that a call of the consumer is about
unfoldable pub cpu_read : List (List ℕ) → Result ℕ LineKind
cpu_read words = do
  word ← only_word words
  small_number_of word

-- a call of the consumer: its operation, and what this takes
unfoldable pub consumer_call_read : List ℕ → List (List ℕ) → Result ConsumerOp LineKind
consumer_call_read operation words =
    if bytes_eq operation (codes "ask") then (do
      cpu ← cpu_read words
      Ok (Ask cpu)) else
    (if bytes_eq operation (codes "take") then (do
      cpu ← cpu_read words
      Ok (Take cpu)) else
    (if bytes_eq operation (codes "giveback") then (do
      cpu ← cpu_read words
      Ok (GiveBack cpu)) else
    (if bytes_eq operation (codes "clean") then (do
      none ← no_word words
      Ok Clean) else
    (if bytes_eq operation (codes "stop") then (do
      none ← no_word words
      Ok Stop) else Err UnknownWord))))

-- a call of this actor
unfoldable pub actor_call_of : Header → Actor → List ℕ → List (List ℕ) → Result ActorCall LineKind
actor_call_of h (actor.Cpu cpu) operation words = do
  op ← cpu_call_read h operation words
  Ok (call.Cpu cpu op)
actor_call_of h actor.Consumer operation words = do
  op ← consumer_call_read operation words
  Ok (call.Consumer op)

-- an actor, and a call of it
unfoldable pub call_read : Header → List (List ℕ) → Result ActorCall LineKind
call_read h [] = Err WordCount
call_read h (who ∷ []) = Err WordCount
call_read h (who ∷ operation ∷ words) = do
  a ← actor_read who
  actor_call_of h a operation words

-- an actor alone
unfoldable pub stepping_of : List (List ℕ) → Result Actor LineKind
stepping_of [] = Err WordCount
stepping_of (who ∷ words) = do
  a ← actor_read who
  none ← no_word words
  Ok a

abbrev pub whole_call : ActorCall → Turn
whole_call (call.Cpu cpu op) = RunCpu cpu op
whole_call (call.Consumer op) = RunConsumer op

abbrev pub begun_call : ActorCall → Turn
begun_call (call.Cpu cpu op) = BeginCpu cpu op
begun_call (call.Consumer op) = BeginConsumer op

-- the turn of a line, by its first word and those after it
unfoldable pub turn_read : Header → List ℕ → List (List ℕ) → Result Turn LineKind
turn_read h first words =
    if bytes_eq first (codes "run") then (do
      c ← call_read h words
      Ok (whole_call c)) else
    (if bytes_eq first (codes "begin") then (do
      c ← call_read h words
      Ok (begun_call c)) else
    (if bytes_eq first (codes "step") then (do
      a ← stepping_of words
      Ok (Step a)) else Err UnknownWord))
