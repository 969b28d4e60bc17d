-- Believed. What is read off the list of deeds of all CPUs and the consumer. The latest deed is at the head.
use Rattle.std.specs.Prelude.{ℕ, suc, ◌==◌, Bool, true, false, not, ◌&&◌, ◌||◌, nat_lt, nat_le, List, [], ◌∷◌, ◌+◌, if◌then◌else◌, Option, Some, None}
use Rattle.dspec_deeds.specs.FateKinds.{spoken_granted, is_commit, is_discard}
use Rattle.dspec_deeds.specs.Words.Outside.{Code, Inactive, Active, ActiveOne, ActiveMany, Committing, CommittingMany, Discarding, Speculation, SlotState}
use Rattle.dspec_deeds.specs.declared.{calls.Actor.Actor, calls.Actor.TheVariants.Cpu, calls.Actor.TheVariants.Consumer, config.Config.Config, deed.Deed.Deed, deed.Deed.TheVariants.Trace}
use Rattle.dspec_deeds.specs.declared.{deed.Deed.TheVariants.Scan, deed.Deed.TheVariants.Opened, deed.Deed.TheVariants.Miss, deed.Deed.TheVariants.Speculate, deed.Deed.TheVariants.Commit}
use Rattle.dspec_deeds.specs.declared.{deed.Deed.TheVariants.Discard, deed.Deed.TheVariants.Settle, deed.Deed.TheVariants.Seal, deed.Deed.TheVariants.Release, deed.Deed.TheVariants.Halt}

abbrev pub same_id : Speculation → Speculation → Bool
same_id a b = (a.issue == b.issue) && (a.slot == b.slot)

abbrev pub is_among : ℕ → List ℕ → Bool
is_among c [] = false
is_among c (x ∷ xs) = (c == x) || is_among c xs

-- the identifier's slot is one of the session
abbrev pub in_range : Config → Speculation → Bool
in_range k id = nat_le 1 id.slot && nat_le id.slot k.nspec

-- the session was stopped
abbrev pub is_halt : Deed → Bool
is_halt Halt = true
is_halt d = false

abbrev pub halted : List Deed → Bool
halted [] = false
halted (d ∷ h) = is_halt d || halted h

-- how often the slot was released
abbrev pub releases : ℕ → Deed → Bool
releases s (Release t) = s == t
releases s d = false

abbrev pub issue : ℕ → List Deed → ℕ
issue s [] = 0
issue s (d ∷ h) = if releases s d then suc (issue s h) else issue s h

-- the speculation that the slot gives out next, or has given out and not released
abbrev pub present : ℕ → List Deed → Speculation
present s h = record { issue = issue s h; slot = s }

-- the speculation was given out
abbrev pub opens : Speculation → Deed → Bool
opens id (Opened c j) = same_id id j
opens id d = false

abbrev pub opened : Speculation → List Deed → Bool
opened id [] = false
opened id (d ∷ h) = opens id d || opened id h

-- whether the speculation was decided, and by which CPU
pub data Ruling : Type 0 where
  undecided : Ruling
  committed : ℕ → Ruling
  discarded : ℕ → Ruling

abbrev pub ruling : Speculation → Deed → Ruling
ruling id (Commit c j f) = if is_commit f && same_id id j then committed c else undecided
ruling id (Discard c j f) = if is_discard f && same_id id j then discarded c else undecided
ruling id d = undecided

abbrev pub latest : Ruling → Ruling → Ruling
latest undecided v = v
latest (committed c) v = committed c
latest (discarded c) v = discarded c

abbrev pub verdict : Speculation → List Deed → Ruling
verdict id [] = undecided
verdict id (d ∷ h) = latest (ruling id d) (verdict id h)

abbrev pub is_undecided : Ruling → Bool
is_undecided undecided = true
is_undecided v = false

abbrev pub is_open : Speculation → List Deed → Bool
is_open id h = opened id h && is_undecided (verdict id h)

-- the CPUs to which the speculation was granted, each once
abbrev pub calls_on : Speculation → Deed → Option ℕ
calls_on id (Speculate c j r f) = if spoken_granted f && same_id id j then Some c else None
calls_on id d = None

abbrev pub joined : Option ℕ → List ℕ → List ℕ
joined None cs = cs
joined (Some c) cs = if is_among c cs then cs else c ∷ cs

abbrev pub callers : Speculation → List Deed → List ℕ
callers id [] = []
callers id (d ∷ h) = joined (calls_on id d) (callers id h)

abbrev pub is_sole : ℕ → List ℕ → Bool
is_sole c (x ∷ []) = c == x
is_sole c cs = false

abbrev pub is_sole_or_none : ℕ → List ℕ → Bool
is_sole_or_none c [] = true
is_sole_or_none c (x ∷ []) = c == x
is_sole_or_none c (x ∷ y ∷ cs) = false

-- the CPU that decided it alone: with no other caller after a commit, as the one caller after a discard
abbrev pub solo_of : Ruling → List ℕ → Option ℕ
solo_of undecided cs = None
solo_of (committed c) cs = if is_sole_or_none c cs then Some c else None
solo_of (discarded c) cs = if is_sole c cs then Some c else None

abbrev pub solo : Speculation → List Deed → Option ℕ
solo id h = solo_of (verdict id h) (callers id h)

-- the CPU has settled the speculation
abbrev pub settles : ℕ → Speculation → Deed → Bool
settles c id (Settle a j f) = (c == a) && same_id id j
settles c id d = false

abbrev pub settled : ℕ → Speculation → List Deed → Bool
settled c id [] = false
settled c id (d ∷ h) = settles c id d || settled c id h

abbrev pub is_free : Config → ℕ → List Deed → Bool
is_free k s h = not (opened (present s h) h) && nat_lt (issue s h) k.max_issues

abbrev pub is_busy : ℕ → List Deed → Bool
is_busy s h = not (is_undecided (verdict (present s h) h))

-- the slot that a call of speculation has come to, and 0 outside such a call
abbrev pub scanned : Config → ℕ → Deed → ℕ → ℕ
scanned k c (Scan a running) n = if c == a then (if running then 1 else 0) else n
scanned k c (Opened a id) n = if c == a then 0 else n
scanned k c (Miss a s busy) n = if c == a then (if n == k.nspec then 0 else n + 1) else n
scanned k c d n = n

abbrev pub scan : Config → ℕ → List Deed → ℕ
scan k c [] = 0
scan k c (d ∷ h) = scanned k c d (scan k c h)

-- the slot was given out after the CPU's last Scan
abbrev pub is_scan : ℕ → Deed → Bool
is_scan c (Scan a running) = c == a
is_scan c d = false

abbrev pub opens_slot : ℕ → Deed → Bool
opens_slot s (Opened c id) = s == id.slot
opens_slot s d = false

abbrev pub opened_since : ℕ → ℕ → List Deed → Bool
opened_since c s [] = false
opened_since c s (d ∷ h) = if is_scan c d then false else (opens_slot s d || opened_since c s h)

-- whose deed it is: a Release is of the CPU that decided alone, or else of the consumer
abbrev pub releaser : Option ℕ → Actor
releaser None = Consumer
releaser (Some c) = Cpu c

abbrev pub author : Deed → List Deed → Actor
author (Trace c r f) h = Cpu c
author (Scan c running) h = Cpu c
author (Opened c id) h = Cpu c
author (Miss c s busy) h = Cpu c
author (Speculate c id r f) h = Cpu c
author (Commit c id f) h = Cpu c
author (Discard c id f) h = Cpu c
author (Settle c id f) h = Cpu c
author (Seal c) h = Cpu c
author (Release s) h = releaser (solo (present s h) h)
author Halt h = Consumer

abbrev pub same_actor : Actor → Actor → Bool
same_actor (Cpu a) (Cpu b) = a == b
same_actor Consumer Consumer = true
same_actor v w = false

-- the deeds of a CPU, or of the consumer
abbrev pub part : Actor → List Deed → List Deed
part w [] = []
part w (d ∷ h) = if same_actor w (author d h) then d ∷ part w h else part w h

-- the CPU has done a deed since the stop
abbrev pub late : ℕ → List Deed → Bool
late c [] = false
late c (d ∷ h) = if is_halt d then false else (late c h || (halted h && same_actor (Cpu c) (author d h)))

-- the slot that has to be released next, after a discard by the one caller; else 0
abbrev pub owing : Deed → List Deed → ℕ
owing (Discard c id f) h = if is_discard f && is_sole c (callers id h) then id.slot else 0
owing d h = 0

abbrev pub owed : List Deed → ℕ
owed [] = 0
owed (d ∷ h) = owing d h

-- the word of a slot
abbrev pub active_code : List ℕ → Code
active_code [] = Active
active_code (x ∷ []) = ActiveOne
active_code (x ∷ y ∷ cs) = ActiveMany

abbrev pub standing : Ruling → List ℕ → Code
standing undecided cs = active_code cs
standing (committed c) cs = if is_sole_or_none c cs then Committing else CommittingMany
standing (discarded c) cs = Discarding

abbrev pub code_at : Speculation → List Deed → Code
code_at id h = if opened id h then standing (verdict id h) (callers id h) else Inactive

abbrev pub word_at : ℕ → List Deed → SlotState
word_at s h = record { issue = issue s h; code = code_at (present s h) h }

-- the acknowledgement of a slot by a CPU: one more than the issue that it settled last, or 0
abbrev pub acks : ℕ → ℕ → Deed → Bool
acks c s (Settle a id f) = (c == a) && (s == id.slot)
acks c s d = false

abbrev pub issue_of : Deed → ℕ
issue_of (Settle a id f) = id.issue
issue_of d = 0

abbrev pub ack : ℕ → ℕ → List Deed → ℕ
ack c s [] = 0
ack c s (d ∷ h) = if acks c s d then issue_of d + 1 else ack c s h
