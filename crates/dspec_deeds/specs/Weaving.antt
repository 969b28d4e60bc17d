-- Cited by calls. Seals put into a list of deeds, so that each CPU's part of it is that CPU's own list.
use Rattle.std.specs.Prelude.{ℕ, zero, suc, ◌≡◌, ◌<◌, ◌⊎◌, ◌==◌, List, [], ◌∷◌, ◌++◌, Option, if◌then◌else◌}
use Rattle.dspec_deeds.specs.{History.halted, History.opened, History.verdict, History.callers, History.solo, History.settled, History.author, History.part, History.owed, History.word_at}
use Rattle.dspec_deeds.specs.{History.ack, Legal.is_seal, Legal.IsLegal, Owning.IsOwn, Owning.ReadsAlike, Words.Outside.Speculation, Words.Outside.Shape, declared.calls.Actor.Actor}
use Rattle.dspec_deeds.specs.{declared.calls.Actor.TheVariants.Cpu, declared.calls.Actor.TheVariants.Consumer, declared.config.Config.Config, declared.deed.Deed.Deed}
use Rattle.dspec_deeds.specs.{declared.deed.Deed.TheVariants.Seal}

-- the list without its Seals
abbrev pub bare : List Deed → List Deed
bare [] = []
bare (d ∷ h) = if is_seal d then bare h else d ∷ bare h

-- without its Seals the list is the CPU's part of the list of all
abbrev pub IsBarePart : ℕ → List Deed → List Deed → Type 0
IsBarePart c p h = bare p ≡ part (Cpu c) h

-- the part of each of the session's CPUs is legal in the own part
abbrev pub HaveOwnParts : (ℕ → Option Shape) → Config → List Deed → Type 0
HaveOwnParts shape k h = (c : ℕ) → c < k.cpus → IsOwn shape k c (part (Cpu c) h)

-- the list's latest deed is the CPU's
abbrev pub IsLastOf : ℕ → List Deed → Type 0
IsLastOf c [] = ⊥
IsLastOf c (d ∷ h) = author d h ≡ Cpu c

-- a Seal may stand directly after a deed of its CPU, and at the front, with nothing but Seals after it
abbrev pub MayStand : ℕ → List Deed → Type 0
MayStand c h = (bare h ≡ []) ⊎ IsLastOf c h

abbrev pub IsPlaced : Deed → List Deed → Type 0
IsPlaced (Seal c) h = MayStand c h
IsPlaced d h = Unit {0}

-- each Seal stands directly after the deed that stands before it in its CPU's part, at the front where there is none
abbrev pub ArePlaced : List Deed → Type 0
ArePlaced [] = Unit {0}
ArePlaced (d ∷ h) = ArePlaced h × IsPlaced d h

-- the Seals before the list's latest other deed, and what lies after that deed
abbrev pub lead : List Deed → List Deed
lead [] = []
lead (d ∷ q) = if is_seal d then d ∷ lead q else []

abbrev pub remainder : List Deed → List Deed
remainder [] = []
remainder (d ∷ q) = if is_seal d then remainder q else q

-- the lists of the CPUs, once one deed of a CPU has been taken off, with the Seals that came later
abbrev pub taken_off : Actor → (ℕ → List Deed) → ℕ → List Deed
taken_off (Cpu c) p a = if a == c then remainder (p a) else p a
taken_off Consumer p a = p a

-- the Seals that come directly after an actor's latest deed
abbrev pub seals_after : Actor → (ℕ → List Deed) → List Deed
seals_after (Cpu c) p = lead (p c)
seals_after Consumer p = []

-- the lists of the first CPUs, one after another
abbrev pub front : ℕ → (ℕ → List Deed) → List Deed
front zero p = []
front (suc n) p = p n ++ front n p

-- each Seal directly after the deed that stands before it in its CPU's list, at the front where there is none
abbrev pub woven : ℕ → (ℕ → List Deed) → List Deed → List Deed
woven n p [] = front n p
woven n p (d ∷ h) = seals_after (author d h) p ++ d ∷ woven n (taken_off (author d h) p) h

-- what is read off the deeds of all is the same in both lists
pub record ShowsAlike (g h : List Deed) : Type 0 where
  pub halts : halted g ≡ halted h
  pub words : (s : ℕ) → word_at s g ≡ word_at s h
  pub acks : (c s : ℕ) → ack c s g ≡ ack c s h
  pub given : (id : Speculation) → opened id g ≡ opened id h
  pub verdicts : (id : Speculation) → verdict id g ≡ verdict id h
  pub calling : (id : Speculation) → callers id g ≡ callers id h
  pub alone : (id : Speculation) → solo id g ≡ solo id h
  pub settling : (c : ℕ) (id : Speculation) → settled c id g ≡ settled c id h

-- the CPUs' own lists, of which the list of all is to be woven: without its Seals each is that CPU's part
pub record HaveLists (shape : ℕ → Option Shape) (k : Config) (p : ℕ → List Deed) (h : List Deed) : Type 0 where
  pub own : (c : ℕ) → c < k.cpus → IsOwn shape k c (p c)
  pub parts : (c : ℕ) → c < k.cpus → bare (p c) ≡ part (Cpu c) h

-- a legal list, with these lists of the CPUs, and the given list but for the Seals
pub record IsWoven (shape : ℕ → Option Shape) (k : Config) (p : ℕ → List Deed) (h w : List Deed) : Type 0 where
  pub legal : IsLegal shape k w
  pub own : (c : ℕ) → c < k.cpus → part (Cpu c) w ≡ p c
  pub consumer : part Consumer w ≡ part Consumer h
  pub rest : bare w ≡ h
  pub placed : ArePlaced w
  pub rests : owed w ≡ 0
  pub reads : (c : ℕ) → c < k.cpus → ReadsAlike k c (p c) w
  pub shows : ShowsAlike w h
