-- What a table does on a CPU that is lent to it, it does on that CPU.
use Rattle.std.proofs.Common.{◌≡◌, ℕ, Option, Some, None, sym, ap, subst, inl, inr}
use Rattle.std.specs.Prelude.{IfNone}
use Rattle.dspec_c.specs.Words.{Ghosts, Opening, called, EnabledRows, Has, OpensOne, Cpu, Speculation, BeginsOnCpu, TurnsOnCpu, BeginsPath, IsAlone, Places, TurnsPath, LentCpu, PathKey}
use Rattle.dspec_deeds.specs.declared.calls.Opening.TheVariants as opening

module _ {g : Ghosts EnabledRows} where
  alone_so : (o : Opening) (a : Option PathKey) (z y : LentCpu EnabledRows g) → IsAlone o a z y → IsAlone o a z.cpu.now y.cpu.now
  alone_so (opening.Id id) None z y is = tt
  alone_so (opening.Id id) (Some k) z y is = ap (λ (l : LentCpu EnabledRows g). l.cpu.now) is
  alone_so opening.Unavailable a z y is = ap (λ (l : LentCpu EnabledRows g). l.cpu.now) is
  alone_so opening.Busy a z y is = ap (λ (l : LentCpu EnabledRows g). l.cpu.now) is
  alone_so opening.Stopped a z y is = ap (λ (l : LentCpu EnabledRows g). l.cpu.now) is
  alone_so opening.Worn a z y is = ap (λ (l : LentCpu EnabledRows g). l.cpu.now) is

  none_so : (a : Option Speculation) (z y : LentCpu EnabledRows g) → IfNone a (y ≡ z) → IfNone a (y.cpu.now ≡ z.cpu.now)
  none_so None z y is = ap (λ (l : LentCpu EnabledRows g). l.cpu.now) is
  none_so (Some id) z y is = tt

  pub begins_lent : (number thread stamp : ℕ) (a : Option PathKey) (ps new : Places) (x y : LentCpu EnabledRows g) (u v : Cpu EnabledRows)
      → BeginsPath (λ (l : LentCpu EnabledRows g). called l.cpu.now) (λ o (s t : LentCpu EnabledRows g). OpensOne Has o s.cpu.now t.cpu.now) number thread stamp a x y ps new
      → x.cpu.now ≡ u → v ≡ y.cpu.now
      → BeginsOnCpu number thread stamp a ps new u v
  begins_lent number thread stamp a ps new x y u v (o, z, asked, alone, by) e f =
      subst (λ (w : Cpu EnabledRows). BeginsOnCpu number thread stamp a ps new u w) (sym f)
      (subst (λ (w : Cpu EnabledRows). BeginsOnCpu number thread stamp a ps new w y.cpu.now) e (o, z.cpu.now, asked, alone_so o a z y alone, by))

  pub turns_lent : (k : PathKey) (a : Option Speculation) (ps new : Places) (x y : LentCpu EnabledRows g) (u v : Cpu EnabledRows)
      → TurnsPath (λ (l : LentCpu EnabledRows g). called l.cpu.now) (λ o (s t : LentCpu EnabledRows g). OpensOne Has o s.cpu.now t.cpu.now) k a x y ps new
      → x.cpu.now ≡ u → v ≡ y.cpu.now → TurnsOnCpu k a ps new u v
  turns_lent k a ps new x y u v (inl (none, nobody, same, places)) e f =
      subst (λ (w : Cpu EnabledRows). TurnsOnCpu k a ps new u w) (sym f)
      (subst (λ (w : Cpu EnabledRows). TurnsOnCpu k a ps new w y.cpu.now) e (inl (none, nobody, ap (λ (l : LentCpu EnabledRows g). l.cpu.now) same, places)))
  turns_lent k a ps new x y u v (inr (p, o, z, named, asked, alone, by)) e f =
      subst (λ (w : Cpu EnabledRows). TurnsOnCpu k a ps new u w) (sym f)
      (subst (λ (w : Cpu EnabledRows). TurnsOnCpu k a ps new w y.cpu.now) e (inr (p, o, z.cpu.now, named, asked, none_so a z y alone, by)))
