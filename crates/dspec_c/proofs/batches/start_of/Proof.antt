-- `start_of` tells where a slice begins: that is where the slice is.
use Rattle.std.proofs.{Common.List, Common.[], Common.◌∷◌, Common.◌++◌, Common.length, Common.refl, raw_atomic.Walks.proved_at}
use mir.Val.{Val, vptr}
use prog.Wp.{WpFn}
use types.Kit.{‵, raw, ◌⊛◌, prop, ◌$◌, ◌∵◌, !, qed, move, keep, drop, split, fsplit, fjoin, feq_l, feq_i, regoal, suffices, group, done, flt_l}
use types.Part.{sub, whole}
use types.Run.{enter, returns, fld, stop, addr, from, hop}
use types.ByLocal.{alloc_all, pass_all, free_all, look_at, sets, look_in_at}
use contract.Running.{tables}
use denote.Exit.{yes}
use denote.RattleType.{owns}
use denote.Builtin.{u8, SliceRefOf}
use denote.Signature.{Slot, plain, types_at}
use denote.Steps.{nothing}
use denote.Triple.Entry.{alive}
use denote.Triple.Walked.{says, Stays, stay_dropped, walk_of, ends_at, Goes-dropped}
use denote.RawPtr.{block_ptr}
use denote.Slice.{slice_val}
use Rattle.dspec_c.specs.contracts.batches.start_of as F
use Rattle.dspec_c.specs.contracts.batches.start_of.Key.{name as #self}
use Rattle.dspec_c.proofs.batches.start_of.Statement.{statement}
use Rattle.dspec_c.proofs.batches.start_of.Code as code

abbrev From : Slot 1
From = SliceRefOf (0 ∷ []) tt (plain (λ _. u8)) (λ _. tt)

pub start_of_spec : {M : Type 1} → statement M
start_of_spec 𝓤 𝓛 𝓜 𝓡 wired =
    let H = 𝓛.H in let 𝓣 = tables 𝓤 H 𝓜 𝓡 𝓡.env in let c = F.clauses 𝓛 𝓜.mem 𝓡.returns in
    let hs : Stays (F.ended).signature.params (F.ended).kept = (stay_dropped From yes, tt) in
    proved_at 𝓛 F.ended hs c 𝓜 𝓡 (Goes-dropped 𝓛 1 From yes (λ κs x f. refl), tt) #self code.function (code.unfolded 𝓤 H 𝓜 𝓡 wired) (λ z are.
    let Post = (walk_of 𝓛 F.ended hs c).post z in
    let a = z.0.3 in let xs = a.0.now in let b = a.0.ref_ptr.0 in let o = a.0.ref_ptr.1 in
    let toks = alive 𝓛 (F.ended).signature z.0.0 z.0.1 in
    qed 𝓛 ((raw toks ⊛ ‵ (owns (types_at (F.ended).signature.params z.0.0) a z.0.4)) ∷ raw ((c z.0.0 a).requires z.1) ∷ []) ∵
    keep ! (0 ∷ []) $ split ! $ move ! (1 ∷ []) $ fsplit ! $ fsplit ! $ fsplit ! $ feq_l ! (λ is. fsplit ! $ flt_l ! (λ count. flt_l ! (λ size. drop ! $ drop ! $
    regoal ! (λ (us : List Val). prop (WpFn 𝓤 H 𝓣.C 𝓣.Λ code.function (us ++ []) Post)) is refl $
    enter ! 𝓣.C 𝓣.Λ code.function (slice_val (b, o) (length xs) ∷ []) Post $ alloc_all ! (λ l. pass_all ! refl ((tt, (tt, (record { fits = count }, tt))), tt) $
    sets ! (addr ! (from ! (fld ! refl (hop ! (look_in_at ! 1 (sub ! 0 refl (whole !))) (stop !))))) refl (tt, tt) $
    returns ! (look_at ! 0 refl) $ free_all ! refl $
    suffices ! _ (ends_at 𝓛 F.ended hs c z (vptr b o) (block_ptr b o) (tt, tt) (tt, tt)) $ says ! refl $
    feq_i ! (List Val) (vptr b o ∷ []) (vptr b o ∷ []) refl $ nothing ! $ nothing ! $ fjoin ! $ move ! (2 ∷ 0 ∷ 1 ∷ []) $ group ! 3 $ done !)))))
