-- `blank` puts null beside the handle.
use Rattle.std.proofs.{Common.List, Common.[], Common.◌∷◌, Common.◌++◌, Common.refl, Common.sym, Common.subst, Common.lit<, raw_atomic.Walks.proved_at}
use mathlib.Core.Bool.{false}
use mir.Val.{Val, vnull, has_ty}
use base.Logic.{SProp, ent, emp, id⊢}
use base.Fml.{ftrue}
use prog.Wp.{WpFn}
use types.Kit.{‵, raw, ◌⊛◌, ◌$◌, ◌∵◌, !, qed, move, split, drop, fsplit, fjoin, fpack, feq_i, rewrite, use1, join, suffices, done}
use types.Run.{lit, no_more, and_then, returns, enter}
use types.ByLocal.{alloc_all, pass_all, free_all, look_at, get, sets}
use types.Part.{agg}
use contract.Running.{tables}
use denote.Exit.{yes}
use denote.RattleType.{RattleType, owns, Valss}
use denote.Signature.{types_at, plain}
use denote.RawPtr.{null_ptr}
use denote.Builtin.{RawPtr}
use denote.Steps.{nothing}
use denote.Struct.Struct.{within}
use denote.Struct.Owning.{shape, to}
use denote.Triple.Walked.{Stays, stay_dropped, walk_of, says, ends_at, Goes-dropped}
use Rattle.std_heap.specs.contracts.Global as heap
use Rattle.std_heap.proofs.Global.TheLaws as heap_laws
use denote.Param.{layout}
use Rattle.core.proofs.cell.Inside.{Good, one}
use Rattle.dspec_c.proofs.{Values.both, Values.both_tt, handle.Seal.blank.Statement.statement}
use Rattle.dspec_c.specs.contracts.handle.Seal as Seal
use Rattle.dspec_c.specs.{contracts.handle.Seal.blank.ended, contracts.handle.Seal.blank.clauses, contracts.handle.Seal.blank.Key.name as #self, declared.held.HandleValue.TheVariants.Nothing}
use Rattle.dspec_c.proofs.handle.Seal.blank.Code as code

pub blank_spec : {M : Type 1} → statement M
blank_spec 𝓤 𝓛 𝓜 𝓡 wired =
    let H = 𝓛.H in let 𝓣 = tables 𝓤 H 𝓜 𝓡 𝓡.env in let c = clauses 𝓛 𝓜.mem 𝓡.returns in
    let Z : RattleType = heap.the_row in
    let hs : Stays ended.signature.params ended.kept = (stay_dropped (plain (λ _. Z)) yes, tt) in
    proved_at 𝓛 ended hs c 𝓜 𝓡 (Goes-dropped 𝓛 0 (plain (λ _. Z)) yes (λ κs x f. refl), tt) #self code.function (code.unfolded 𝓤 H 𝓜 𝓡 wired)
    (λ z are.
    let Post : Val → SProp 𝓤 = (walk_of 𝓛 ended hs c).post z in let Run : List Val → SProp 𝓤 = λ ws. WpFn 𝓤 H 𝓣.C 𝓣.Λ code.function ws Post in
    let a = z.0.3.0 in let S = Seal.the_row in let h = one (layout Z) z.0.4.0 ((heap_laws.the_row_laws.lawful 𝓛).typed a z.0.4.0 are.0) in
    let w : Val = both vnull h.0 in let made : S.Denot = record { at = null_ptr; alloc = a; full = false; inside = record { held = Nothing } } in
    let good : Good (layout S) w = (both_tt (has_ty (layout RawPtr) vnull) (has_ty (layout Z) h.0) tt h.2.0, (record { fits = lit< tt }, (h.2.1, tt))) in
    qed 𝓛 ((‵ ftrue ⊛ ‵ (owns (types_at ended.signature.params z.0.0) z.0.3 z.0.4)) ∷ raw (emp 𝓤) ∷ []) ∵ split ! $ drop ! $ fsplit ! $ move ! (1 ∷ 2 ∷ []) $ drop ! $ drop ! $
    rewrite ! 0 (λ (us : List Val). ‵ (Z.own_val a us)) h.1 refl $
    nothing ! $ nothing ! $ move ! (2 ∷ 0 ∷ []) $ fjoin ! $ feq_i ! (List Val) (vnull ∷ []) (vnull ∷ []) refl $ fjoin ! $ feq_i ! (List Val) (w ∷ []) (w ∷ []) refl $ fjoin ! $
    fpack ! (Valss (RawPtr ∷ Z ∷ [])) (within (shape Seal.the_type) (to Seal.the_type made) (w ∷ [])) (vnull ∷ [], (h.0 ∷ [], tt)) $ fjoin ! $
    use1 𝓛 (‵ (S.own_val made (w ∷ []))) (id⊢ 𝓤 _) $
    suffices ! (Run (h.0 ∷ [])) (subst (λ (us : List Val). ent 𝓤 (Run (h.0 ∷ [])) (Run us)) (sym (λ i. h.1 i ++ [])) (id⊢ 𝓤 (Run (h.0 ∷ [])))) $
    enter ! 𝓣.C 𝓣.Λ code.function (h.0 ∷ []) Post $ alloc_all ! (λ l. pass_all ! refl (h.2, tt) $
    sets ! (agg ! (and_then ! (lit ! tt) (and_then ! (get ! refl) (no_more !)))) refl good $
    returns ! (look_at ! 0 refl) $ free_all ! refl $
    suffices ! _ (ends_at 𝓛 ended hs c z w made (tt, tt) (tt, tt)) $ says ! refl $ nothing ! $ nothing ! $ fjoin ! $ join ! $ nothing ! $ join ! $ done !))
