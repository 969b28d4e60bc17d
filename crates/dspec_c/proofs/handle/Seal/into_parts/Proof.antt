-- `into_parts` moves two fields, and what they own goes with them.
use Rattle.std.proofs.{Common.List, Common.[], Common.◌∷◌, Common.◌++◌, Common.refl, Common.sym, Common.subst, Common.◌≡◌, raw_atomic.Walks.proved_at}
use mathlib.Core.Bool.{Bool, true}
use mir.Val.{Val}
use base.Logic.{ent, id⊢}
use base.Fml.{ftrue, fsep}
use prog.Wp.{WpFn}
use types.Kit.{Item, ‵, raw, ◌⊛◌, ◌$◌, ◌∵◌, !, qed, by, move, drop, use1, join, split, fsplit, fjoin, suffices, rewrite, done}
use types.Part.{whole, sub, agg}
use types.Run.{stop, fld, no_more, and_then, of_opd, returns, enter}
use types.ByLocal.{alloc_all, pass_all, free_all, look_at, get, get_in, sets}
use contract.{Monad.fact, Running.tables}
use denote.Exit.{yes}
use denote.Signature.{type_at}
use denote.Steps.{nothing, heard}
use denote.Triple.Walked.{says, Stays, stay_dropped, walk_of, ends_at, Goes-dropped}
use Rattle.std_alloc.proofs.BoxSteps.{Form.D, Form.word, Form.box_typed, Steps.box_out, Steps.box_in}
use Rattle.dspec_c.proofs.{AsBox.E, AsBox.FromSeal as From, handle.Seal.into_parts.Statement.statement}
use Rattle.dspec_c.specs.contracts.handle.Seal as Sealed
use Rattle.dspec_c.specs.contracts.handle.Seal.into_parts as F
use Rattle.dspec_c.specs.contracts.handle.Seal.into_parts.Key.{name as #self}
use Rattle.dspec_c.proofs.handle.Seal.into_parts.Code as code

pub into_parts_spec : {M : Type 1} → statement M
into_parts_spec 𝓤 𝓛 𝓜 𝓡 wired =
    let H = 𝓛.H in let 𝓣 = tables 𝓤 H 𝓜 𝓡 𝓡.env in let c = F.clauses 𝓛 𝓜.mem 𝓡.returns in
    let hs : Stays (F.ended).signature.params (F.ended).kept = (stay_dropped From yes, tt) in
    proved_at 𝓛 F.ended hs c 𝓜 𝓡 (Goes-dropped 𝓛 0 From yes (λ κs x f. refl), tt) #self code.function (code.unfolded 𝓤 H 𝓜 𝓡 wired) (λ z are.
    let Post = (walk_of 𝓛 F.ended hs c).post z in
    let v : D E = record { ptr = z.0.3.0.at; alloc = z.0.3.0.alloc; value = z.0.3.0.inside } in
    let To = type_at (F.signature).result tt in
    let made : To.Denot = record { at = v.ptr; alloc = v.alloc; value = v.value } in
    qed 𝓛 ((‵ ftrue ⊛ ‵ (fsep (Sealed.the_row.own_val z.0.3.0 z.0.4.0) ftrue)) ∷ raw (fact 𝓤 (z.0.3.0.full ≡ true)) ∷ []) ∵ move ! (1 ∷ []) $
    heard ! (z.0.3.0.full ≡ true) (λ full. split ! $ drop ! $
    rewrite ! 0 (λ (y : Bool). ‵ (fsep (Sealed.the_row.own_val (record { at = v.ptr; alloc = v.alloc; full = y; inside = v.value }) z.0.4.0) ftrue)) full refl $ fsplit ! $
    box_out E ! v z.0.4.0 (λ b o hv e ws fa. box_in E ! v b o v.value e refl $ use1 𝓛 (‵ (To.own_val made (word E hv b o ∷ []))) (id⊢ 𝓤 _) $ move ! (1 ∷ 2 ∷ []) $ drop ! $ drop ! $
    let w = word E hv b o in
    let Γ : List (Item 𝓤) = ‵ (To.own_val made (w ∷ [])) ∷ [] in
    by ! (subst (λ (us : List Val). ent 𝓤 (types.Kit.⋆ 𝓛 Γ) (WpFn 𝓤 H 𝓣.C 𝓣.Λ code.function (us ++ []) Post)) (sym ws)
    (qed 𝓛 Γ ∵ enter ! 𝓣.C 𝓣.Λ code.function (w ∷ []) _ $ alloc_all ! (λ ls. pass_all ! refl (box_typed E hv b o fa, tt) $
    sets ! (of_opd ! (get_in ! (fld ! refl (stop !)) (sub ! 0 refl (whole !)))) refl (tt, tt) $ sets ! (of_opd ! (get_in ! (fld ! refl (stop !)) (sub ! 1 refl (whole !)))) refl fa $
    sets ! (of_opd ! (get ! refl)) refl (tt, tt) $
    sets ! (agg ! (and_then ! (get ! refl) (and_then ! (get ! refl) (no_more !)))) refl (box_typed E hv b o fa) $ returns ! (look_at ! 0 refl) $ free_all ! refl $
    suffices ! _ (ends_at 𝓛 F.ended hs c z w made (tt, tt) (tt, tt)) $ says ! refl $
    nothing ! $ nothing ! $ fjoin ! $ join ! $ nothing ! $ join ! $ done !))))))
