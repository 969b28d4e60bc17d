-- `lend` lends the value behind the pointer, and the handle follows it.
use mathlib.Core.Path.{◌≡◌, refl, sym, ap, subst, ◌∙◌}
use mathlib.Core.Bool.{Bool, true}
use mathlib.Core.List.{List, [], ◌∷◌, ◌++◌}
use Prim.Native.Nat.{ℕ}
use seplogic.Ra.Ura.{Ura}
use base.Fraction.{full_share}
use mir.Syntax.{named}
use mir.Raw.{raw as bare}
use mir.Val.{Val, vptr, vbool, vstruct, of_list}
use base.Logic.{SProp, ent, sep, id⊢}
use base.Fml.{GName, Fml, ftrue, fsep, flft}
use prog.Memory.{Memory}
use prog.Routine.{Routine}
use prog.Model.{Model}
use prog.Wp.{Env, WpFn}
use types.Logic.{Logic, sem}
use contract.Monad.{Fun, fact}
use contract.Running.{MachineTables, tables}
use types.Kit.{‵, raw, ◌⊛◌, some, later, at_ret, ◌$◌, ◌∵◌, !, qed, move, keep, drop, use1, join, split, split3, group, pick, rewrite}
use types.Kit.{fsplit, fsplit3, fjoin, fpack, fpick, feq_i, feq_l, frame, suffices, await, done}
use types.Part.{whole, sub, look_in}
use types.Run.{stop, fld, addr, load, of_opd, first, blocks, exec, returns, enter}
use types.ByLocal.{alloc_all, pass_all, free_all, look_at, get, through, sets, sets_last, env}
use denote.RattleType.{RattleType, owns, Valss}
use denote.Plain.{Boolean, bool_vals}
use denote.Struct.{Struct.within, Declared.shape}
use Rattle.std.specs.Prelude.{if◌then◌else◌}
use denote.Exit.{no}
use denote.Memory.{part_at, part_of, raw_all, mem, cell_at}
use denote.RawPtr.{block_ptr}
use denote.Ref.{MutRef, mut_vals, mut_Tells}
use denote.Signature.{plain, mut_ref_to}
use denote.Steps.{nothing, heard, opens}
use denote.Triple.Clauses.{Clauses}
use denote.Triple.Walked.{says, Stays, stay_dropped, walk_of, ends_at, Goes-spent_ref}
use Rattle.std.proofs.raw_atomic.Walks.{proved}
use denote.Follow.{follows, Part, lends_Part}
use Rattle.core.proofs.alloc.{Calls.token, Shapes.after}
use Rattle.std_alloc.proofs.BoxSteps.{Form.D, Form.R, Form.τ, Form.handle, Form.word, Steps.box_out, Steps.box_in}
use Rattle.dspec_c.specs.{Words.held_in, Words.with_inside, contracts.handle.Handle.lend.Key.name as #self, declared.held.HandleValue.TheVariants.Nothing}
use Rattle.dspec_c.specs.contracts.handle.HandleContents as Home
use Rattle.dspec_c.proofs.handle.HandleContents.TheLaws as home
use Rattle.dspec_c.proofs.AsBox.{E}
use Rattle.dspec_c.specs.contracts.handle.Seal as Sealed
use Rattle.dspec_c.specs.contracts.handle.Handle as Held
use Rattle.dspec_c.specs.contracts.handle.Handle.lend as F
use Rattle.dspec_c.proofs.handle.Handle.lend.Statement as stated
use Rattle.dspec_c.proofs.handle.Handle.lend.Code as code

abbrev S : RattleType
S = Held.the_row

abbrev T : RattleType
T = Home.the_row

abbrev stayed : Stays (F.ended).signature.params (F.ended).kept
stayed = (stay_dropped (mut_ref_to (0 ∷ []) tt (plain (λ _. S))) no, tt)

held_now : (d : S.Denot) → d.held ≡ true → d.seal.inside.held ≡ held_in d
held_now d is = subst (λ (y : Bool). d.seal.inside.held ≡ (if y then d.seal.inside.held else Nothing)) (sym is) refl

abbrev boxed : S.Denot → T.Denot → D E
boxed d x = record { ptr = d.seal.at; alloc = d.seal.alloc; value = x }

-- a full handle's machine value, of its box's
abbrev over : Val → Val
over w = vstruct (of_list (vbool true ∷ w ∷ []))

as_param : (x : T.Denot) (b o : ℕ) → part_at T full_share x b o ≡ part_at (R E) full_share x b o
as_param x b o j = part_of (raw_all (home.the_row_laws.one j)) T.own_val full_share x b o

module _ {M : Type 1} {𝓤 : Ura M} (𝓛 : Logic 𝓤) (at_mem : Memory → SProp 𝓤) (run : Routine → Fun 𝓤) {𝓜 : Model 𝓤 𝓛.H} (𝓣 : MachineTables 𝓤 𝓛.H 𝓜) where
  open 𝓛 use {H}

  abbrev held : Clauses 𝓤 F.ended
  held = F.clauses 𝓛 at_mem run

  module _ (d : S.Denot) (b o b' o' : ℕ) (hv : Val) where
    -- all of the handle but its value
    abbrev Rest : Fml
    Rest = fsep (token E.al d.seal.alloc (bare (τ E)) (block_ptr b' o')) (fsep (handle E d.seal.alloc hv) (cell_at full_share S.mir (over (word E hv b' o') ∷ []) b o))

    back : d.held ≡ true → d.seal.full ≡ true → d.seal.at ≡ block_ptr b' o' → (w : T.Denot)
        → ent 𝓤 (sep 𝓤 (sem 𝓛 ((mem T).own_at w b' o')) (sem 𝓛 Rest)) (sem 𝓛 ((mem S).own_at (with_inside d w) b o))
    unfolding part_of
    back is full e w =
        let u = word E hv b' o' in
        qed 𝓛 (‵ (part_at T full_share w b' o') ∷ ‵ Rest ∷ []) ∵ rewrite ! 0 (λ (P : Fml). ‵ P) (as_param w b' o') refl $
        move ! (1 ∷ []) $ fsplit ! $ move ! (1 ∷ []) $ fsplit ! $ move ! (3 ∷ 2 ∷ 0 ∷ []) $
        box_in E ! {hv = hv} (boxed d w) b' o' w e refl $
        rewrite ! 0 (λ (y : Bool). ‵ (Sealed.the_row.own_val (record { at = d.seal.at; alloc = d.seal.alloc; full = y; inside = w }) (u ∷ []))) (sym full) refl $
        nothing ! $ move ! (1 ∷ 0 ∷ []) $ fjoin ! $ feq_i ! (List Val) (vbool true ∷ []) (vbool d.held ∷ []) (ap bool_vals (sym is)) $ fjoin ! $
        feq_i ! (List Val) (over u ∷ []) (over u ∷ []) refl $ fjoin ! $
        fpack ! (Valss (Boolean ∷ Sealed.the_row ∷ [])) (within (shape Held.the_type) (d.held, (record d.seal { inside = w }, tt)) (over u ∷ [])) (vbool true ∷ [], (u ∷ [], tt)) $
        move ! (1 ∷ 0 ∷ []) $ fjoin ! $
        fpack ! (List Val) (λ us. fsep (cell_at full_share S.mir us b o) (S.own_val (with_inside d w) us)) (over u ∷ []) $ done !

  abbrev at : (walk_of 𝓛 F.ended stayed held).Ghost → (walk_of 𝓛 F.ended stayed held).Ghost
  at y = ((y.0.0, y.0.1, y.0.2, y.0.3, (mut_vals y.0.3.0, tt)), y.1)

  walk : (y : (walk_of 𝓛 F.ended stayed held).Ghost)
      → ent 𝓤 ((walk_of 𝓛 F.ended stayed held).pre (at y)) (WpFn 𝓤 H 𝓣.C 𝓣.Λ code.function (mut_vals y.0.3.0) ((walk_of 𝓛 F.ended stayed held).post (at y)))
  walk y =
      let κ = y.0.0.0 in let q = y.0.1.0 in let self = y.0.3.0 in let Post = (walk_of 𝓛 F.ended stayed held).post (at y) in
      let d = self.now in let b = self.ref_ptr.0 in let o = self.ref_ptr.1 in let γ = self.ghost_name in
      let c = S.coded.code d in let x = d.seal.inside in
      qed 𝓛 (((‵ (flft κ q) ⊛ ‵ ftrue) ⊛ ‵ (owns (MutRef (named 0) κ S ∷ []) (self, tt) (vptr b o ∷ [], tt))) ∷ raw (fact 𝓤 (d.held ≡ true)) ∷ []) ∵
      move ! (1 ∷ []) $ heard ! (d.held ≡ true) (λ is. let full : d.seal.full ≡ true = d.agrees ∙ is in
      enter ! 𝓣.C 𝓣.Λ code.function (vptr b o ∷ []) _ $ alloc_all ! (λ ls. pass_all ! refl ((tt, tt), tt) $ let En : Env 𝓤 H = env code.function.locals ls in
      split ! $ split ! $ move ! (2 ∷ []) $ fsplit ! $ fsplit3 ! $ drop ! $ move ! (0 ∷ 1 ∷ 3 ∷ []) $
      opens ! tt S {h = d} b o (λ vs. move ! (1 ∷ []) $
      fpick ! (λ vss. fsplit ! $ feq_l ! (λ ev. fsplit ! $ feq_l ! (λ eb. fsplit ! $ move ! (1 ∷ []) $ drop ! $
      rewrite ! 0 (λ (y : Bool). ‵ (Sealed.the_row.own_val (record { at = d.seal.at; alloc = d.seal.alloc; full = y; inside = x }) vss.1.0)) full refl $
      box_out E ! (boxed d x) vss.1.0 (λ b' o' hv e ws fa.
      let seen : vs ≡ over (word E hv b' o') ∷ [] =
      ev ∙ ap (λ (us : List Val). vstruct (of_list (us ++ (vss.1.0 ++ []))) ∷ []) (eb ∙ ap bool_vals is) ∙ ap (λ (us : List Val). vstruct (of_list (vbool true ∷ (us ++ []))) ∷ []) ws in
      rewrite ! 3 (λ (us : List Val). ‵ (cell_at full_share S.mir us b o)) seen refl $
      first ! $ blocks ! $ sets ! (of_opd ! (load ! (through ! refl (fld ! refl (fld ! refl (stop !)))) (look_in ! 3 (sub ! 0 refl (sub ! 1 refl (whole !)))))) refl (tt, tt) $
      sets ! (of_opd ! (get ! refl)) refl (tt, tt) $
      sets_last ! (addr ! (through ! refl (stop !))) refl (tt, tt) $ exec ! 𝓣.C 𝓣.Λ En (after 1 (code.function).body) (at_ret En Post) $ sets ! (of_opd ! (get ! refl)) refl (tt, tt) $
      rewrite ! 0 (λ (P : Fml). ‵ P) (sym (as_param x b' o')) refl $ move ! (2 ∷ 3 ∷ []) $ fjoin ! $ move ! (2 ∷ 0 ∷ []) $ fjoin ! $ move ! (2 ∷ 3 ∷ 4 ∷ 1 ∷ 0 ∷ []) $ group ! 5 $
      use1 𝓛 (later (some (λ (γ' : GName). raw (Part 𝓛 S T (with_inside d) (named 0) κ q b o b' o' γ (sem 𝓛 (Rest d b o b' o' hv)) (back d b o b' o' hv is full e) x γ'))))
      (lends_Part 𝓛 S T (with_inside d) (named 0) κ q b o b' o' γ (sem 𝓛 (Rest d b o b' o' hv)) (back d b o b' o' hv is full e) c c x) $ await ! tt $ pick ! (λ γ'.
      use1 𝓛 (‵ ((MutRef (named 0) κ T).own_val (record { ref_ptr = (b', o'); ghost_name = γ'; now = x }) (vptr b' o' ∷ [])) ⊛ ‵ (flft κ q) ⊛ ‵ (follows S T γ γ' (with_inside d)))
      (id⊢ 𝓤 _) $ split3 ! $
      returns ! (look_at ! 0 refl) $ free_all ! refl $ keep ! (0 ∷ 1 ∷ 2 ∷ []) $
      suffices ! _ (ends_at 𝓛 F.ended stayed held (at y) (vptr b' o') (record { ref_ptr = (b', o'); ghost_name = γ'; now = x }) (tt, tt) (tt, tt)) $
      nothing ! $ nothing ! $ fjoin ! $ join ! $ nothing ! $ move ! (2 ∷ 0 ∷ []) $ join ! $ join ! $ frame ! $ says ! (held_now d is) $ done !))))))))

pub lend_spec : {M : Type 1} → stated.statement M
lend_spec 𝓤 𝓛 𝓜 𝓡 wired =
    proved 𝓛 F.ended stayed (F.clauses 𝓛 𝓜.mem 𝓡.returns) 𝓜 𝓡 (Goes-spent_ref 𝓛 1 (0 ∷ []) tt (plain (λ _. S)), tt) #self code.function (code.unfolded 𝓤 𝓛.H 𝓜 𝓡 wired)
    (λ κs. (mut_vals, tt)) (λ κs. (mut_Tells (named 0) κs.0 S, tt))
    (λ κs qs bounds a g are. walk 𝓛 𝓜.mem 𝓡.returns (tables 𝓤 𝓛.H 𝓜 𝓡 𝓡.env) ((κs, qs, bounds, a, (mut_vals a.0, tt)), g))
