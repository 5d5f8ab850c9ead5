-- `into_parts` hands on what the struct owns, by its flag.
use Rattle.std.proofs.Common.{◌≡◌, ℕ, Bool, true, false, not, Option, Some, None, option_map, List, [], ◌∷◌, ◌++◌, ap, refl, sym, ◌∙◌}
use seplogic.Ra.Ura.{Ura}
use lib.Dec.{T, lit<}
use mir.Syntax.{ty_ptr}
use mir.Val.{Val, vbool, vptr, vstruct, of_list, has_ty, WT}
use mir.Raw.{raw as bare}
use base.Logic.{SProp, ent, emp, fst∗, never}
use base.Fml.{ftrue, fsep}
use prog.Memory.{Memory}
use prog.Routine.{Routine}
use prog.Wp.{Calls, Loops, WpFn}
use types.Logic.{Logic, sem}
use types.Match.{live}
use types.Kit.{Sq, ‵, raw, ◌⊛◌, prop, at_ret, ◌$◌, ◌∵◌, !, qed, by, keep, move, drop, split, use0, rewrite, regoal, fsplit, fjoin, feq_i, feq_l, fpack}
use types.Part.{agg, whole, sub}
use types.Run.{fld, stop, of_opd, lit, no_more, and_then, first, branches, exec, returns, enter}
use types.ByLocal.{alloc_all, pass_all, free_all, look_at, get, get_in, sets, sets_last, env}
use contract.Monad.{Fun, fact, fact_i}
use contract.Running.{tables}
use denote.Builtin.{RawPtr}
use denote.Enum.Row.{tagged_with}
use denote.Enum.Enum.{form_of, in_a_row}
use denote.Enum.Declared.{shape as forms}
use denote.Exit.{yes}
use denote.Laws.{Are, Ises}
use denote.Memory.{lone}
use denote.Param.{layout}
use denote.RattleType.{RattleType, Valss, owns}
use denote.RawPtr.{Ptr, block_ptr, null_ptr, ptr_val, in_a_block}
use denote.Signature.{types_at, plain}
use denote.Steps.{nothing}
use denote.Struct.Struct.{within}
use denote.Struct.Owning.{shape}
use denote.Triple.Clauses.{Clauses}
use denote.Triple.Entry.{alive}
use denote.Triple.Statement.{Contract}
use denote.Triple.Walked.{Stays, stay_dropped, walk_of, Goes-dropped}
use Rattle.std.specs.Box.Ownership.{box_owns}
use Rattle.std.specs.contracts.alloc.Global as global
use Rattle.std.specs.contracts.impls.GlobalAllocator.TheImpl.{ghosts}
use Rattle.std.specs.contracts.option.Option as option
use Rattle.std.proofs.VecSteps.Shapes.{after}
use Rattle.std.proofs.alloc.Global.TheLaws as global_laws
use Rattle.std.proofs.raw_atomic.Walks.{proved_at, leaves}
use Rattle.libc.specs.Heap.{chunk}
use Rattle.replica_c.specs.Handles.{handle_owns}
use Rattle.replica_c.specs.contracts.open.OpenReplica as opened
use Rattle.replica_c.proofs.open.OpenReplica.TheLaws as opened_laws
use Rattle.replica_c.specs.contracts.loose.LooseBox as parts
use Rattle.replica_c.specs.contracts.handle.Handle as handle
use Rattle.replica_c.proofs.handle.Handle.TheLaws as handle_laws
use Rattle.replica_c.specs.contracts.handle.Handle.into_parts as f
use Rattle.replica_c.proofs.handle.Handle.into_parts.Statement.{statement}
use Rattle.replica_c.proofs.handle.Handle.into_parts.Code as code

abbrev To : RattleType
To = parts.the_row opened.the_row global.the_row ghosts

abbrev OptTo : RattleType
OptTo = option.the_row To

ptr_typed : (p : Ptr) → T (has_ty ty_ptr (ptr_val p)) × WT (ptr_val p)
ptr_typed (block_ptr b o) = (tt, tt)
ptr_typed null_ptr = (tt, record { fits = lit< tt })

handle_typed : (p : Ptr) (b : Bool) → T (has_ty (layout handle.the_row) (vstruct (of_list (ptr_val p ∷ vbool b ∷ [])))) × WT (vstruct (of_list (ptr_val p ∷ vbool b ∷ [])))
handle_typed (block_ptr b o) k = (tt, (tt, (tt, tt)))
handle_typed null_ptr k = (tt, (record { fits = lit< tt }, (tt, tt)))

abbrev stayed : Stays f.ended.signature.params f.ended.kept
stayed = (stay_dropped (plain (λ _. handle.the_row)) yes, (stay_dropped (plain (λ _. global.the_row)) yes, tt))

module _ {M : Type 1} {𝓤 : Ura M} (𝓛 : Logic 𝓤) (at_mem : Memory → SProp 𝓤) (run : Routine → Fun 𝓤) (C : Calls 𝓤 𝓛.H) (Λ : Loops 𝓤 𝓛.H) where
  open 𝓛 use {H}

  abbrev c : Clauses 𝓤 f.ended
  c = f.clauses 𝓛 at_mem run

  abbrev W : Contract 𝓤
  W = walk_of 𝓛 f.ended stayed c

  module _ (z : (walk_of 𝓛 f.ended stayed c).Ghost) (are : Are (types_at f.signature.params z.0.0) (Ises (types_at f.signature.params z.0.0)) z.0.3 z.0.4) where
    abbrev s : handle.the_row.Denot
    s = z.0.3.0

    walk : (x : Option opened.the_row.Denot) → s.value ≡ x
        → ent 𝓤 ((walk_of 𝓛 f.ended stayed c).pre z) (WpFn 𝓤 H C Λ code.function ((walk_of 𝓛 f.ended stayed c).args z) ((walk_of 𝓛 f.ended stayed c).post z))
    walk None e =
        let a = z.0.3.1.0 in let gv = global_laws.lowers.lowered a in
        qed 𝓛 ((raw (alive 𝓛 f.signature z.0.0 z.0.1) ⊛ ‵ (owns (types_at f.signature.params z.0.0) z.0.3 z.0.4)) ∷ ‵ ftrue ∷ []) ∵
        split ! $ move ! (1 ∷ []) $ fsplit ! $ fsplit ! $ drop ! $
        rewrite ! 0 (λ x. ‵ (handle_owns chunk opened.the_row s.is_open s.at x)) e refl $ feq_l ! (λ shut.
        let is = handle_laws.lowers.val_is s z.0.4.0 are.0 ∙ ap (λ k. handle_laws.lowers.lowered (record s { is_open = k }) ∷ []) shut in
        let gis = global_laws.lowers.val_is a z.0.4.1.0 are.1.0 in
        regoal ! (λ (us : List Val). prop (WpFn 𝓤 H C Λ code.function us ((walk_of 𝓛 f.ended stayed c).post z))) (λ i. is i ++ (gis i ++ [])) refl $
        enter ! C Λ code.function (handle_laws.lowers.lowered (record s { is_open = false }) ∷ gv ∷ []) ((walk_of 𝓛 f.ended stayed c).post z) $
        alloc_all ! (λ l. pass_all ! refl (handle_typed s.at false, ((tt, ((tt, tt), tt)), tt)) $
        sets ! (of_opd ! (get_in ! (fld ! refl (stop !)) (sub ! 0 refl (whole !)))) refl (ptr_typed s.at) $
        sets ! (of_opd ! (get_in ! (fld ! refl (stop !)) (sub ! 1 refl (whole !)))) refl (tt, tt) $
        sets ! (of_opd ! (get ! refl)) refl (tt, tt) $
        first ! $ branches ! (get ! refl)
        (λ never. absurd never)
        (λ _. sets_last ! (agg ! (and_then ! (lit ! tt) (no_more !))) refl (tt, (record { fits = lit< tt }, tt)) $
        exec ! C Λ (env code.function.locals l) (after 4 code.function.body) (at_ret (env code.function.locals l) ((walk_of 𝓛 f.ended stayed c).post z)) $
        sets ! (of_opd ! (get ! refl)) refl (tt, (record { fits = lit< tt }, tt)) $
        returns ! (look_at ! 0 refl) $ free_all ! refl $
        use0 𝓛 (raw (fact 𝓤 (None ≡ s.value))) (fact_i 𝓤 (None ≡ s.value) (emp 𝓤) (sym e)) $
        nothing ! $ feq_i ! (List Val) [] [] refl $ fjoin ! $ fpack ! (Valss []) (in_a_row [] (owns [] tt) []) tt $
        feq_i ! (List Val) (live 0 (of_list []) ∷ []) (live 0 (of_list []) ∷ []) refl $ fjoin ! $
        fpack ! (List Val) (tagged_with (form_of (forms (option.the_type To))) (form_of (forms (option.the_type To))).payload ((option.the_type To).to None) (live 0 (of_list []) ∷ [])) [] $
        nothing ! $ nothing ! $ fjoin ! $ nothing ! $ fjoin ! $
        keep ! (4 ∷ 0 ∷ 1 ∷ 2 ∷ []) $ by ! (leaves 𝓛 f.ended stayed (f.clauses 𝓛 at_mem run) z (live 0 (of_list [])) None (tt, (tt, tt)) (tt, (tt, tt))))))
    walk (Some x) e =
        let a = z.0.3.1.0 in let gv = global_laws.lowers.lowered a in
        qed 𝓛 ((raw (alive 𝓛 f.signature z.0.0 z.0.1) ⊛ ‵ (owns (types_at f.signature.params z.0.0) z.0.3 z.0.4)) ∷ ‵ ftrue ∷ []) ∵
        split ! $ move ! (1 ∷ []) $ fsplit ! $ fsplit ! $ drop ! $
        rewrite ! 0 (λ x. ‵ (handle_owns chunk opened.the_row s.is_open s.at x)) e refl $ fsplit ! $ feq_l ! (λ kept.
        in_a_block ! s.at (λ p. box_owns chunk opened.the_row p x) (fst∗ 𝓤 (never 𝓤) (sem 𝓛 (chunk (bare (lone (opened.the_row).mir)) null_ptr))) (λ b o at_is.
        let is = handle_laws.lowers.val_is s z.0.4.0 are.0 ∙ ap (λ k. handle_laws.lowers.lowered (record s { is_open = k }) ∷ []) kept
        ∙ ap (λ p. handle_laws.lowers.lowered (record s { at = p; is_open = true }) ∷ []) at_is in
        let gis = global_laws.lowers.val_is a z.0.4.1.0 are.1.0 in
        let w : Val = vstruct (of_list (vptr b o ∷ gv ∷ [])) in
        let made : To.Denot = record { ptr = block_ptr b o; alloc = a; value = x } in
        regoal ! (λ (us : List Val). prop (WpFn 𝓤 H C Λ code.function us ((walk_of 𝓛 f.ended stayed c).post z))) (λ i. is i ++ (gis i ++ [])) refl $
        enter ! C Λ code.function (vstruct (of_list (vptr b o ∷ vbool true ∷ [])) ∷ gv ∷ []) ((walk_of 𝓛 f.ended stayed c).post z) $
        alloc_all ! (λ l. pass_all ! refl ((tt, (tt, (tt, tt))), ((tt, ((tt, tt), tt)), tt)) $
        sets ! (of_opd ! (get_in ! (fld ! refl (stop !)) (sub ! 0 refl (whole !)))) refl (tt, tt) $
        sets ! (of_opd ! (get_in ! (fld ! refl (stop !)) (sub ! 1 refl (whole !)))) refl (tt, tt) $
        sets ! (of_opd ! (get ! refl)) refl (tt, tt) $
        first ! $ branches ! (get ! refl)
        (λ _. sets ! (of_opd ! (get ! refl)) refl (tt, tt) $
        sets ! (agg ! (and_then ! (get ! refl) (and_then ! (get ! refl) (no_more !)))) refl (tt, (tt, (((tt, tt), tt), tt))) $
        sets_last ! (agg ! (and_then ! (lit ! tt) (and_then ! (get ! refl) (no_more !)))) refl (tt, (record { fits = lit< tt }, ((tt, (((tt, tt), tt), tt)), tt))) $
        exec ! C Λ (env code.function.locals l) (after 4 code.function.body) (at_ret (env code.function.locals l) ((walk_of 𝓛 f.ended stayed c).post z)) $
        sets ! (of_opd ! (get ! refl)) refl (tt, (record { fits = lit< tt }, ((tt, (((tt, tt), tt), tt)), tt))) $
        returns ! (look_at ! 0 refl) $ free_all ! refl $
        use0 𝓛 (raw (fact 𝓤 (Some x ≡ s.value))) (fact_i 𝓤 (Some x ≡ s.value) (emp 𝓤) (sym e)) $
        move ! (2 ∷ []) $ rewrite ! 0 (λ (us : List Val). ‵ (fsep ((global.the_row).own_val a us) ftrue)) gis refl $
        feq_i ! (List Val) (vptr b o ∷ []) (ptr_val made.ptr ∷ []) refl $ fjoin ! $
        feq_i ! (List Val) (w ∷ []) (w ∷ []) refl $ fjoin ! $
        fpack ! (Valss (RawPtr ∷ global.the_row ∷ [])) (within (shape (parts.the_type opened.the_row global.the_row ghosts)) (made.ptr, (a, tt)) (w ∷ [])) (vptr b o ∷ [], (gv ∷ [], tt)) $
        move ! (0 ∷ 2 ∷ []) $ fjoin ! $
        nothing ! $ move ! (1 ∷ 0 ∷ []) $ fjoin ! $ feq_i ! (List Val) (w ∷ []) (w ∷ []) refl $ fjoin ! $
        fpack ! (Valss (To ∷ [])) (in_a_row (To ∷ []) (owns (To ∷ []) (made, tt)) (w ∷ [])) (w ∷ [], tt) $
        feq_i ! (List Val) (live 1 (of_list (w ∷ [])) ∷ []) (live 1 (of_list (w ∷ [])) ∷ []) refl $ fjoin ! $
        fpack ! (List Val) (tagged_with (form_of (forms (option.the_type To))) (form_of (forms (option.the_type To))).payload ((option.the_type To).to (Some made)) (live 1 (of_list (w ∷ [])) ∷ [])) (w ∷ []) $
        nothing ! $ nothing ! $ fjoin ! $ nothing ! $ fjoin ! $
        keep ! (3 ∷ 0 ∷ 1 ∷ 2 ∷ []) $ by ! (leaves 𝓛 f.ended stayed (f.clauses 𝓛 at_mem run) z (live 1 (of_list (w ∷ []))) (Some made) (tt, (tt, tt)) (tt, (tt, tt))))
        (λ never. absurd never))))

pub into_parts_spec : {M : Type 1} → statement M
into_parts_spec 𝓤 𝓛 𝓜 𝓡 wired =
    let 𝓣 = tables 𝓤 𝓛.H 𝓜 𝓡 𝓡.env in
    proved_at 𝓛 f.ended stayed (f.clauses 𝓛 𝓜.mem 𝓡.returns) 𝓜 𝓡 (Goes-dropped 𝓛 0 (plain (λ _. handle.the_row)) yes (λ κs x w. refl), (Goes-dropped 𝓛 0 (plain (λ _. global.the_row)) yes (λ κs x w. refl), tt))
    f.Key.name code.function (code.unfolded 𝓤 𝓛.H 𝓜 𝓡 wired) (λ z are. walk 𝓛 𝓜.mem 𝓡.returns 𝓣.C 𝓣.Λ z are z.0.3.0.value refl)
