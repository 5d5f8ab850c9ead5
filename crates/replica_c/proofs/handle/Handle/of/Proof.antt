-- `of` makes the struct, which owns what the parts owned.
use Rattle.std.proofs.Common.{◌≡◌, Bool, true, Some, List, [], ◌∷◌, ◌++◌, ap, refl, ◌∙◌, subst}
use mir.Val.{Val, vbool, vptr, vstruct, of_list}
use mir.Raw.{raw as bare}
use base.Logic.{emp, fst∗, never}
use base.Fml.{ftrue, fsep}
use prog.Wp.{WpFn}
use types.Logic.{sem}
use types.Kit.{‵, raw, ◌⊛◌, prop, ◌$◌, ◌∵◌, !, qed, by, keep, move, drop, split, use0, regoal, fsplit, fjoin, feq_i, fpack}
use types.Part.{agg, whole, sub}
use types.Run.{fld, stop, of_opd, true_lit, no_more, and_then, returns, enter}
use types.ByLocal.{alloc_all, pass_all, free_all, look_at, get, get_in, sets}
use contract.Monad.{fact, fact_i}
use contract.Running.{tables}
use denote.Builtin.{RawPtr, bool}
use denote.Exit.{yes}
use denote.Memory.{lone}
use denote.RattleType.{RattleType, Valss, owns}
use denote.RawPtr.{Ptr, block_ptr, null_ptr, ptr_val, in_a_block}
use denote.Signature.{types_at, plain}
use denote.Steps.{nothing}
use denote.Struct.Struct.{within}
use denote.Struct.Owning.{shape}
use denote.Triple.Entry.{alive}
use denote.Triple.Walked.{Stays, stay_dropped, walk_of, Goes-dropped}
use Rattle.std.specs.Box.Ownership.{box_owns}
use Rattle.std.specs.contracts.alloc.Global as global
use Rattle.std.specs.contracts.impls.GlobalAllocator.TheImpl.{ghosts}
use Rattle.std.proofs.alloc.Global.TheLaws as global_laws
use Rattle.std.proofs.raw_atomic.Walks.{proved_at, leaves}
use Rattle.libc.specs.Heap.{chunk}
use Rattle.replica_c.specs.contracts.open.OpenReplica as opened
use Rattle.replica_c.proofs.open.OpenReplica.TheLaws as opened_laws
use Rattle.replica_c.specs.contracts.loose.LooseBox as parts
use Rattle.replica_c.proofs.loose.LooseBox.TheLaws as parts_laws
use Rattle.replica_c.specs.contracts.handle.Handle as handle
use Rattle.replica_c.specs.contracts.handle.Handle.of as f
use Rattle.replica_c.proofs.handle.Handle.of.Statement.{statement}
use Rattle.replica_c.proofs.handle.Handle.of.Code as code

abbrev From : RattleType
From = parts.the_row opened.the_row global.the_row ghosts

abbrev stayed : Stays f.ended.signature.params f.ended.kept
stayed = (stay_dropped (plain (λ _. From)) yes, tt)

pub of_spec : {M : Type 1} → statement M
of_spec 𝓤 𝓛 𝓜 𝓡 wired =
    let c = f.clauses 𝓛 𝓜.mem 𝓡.returns in let W = walk_of 𝓛 f.ended stayed c in let 𝓣 = tables 𝓤 𝓛.H 𝓜 𝓡 𝓡.env in
    let lowers = parts_laws.lowers opened.the_row global.the_row ghosts opened_laws.the_row_laws global_laws.the_row_laws global_laws.the_told in
    proved_at 𝓛 f.ended stayed c 𝓜 𝓡 (Goes-dropped 𝓛 0 (plain (λ _. From)) yes (λ κs x w. refl), tt) f.Key.name code.function (code.unfolded 𝓤 𝓛.H 𝓜 𝓡 wired) (λ z are.
    let v = z.0.3.0 in let vs = z.0.4.0 in
    qed 𝓛 ((raw (alive 𝓛 f.signature z.0.0 z.0.1) ⊛ ‵ (owns (types_at f.signature.params z.0.0) z.0.3 z.0.4)) ∷ ‵ ftrue ∷ []) ∵
    split ! $ move ! (1 ∷ []) $ fsplit ! $ fsplit ! $ drop ! $
    in_a_block ! v.ptr (λ p. box_owns chunk opened.the_row p v.value) (fst∗ 𝓤 (never 𝓤) (sem 𝓛 (chunk (bare (lone (opened.the_row).mir)) null_ptr))) (λ b o e.
    let w : Val = vstruct (of_list (vptr b o ∷ vbool true ∷ [])) in
    let made : handle.the_row.Denot = record { at = block_ptr b o; is_open = true; value = Some v.value } in
    let is = lowers.val_is v vs are.0 ∙ ap (λ (p : Ptr). lowers.lowered (record v { ptr = p }) ∷ []) e in
    regoal ! (λ (us : List Val). prop (WpFn 𝓤 𝓛.H 𝓣.C 𝓣.Λ code.function us (W.post z))) (λ i. is i ++ []) refl $
    enter ! 𝓣.C 𝓣.Λ code.function (lowers.lowered (record v { ptr = block_ptr b o }) ∷ []) (W.post z) $
    alloc_all ! (λ l. pass_all ! refl ((tt, (tt, (((tt, tt), tt), tt))), tt) $
    sets ! (of_opd ! (get_in ! (fld ! refl (stop !)) (sub ! 0 refl (whole !)))) refl (tt, tt) $
    sets ! (of_opd ! (get ! refl)) refl (tt, tt) $
    sets ! (agg ! (and_then ! (get ! refl) (and_then ! (true_lit !) (no_more !)))) refl (tt, (tt, (tt, tt))) $
    returns ! (look_at ! 0 refl) $ free_all ! refl $
    -- [the box; nothing; the tokens; nothing]
    use0 𝓛 (raw (fact 𝓤 (made.value ≡ Some v.value))) (fact_i 𝓤 (made.value ≡ Some v.value) (emp 𝓤) refl) $ move ! (1 ∷ []) $
    feq_i ! Bool true true refl $ fjoin ! $ nothing ! $ feq_i ! (List Val) (vbool true ∷ []) (vbool true ∷ []) refl $ fjoin ! $
    feq_i ! (List Val) (vptr b o ∷ []) (ptr_val made.at ∷ []) refl $ fjoin ! $
    feq_i ! (List Val) (w ∷ []) (w ∷ []) refl $ fjoin ! $
    fpack ! (Valss (RawPtr ∷ bool ∷ [])) (within (shape handle.the_type) (made.at, (true, tt)) (w ∷ [])) (vptr b o ∷ [], (vbool true ∷ [], tt)) $ fjoin ! $
    -- [the struct; the fact; nothing; the tokens; nothing]
    nothing ! $ nothing ! $ fjoin ! $ keep ! (4 ∷ 0 ∷ 1 ∷ 2 ∷ []) $ by ! (leaves 𝓛 f.ended stayed c z w made (tt, tt) (tt, tt)))))
