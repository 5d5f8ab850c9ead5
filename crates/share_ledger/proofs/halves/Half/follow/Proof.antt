-- `follow` puts the two halves together, sets their ids, and cuts them again.
use mathlib.Core.Path.{Path}
use Rattle.std.proofs.Common.{◌≡◌, ℕ, ◌++◌, List, [], ◌∷◌, map, refl, sym, ap}
use Rattle.std.proofs.raw_atomic.Walks.{proved}
use mir.Syntax.{named}
use mir.Val.{Val, vunit}
use base.Fml.{ftrue, flft}
use contract.Monad.{fact}
use types.Kit.{‵, raw, ◌⊛◌, given, later, ◌$◌, ◌∵◌, !, qed, move, keep, drop, use2, split, join, fsplit, fsplit3, fjoin, fjoin3, feq_i, learn, await, rewrite, suffices, group, frame}
use types.Run.{enter, of_opd, unit_lit, returns}
use types.ByLocal.{alloc_all, pass_all, free_all, look_at, sets}
use denote.Exit.{yes}
use denote.RattleType.{owns}
use denote.Ref.{mut_vals, mut_Tells}
use denote.Signature.{plain, types_at}
use denote.Slice.{shr_slice_vals, shr_slice_Tells}
use denote.Steps.{opens, closes, heard}
use denote.Triple.Walked.{Stays, walk_of, stay_ref, Goes-ref, stay_none_slice, Goes-none_slice, ends_at}
use Rattle.lamport_id.specs.declared.id.Id.{Id}
use Rattle.op_core.specs.Op.{Op}
use Rattle.share_ledger.specs.Halves.{Tally, half_owns}
use Rattle.share_ledger.proofs.Steps.{changes}
use Rattle.share_ledger.proofs.Walks.{tells, tells_last}
use Rattle.op_core.specs.contracts.operation.Operation.{the_row as I}
use Rattle.share_ledger.specs.contracts.halves.Half.{the_row as R}
use Rattle.share_ledger.specs.contracts.halves.Half.follow as f
use Rattle.share_ledger.proofs.halves.Half.follow.Statement.{statement}
use Rattle.share_ledger.proofs.halves.Half.follow.Code as code

abbrev stayed : Stays f.ended.signature.params f.ended.kept
stayed = (stay_ref (0 ∷ []) tt (plain (λ _. R)), (stay_ref (1 ∷ []) tt (plain (λ _. R)), (stay_none_slice (2 ∷ []) tt (plain (λ _. I)) yes, tt)))

pub follow_spec : {M : Type 1} → statement M
follow_spec 𝓤 𝓛 𝓜 𝓡 wired =
    let c = f.clauses 𝓛 𝓜.mem 𝓡.returns in let W = walk_of 𝓛 f.ended stayed c in
    proved 𝓛 f.ended stayed c 𝓜 𝓡 (Goes-ref 𝓛 3 0 tt (plain (λ _. R)), (Goes-ref 𝓛 3 1 tt (plain (λ _. R)), (Goes-none_slice 𝓛 3 (2 ∷ []) tt (plain (λ _. I)) yes, tt)))
    f.Key.name code.function (code.unfolded 𝓤 𝓛.H 𝓜 𝓡 wired)
    (λ κs. (mut_vals, (mut_vals, (shr_slice_vals, tt)))) (λ κs. (mut_Tells (named 0) κs.0 R, (mut_Tells (named 1) κs.1.0 R, (shr_slice_Tells (named 2) κs.1.1.0 I, tt)))) (λ κs qs bounds a _ are.
    let r = a.0 in let s = a.1.0 in let logged = a.1.1.0 in let told : List Id = map (λ (op : Op). op.id) logged.now in let x = r.now in let z = s.now in
    let xt : Tally = (x.count, x.ids) in let zt : Tally = (z.count, z.ids) in let more : Tally → Tally = λ t. (t.0, t.1 ++ told) in
    let us = mut_vals r in let vs = mut_vals s in let y : W.Ghost = ((κs, qs, bounds, a, (us, (vs, (shr_slice_vals logged, tt)))), tt) in
    let x' : R.Denot = record x { ids = x.ids ++ told } in let z' : R.Denot = record z { ids = z.ids ++ told } in
    qed 𝓛 (((‵ (flft κs.0 qs.0) ⊛ ‵ (flft κs.1.0 qs.1.0) ⊛ ‵ (flft κs.1.1.0 qs.1.1.0) ⊛ ‵ ftrue) ⊛ ‵ (owns (types_at f.signature.params κs) a y.0.4)) ∷ raw (fact 𝓤 ((x.table ≡ z.table) × (x.counter ≡ z.counter))) ∷ []) ∵
    move ! (1 ∷ []) $ heard ! _ (λ one_counter.
    let there : Path (ℕ × ℕ) (z.table, z.counter) (x.table, x.counter) = λ i. (sym one_counter.0 i, sym one_counter.1 i) in
    split ! $ split ! $ move ! (1 ∷ []) $ split ! $ move ! (3 ∷ []) $ fsplit ! $ fsplit3 ! $ drop ! $ move ! (2 ∷ []) $ fsplit ! $ fsplit3 ! $ drop ! $
    keep ! (3 ∷ 4 ∷ 7 ∷ 0 ∷ 1 ∷ 5 ∷ 2 ∷ 6 ∷ []) $ enter ! _ _ _ _ _ $ alloc_all ! (λ l. pass_all ! refl ((tt, tt), ((tt, tt), ((tt, (tt, (record { fits = are.1.1.0.0.1.0 }, tt))), tt))) $
    opens ! tt R r.ref_ptr.0 r.ref_ptr.1 (λ cs. move ! (5 ∷ 6 ∷ 7 ∷ []) $ opens ! tt R s.ref_ptr.0 s.ref_ptr.1 (λ ds. move ! (1 ∷ []) $ fsplit ! $ move ! (7 ∷ []) $ fsplit ! $ move ! (1 ∷ 3 ∷ []) $
    -- [two halves; what the fields own, twice; four entries for each reference]
    rewrite ! 1 (λ (p : ℕ × ℕ). ‵ (half_owns p.0 p.1 zt)) there refl $
    use2 𝓛 (later (given (xt ≡ zt) (‵ (half_owns x.table x.counter (more xt)) ⊛ ‵ (half_owns x.table x.counter (more zt))))) (changes 𝓛 x.table x.counter xt zt more) $ await ! tt $ learn ! (λ same. split ! $
    rewrite ! 1 (λ (p : ℕ × ℕ). ‵ (half_owns p.0 p.1 (more zt))) (sym there) refl $
    move ! (2 ∷ 0 ∷ []) $ fjoin ! $ move ! (2 ∷ 1 ∷ []) $ fjoin ! $ move ! (2 ∷ 0 ∷ 3 ∷ 4 ∷ 5 ∷ []) $ closes ! tt R z' ds s.ref_ptr.0 s.ref_ptr.1 $
    move ! (4 ∷ 3 ∷ 5 ∷ 6 ∷ 7 ∷ []) $ closes ! tt R x' cs r.ref_ptr.0 r.ref_ptr.1 $
    sets ! (of_opd ! (unit_lit !)) refl (tt, tt) $ returns ! (look_at ! 0 refl) $ free_all ! refl $
    suffices ! _ (ends_at 𝓛 f.ended stayed c y vunit tt (x', (z', (tt, tt))) (tt, (tt, (tt, tt)))) $
    feq_i ! (List Val) us us refl $ fjoin3 ! $ move ! (2 ∷ 3 ∷ []) $ feq_i ! (List Val) vs vs refl $ fjoin3 ! $
    -- [the two references; two tokens; the slice, and the end of the list; the other tokens]
    move ! (0 ∷ 4 ∷ []) $ fjoin ! $ move ! (1 ∷ 0 ∷ []) $ fjoin ! $ feq_i ! (List Val) (vunit ∷ []) (vunit ∷ []) refl $ move ! (1 ∷ 0 ∷ []) $
    move ! (3 ∷ 4 ∷ []) $ join ! $ move ! (3 ∷ 0 ∷ []) $ join ! $ group ! 3 $ frame ! $ tells ! (refl, refl, refl, refl) $ tells ! (refl, refl, refl, refl) $ tells_last ! (ap (λ (t : Tally). t.0) same, ap (λ (t : Tally). t.1) same)))))))
