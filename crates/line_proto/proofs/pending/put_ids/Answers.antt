use Rattle.std.proofs.Common.{◌≡◌, ◌++◌, ◌∷◌, ◌∙◌, [], List, ℕ, false, map, ap, sym, subst, append_assoc, rules}
use Rattle.std.proofs.lemmas.Result.{err_from_is_err_and, on_ok_weaker, on_err_weaker}
use Rattle.serde_json.specs.View.{items_of}
use Rattle.serde_json.specs.Written.{items_text}
use Rattle.op_core.specs.Wire.{id_data}
use Rattle.line_proto.specs.Writing.{WritesText}
use Rattle.line_proto.proofs.Pieces.{puts-then, cut-between, next-item, rest-end}
use Rattle.line_proto.proofs.pending.put_ids.Goals as goal

pub returns-in_err-put-clause-cut : goal.returns-in_err-put-clause-cut
returns-in_err-put-clause-cut g c =
    let exit = err_from_is_err_and c.from_residual.result c.from_residual.ensures.1 in
    let (done, puts, e) = c.loop-i.invariant.so_far in
    let next = next-item id_data c.args.ids.now c.loop-i.i c.index-ids-i.result _ done _ c.loop-i-test.true c.index-ids-i.is (c.as_str.ensures.value ∙ c.id_item.ensures.bytes) e in
    rw exit.1 (cut-between _ _ _ c.args.piece.now.bytes c.loop-i.piece.bytes done _ _ _ puts c.in_err-put.ensures.cut next)

pub loop-i-preserved : goal.loop-i-preserved
loop-i-preserved g c =
    let (done, puts, e) = c.loop-i.invariant.so_far in
    let next = next-item id_data c.args.ids.now c.loop-i.i c.index-ids-i.result _ done _ c.loop-i-test.true c.index-ids-i.is (c.as_str.ensures.value ∙ c.id_item.ensures.bytes) e in
    record {
      works = search rules;
      covered = λ n count before. c.in_ok-put.ensures.covered n count (c.loop-i.invariant.covered n count before);
      so_far = (
        _,
        puts-then _ _ _ c.args.piece.now.bytes c.loop-i.piece.bytes c.put.new.piece.bytes done _ puts c.in_ok-put.ensures.ok,
        next ∙ sym (append_assoc done _ _),
      );
    }

pub returns-clause-ok : goal.returns-clause-ok
returns-clause-ok g c =
    let (done, puts, e) = c.loop-i.invariant.so_far in
    let whole : items_text false (items_of (map id_data c.args.ids.now)) ≡ done ++ (93 ∷ []) =
    e ∙ ap (λ s. done ++ s) (rest-end id_data c.args.ids.now c.loop-i.i c.loop-i-test.false) in
    on_ok_weaker c.put-2.result
    (λ last.
    subst (λ (t : List ℕ). WritesText (g.W.Sink.contents c.args.sink.now) (g.W.Sink.contents c.put-2.new.sink) c.args.piece.now.bytes c.put-2.new.piece.bytes t) (sym whole)
    (puts-then _ _ _ c.args.piece.now.bytes c.loop-i.piece.bytes c.put-2.new.piece.bytes done (93 ∷ []) puts last)) c.put-2.ensures.ok

pub returns-clause-cut : goal.returns-clause-cut
returns-clause-cut g c =
    let (done, puts, e) = c.loop-i.invariant.so_far in
    let whole : items_text false (items_of (map id_data c.args.ids.now)) ≡ done ++ ((93 ∷ []) ++ []) =
    e ∙ ap (λ s. done ++ s) (rest-end id_data c.args.ids.now c.loop-i.i c.loop-i-test.false) in
    on_err_weaker c.put-2.result
    (λ last. cut-between _ _ _ c.args.piece.now.bytes c.loop-i.piece.bytes done (93 ∷ []) [] _ puts last whole) c.put-2.ensures.cut
