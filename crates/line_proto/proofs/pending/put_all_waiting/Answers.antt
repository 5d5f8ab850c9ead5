use Rattle.std.proofs.Common.{◌≡◌, ◌++◌, ◌∷◌, ◌∙◌, [], List, ℕ, false, map, ap, sym, subst, append_assoc, rules, refl}
use Rattle.std.proofs.lemmas.Result.{err_from_is_err_and, on_ok_weaker, on_err_weaker}
use Rattle.serde_json.specs.View.{items_of}
use Rattle.serde_json.specs.Written.{items_text}
use Rattle.line_proto.specs.Replies.{waiting_data}
use Rattle.line_proto.specs.Writing.{WritesText}
use Rattle.line_proto.proofs.Pieces.{puts-then, cut-between, next-item, rest-end}
use Rattle.line_proto.proofs.pending.put_all_waiting.Goals as goal

pub returns-in_err-put_waiting-clause-cut : goal.returns-in_err-put_waiting-clause-cut
returns-in_err-put_waiting-clause-cut g c =
    let exit = err_from_is_err_and c.from_residual.result c.from_residual.ensures.1 in
    let (done, puts, e) = c.loop-i.invariant.so_far in
    let next = next-item waiting_data c.args.waiting.now c.loop-i.i c.index-waiting-i.result _ done _ c.loop-i-test.true c.index-waiting-i.is refl e in
    rw exit.1 (cut-between _ _ _ c.args.piece.now.bytes c.loop-i.piece.bytes done _ _ _ puts c.in_err-put_waiting.ensures.cut next)

pub loop-i-preserved : goal.loop-i-preserved
loop-i-preserved g c =
    let (done, puts, e) = c.loop-i.invariant.so_far in
    let next = next-item waiting_data c.args.waiting.now c.loop-i.i c.index-waiting-i.result _ done _ c.loop-i-test.true c.index-waiting-i.is refl e in
    record {
      works = search rules;
      covered = λ n count before. c.in_ok-put_waiting.ensures.covered n count (c.loop-i.invariant.covered n count before);
      so_far = (
        _,
        puts-then _ _ _ c.args.piece.now.bytes c.loop-i.piece.bytes c.put_waiting.new.piece.bytes done _ puts c.in_ok-put_waiting.ensures.ok,
        next ∙ sym (append_assoc done _ _),
      );
    }

pub returns-clause-ok : goal.returns-clause-ok
returns-clause-ok g c =
    let (done, puts, e) = c.loop-i.invariant.so_far in
    let whole : items_text false (items_of (map waiting_data c.args.waiting.now)) ≡ done ++ (93 ∷ []) =
    e ∙ ap (λ s. done ++ s) (rest-end waiting_data c.args.waiting.now c.loop-i.i c.loop-i-test.false) in
    on_ok_weaker c.put.result
    (λ last.
    subst (λ (t : List ℕ). WritesText (g.W.Sink.contents c.args.sink.now) (g.W.Sink.contents c.put.new.sink) c.args.piece.now.bytes c.put.new.piece.bytes t) (sym whole)
    (puts-then _ _ _ c.args.piece.now.bytes c.loop-i.piece.bytes c.put.new.piece.bytes done (93 ∷ []) puts last)) c.put.ensures.ok

pub returns-clause-cut : goal.returns-clause-cut
returns-clause-cut g c =
    let (done, puts, e) = c.loop-i.invariant.so_far in
    let whole : items_text false (items_of (map waiting_data c.args.waiting.now)) ≡ done ++ ((93 ∷ []) ++ []) =
    e ∙ ap (λ s. done ++ s) (rest-end waiting_data c.args.waiting.now c.loop-i.i c.loop-i-test.false) in
    on_err_weaker c.put.result
    (λ last. cut-between _ _ _ c.args.piece.now.bytes c.loop-i.piece.bytes done (93 ∷ []) [] _ puts last whole) c.put.ensures.cut
