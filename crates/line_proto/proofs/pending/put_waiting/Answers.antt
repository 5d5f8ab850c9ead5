use Rattle.std.proofs.Common.{◌≡◌, ◌++◌, ◌∷◌, ◌∙◌, [], List, ℕ, false, map, ap, sym, subst, append_assoc}
use Rattle.std.proofs.lemmas.Result.{err_from_is_err_and, on_ok_weaker, on_err_weaker}
use Rattle.serde_json.specs.View.{items_of}
use Rattle.serde_json.specs.Written.{comma_if, compact_text, items_text}
use Rattle.op_core.specs.Wire.{id_data}
use Rattle.line_proto.specs.Replies.{waiting_data}
use Rattle.line_proto.specs.Writing.{WritesText}
use Rattle.line_proto.proofs.Pieces.{puts-nil, puts-then, cut-between, waiting_regroup}
use Rattle.line_proto.proofs.pending.put_waiting.Goals as goal

pub returns-in_err-put-clause-cut : goal.returns-in_err-put-clause-cut
returns-in_err-put-clause-cut g c =
    let exit = err_from_is_err_and c.from_residual.result c.from_residual.ensures.1 in
    let p = c.args.piece.now.bytes in
    let start = c.as_str.result.now in
    let ids = items_text false (items_of (map id_data c.args.entry.now.1)) in
    let whole : comma_if c.args.later ++ compact_text (waiting_data c.args.entry.now) ≡ start ++ (ids ++ 93 ∷ []) =
    waiting_regroup (comma_if c.args.later) (compact_text (id_data c.args.entry.now.0)) ids ∙ ap (λ s. s ++ (ids ++ 93 ∷ [])) (sym (c.as_str.ensures.value ∙ c.waiting_start.ensures.bytes)) in
    rw exit.1 (cut-between _ _ _ p p [] start (ids ++ 93 ∷ []) _ (puts-nil (g.W.Sink.contents c.args.sink.now) p) c.in_err-put.ensures.cut whole)

pub returns-in_err-put_ids-clause-cut : goal.returns-in_err-put_ids-clause-cut
returns-in_err-put_ids-clause-cut g c =
    let exit = err_from_is_err_and c.from_residual-in_err-put_ids.result c.from_residual-in_err-put_ids.ensures.1 in
    let p = c.args.piece.now.bytes in
    let start = c.as_str.result.now in
    let ids = items_text false (items_of (map id_data c.args.entry.now.1)) in
    let whole : comma_if c.args.later ++ compact_text (waiting_data c.args.entry.now) ≡ start ++ (ids ++ 93 ∷ []) =
    waiting_regroup (comma_if c.args.later) (compact_text (id_data c.args.entry.now.0)) ids ∙ ap (λ s. s ++ (ids ++ 93 ∷ [])) (sym (c.as_str.ensures.value ∙ c.waiting_start.ensures.bytes)) in
    let cut = rw c.as_slice.ensures at c.in_err-put_ids.ensures.cut in
    rw exit.1 (cut-between _ _ _ p c.put.new.piece.bytes start ids (93 ∷ []) _ c.in_ok-put.ensures.ok cut whole)

pub returns-clause-ok : goal.returns-clause-ok
returns-clause-ok g c =
    let p = c.args.piece.now.bytes in
    let start = c.as_str.result.now in
    let ids = items_text false (items_of (map id_data c.args.entry.now.1)) in
    let whole : comma_if c.args.later ++ compact_text (waiting_data c.args.entry.now) ≡ (start ++ ids) ++ (93 ∷ []) =
    waiting_regroup (comma_if c.args.later) (compact_text (id_data c.args.entry.now.0)) ids ∙ ap (λ s. s ++ (ids ++ 93 ∷ [])) (sym (c.as_str.ensures.value ∙ c.waiting_start.ensures.bytes))
    ∙ sym (append_assoc start ids (93 ∷ [])) in
    let more = rw c.as_slice.ensures at c.in_ok-put_ids.ensures.ok in
    let puts = puts-then _ _ _ p c.put.new.piece.bytes c.put_ids.new.piece.bytes start ids c.in_ok-put.ensures.ok more in
    on_ok_weaker c.put-2.result
    (λ last.
    subst (λ (t : List ℕ). WritesText (g.W.Sink.contents c.args.sink.now) (g.W.Sink.contents c.put-2.new.sink) p c.put-2.new.piece.bytes t) (sym whole)
    (puts-then _ _ _ p c.put_ids.new.piece.bytes c.put-2.new.piece.bytes (start ++ ids) (93 ∷ []) puts last)) c.put-2.ensures.ok

pub returns-clause-cut : goal.returns-clause-cut
returns-clause-cut g c =
    let p = c.args.piece.now.bytes in
    let start = c.as_str.result.now in
    let ids = items_text false (items_of (map id_data c.args.entry.now.1)) in
    let whole : comma_if c.args.later ++ compact_text (waiting_data c.args.entry.now) ≡ (start ++ ids) ++ ((93 ∷ []) ++ []) =
    waiting_regroup (comma_if c.args.later) (compact_text (id_data c.args.entry.now.0)) ids ∙ ap (λ s. s ++ (ids ++ 93 ∷ [])) (sym (c.as_str.ensures.value ∙ c.waiting_start.ensures.bytes))
    ∙ sym (append_assoc start ids (93 ∷ [])) in
    let more = rw c.as_slice.ensures at c.in_ok-put_ids.ensures.ok in
    let puts = puts-then _ _ _ p c.put.new.piece.bytes c.put_ids.new.piece.bytes start ids c.in_ok-put.ensures.ok more in
    on_err_weaker c.put-2.result
    (λ last. cut-between _ _ _ p c.put_ids.new.piece.bytes (start ++ ids) (93 ∷ []) [] _ puts last whole) c.put-2.ensures.cut
