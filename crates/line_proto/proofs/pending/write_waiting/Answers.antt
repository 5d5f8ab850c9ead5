use Rattle.std.proofs.Common.{◌≡◌, ◌++◌, ◌∷◌, ◌∙◌, [], List, ℕ, false, codes, map, ap, sym, subst}
use Rattle.std.specs.Io.KnownBytes.{Appends}
use Rattle.std.proofs.lemmas.Result.{err_from_is_err_and, on_ok_weaker, on_err_weaker}
use Rattle.serde_json.specs.View.{items_of}
use Rattle.serde_json.specs.Written.{items_text}
use Rattle.line_feed.specs.Cut.{AppendsCut}
use Rattle.line_proto.specs.Replies.{waiting_data}
use Rattle.line_proto.proofs.Pieces.{puts-start, puts-cut, puts-ended, cut-longer, waiting_text}
use Rattle.line_proto.proofs.pending.write_waiting.Goals as goal

pub returns-in_err-put_all_waiting-clause-cut : goal.returns-in_err-put_all_waiting-clause-cut
returns-in_err-put_all_waiting-clause-cut g c =
    let exit = err_from_is_err_and c.from_residual.result c.from_residual.ensures.1 in
    let items = items_text false (items_of (map waiting_data c.args.waiting.now)) in
    let head : c.push_str.new.self.bytes ≡ codes "[\"waiting\",[" = c.push_str.ensures.bytes ∙ ap (λ p. p ++ codes "[\"waiting\",[") c.new-piece.ensures in
    let cut = subst (λ (p : List ℕ). AppendsCut (g.W.Sink.contents c.args.sink.now) (g.W.Sink.contents c.put_all_waiting.new.sink) (p ++ items)) head c.in_err-put_all_waiting.ensures.cut in
    rw (exit.1, waiting_text c.args.waiting.now) (cut-longer _ _ (codes "[\"waiting\",[" ++ items) (93 ∷ 10 ∷ []) cut)

pub returns-clause-ok : goal.returns-clause-ok
returns-clause-ok g c =
    let items = items_text false (items_of (map waiting_data c.args.waiting.now)) in
    let head : c.push_str.new.self.bytes ≡ codes "[\"waiting\",[" = c.push_str.ensures.bytes ∙ ap (λ p. p ++ codes "[\"waiting\",[") c.new-piece.ensures in
    let puts = puts-start _ _ c.push_str.new.self.bytes c.put_all_waiting.new.piece.bytes (codes "[\"waiting\",[") items head c.in_ok-put_all_waiting.ensures.ok in
    on_ok_weaker c.write_end.result
    (λ last.
    subst (Appends (g.W.Sink.contents c.args.sink.now) (g.W.Sink.contents c.write_end.new.sink)) (sym (waiting_text c.args.waiting.now))
    (puts-ended _ _ _ c.put_all_waiting.new.piece.bytes (codes "[\"waiting\",[" ++ items) (93 ∷ 10 ∷ []) puts last)) c.write_end.ensures.ok

pub returns-clause-cut : goal.returns-clause-cut
returns-clause-cut g c =
    let items = items_text false (items_of (map waiting_data c.args.waiting.now)) in
    let head : c.push_str.new.self.bytes ≡ codes "[\"waiting\",[" = c.push_str.ensures.bytes ∙ ap (λ p. p ++ codes "[\"waiting\",[") c.new-piece.ensures in
    let puts = puts-start _ _ c.push_str.new.self.bytes c.put_all_waiting.new.piece.bytes (codes "[\"waiting\",[") items head c.in_ok-put_all_waiting.ensures.ok in
    on_err_weaker c.write_end.result
    (λ last.
    subst (AppendsCut (g.W.Sink.contents c.args.sink.now) (g.W.Sink.contents c.write_end.new.sink)) (sym (waiting_text c.args.waiting.now))
    (puts-cut _ _ _ [] c.put_all_waiting.new.piece.bytes (codes "[\"waiting\",[" ++ items) (93 ∷ 10 ∷ []) puts last)) c.write_end.ensures.cut
