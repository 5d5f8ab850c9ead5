use Rattle.std.proofs.Common.{◌≡◌, ◌++◌, ◌∷◌, ◌∙◌, [], List, ℕ, false, codes, map, ap, sym, subst}
use Rattle.std.specs.Io.KnownBytes.{Appends}
use Rattle.std.proofs.lemmas.Result.{err_from_is_err_and, on_ok_weaker, on_err_weaker}
use Rattle.serde_json.specs.View.{items_of}
use Rattle.serde_json.specs.Written.{items_text}
use Rattle.line_feed.specs.Cut.{AppendsCut}
use Rattle.op_core.specs.Wire.{id_data}
use Rattle.line_proto.proofs.Pieces.{puts-start, puts-cut, puts-ended, cut-longer, held_text}
use Rattle.line_proto.proofs.pending.write_held.Goals as goal

pub returns-in_err-put_ids-clause-cut : goal.returns-in_err-put_ids-clause-cut
returns-in_err-put_ids-clause-cut g c =
    let exit = err_from_is_err_and c.from_residual.result c.from_residual.ensures.1 in
    let items = items_text false (items_of (map id_data c.args.missing.now)) in
    let head : c.push_str.new.self.bytes ≡ codes "[\"held\",[" = c.push_str.ensures.bytes ∙ ap (λ p. p ++ codes "[\"held\",[") c.new-piece.ensures in
    let cut = subst (λ (p : List ℕ). AppendsCut (g.W.Sink.contents c.args.sink.now) (g.W.Sink.contents c.put_ids.new.sink) (p ++ items)) head c.in_err-put_ids.ensures.cut in
    rw (exit.1, held_text c.args.missing.now) (cut-longer _ _ (codes "[\"held\",[" ++ items) (93 ∷ 10 ∷ []) cut)

pub returns-clause-ok : goal.returns-clause-ok
returns-clause-ok g c =
    let items = items_text false (items_of (map id_data c.args.missing.now)) in
    let head : c.push_str.new.self.bytes ≡ codes "[\"held\",[" = c.push_str.ensures.bytes ∙ ap (λ p. p ++ codes "[\"held\",[") c.new-piece.ensures in
    let puts = puts-start _ _ c.push_str.new.self.bytes c.put_ids.new.piece.bytes (codes "[\"held\",[") items head c.in_ok-put_ids.ensures.ok in
    on_ok_weaker c.write_end.result
    (λ last.
    subst (Appends (g.W.Sink.contents c.args.sink.now) (g.W.Sink.contents c.write_end.new.sink)) (sym (held_text c.args.missing.now))
    (puts-ended _ _ _ c.put_ids.new.piece.bytes (codes "[\"held\",[" ++ items) (93 ∷ 10 ∷ []) puts last)) c.write_end.ensures.ok

pub returns-clause-cut : goal.returns-clause-cut
returns-clause-cut g c =
    let items = items_text false (items_of (map id_data c.args.missing.now)) in
    let head : c.push_str.new.self.bytes ≡ codes "[\"held\",[" = c.push_str.ensures.bytes ∙ ap (λ p. p ++ codes "[\"held\",[") c.new-piece.ensures in
    let puts = puts-start _ _ c.push_str.new.self.bytes c.put_ids.new.piece.bytes (codes "[\"held\",[") items head c.in_ok-put_ids.ensures.ok in
    on_err_weaker c.write_end.result
    (λ last.
    subst (AppendsCut (g.W.Sink.contents c.args.sink.now) (g.W.Sink.contents c.write_end.new.sink)) (sym (held_text c.args.missing.now))
    (puts-cut _ _ _ [] c.put_ids.new.piece.bytes (codes "[\"held\",[" ++ items) (93 ∷ 10 ∷ []) puts last)) c.write_end.ensures.cut
