use Rattle.std.proofs.Common.{◌≡◌, ◌∷◌, ◌∙◌, [], subst}
use Rattle.std.specs.Io.KnownBytes.{Appends}
use Rattle.std.proofs.lemmas.Result.{on_ok_weaker, on_err_weaker}
use Rattle.line_feed.specs.Cut.{AppendsCut}
use Rattle.line_proto.proofs.Pieces.{puts-written, puts-lost}
use Rattle.line_proto.proofs.pending.write_end.Goals as goal

pub returns-clause-ok : goal.returns-clause-ok
returns-clause-ok g c =
    let contents = g.W.Sink.contents in
    let bytes : c.as_bytes.result.now ≡ c.put.new.piece.bytes = c.as_bytes.ensures.value ∙ c.as_str.ensures.value in
    on_ok_weaker c.write_all.result
    (λ last.
    puts-written _ _ _ c.args.piece.now.bytes c.put.new.piece.bytes (93 ∷ 10 ∷ []) c.in_ok-put.ensures.ok
    (subst (Appends (contents c.put.new.sink) (contents c.write_all.new.sink)) bytes last)) c.write_all.ensures.ok

pub returns-clause-cut : goal.returns-clause-cut
returns-clause-cut g c =
    let contents = g.W.Sink.contents in
    let bytes : c.as_bytes.result.now ≡ c.put.new.piece.bytes = c.as_bytes.ensures.value ∙ c.as_str.ensures.value in
    on_err_weaker c.write_all.result
    (λ last.
    puts-lost _ _ _ c.args.piece.now.bytes c.put.new.piece.bytes (93 ∷ 10 ∷ []) c.in_ok-put.ensures.ok
    (subst (AppendsCut (contents c.put.new.sink) (contents c.write_all.new.sink)) bytes last)) c.write_all.ensures.cut
