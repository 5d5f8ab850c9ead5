use Rattle.std.proofs.Common.{◌≡◌, ◌++◌, ◌∷◌, ◌∙◌, [], ap₂, subst}
use Rattle.std.proofs.lemmas.Result.{err_from_is_err_and, on_err_weaker}
use Rattle.line_feed.specs.Cut.{AppendsCut, line_of}
use Rattle.line_proto.specs.Replies.{around}
use Rattle.line_proto.proofs.Pieces.{cut-longer, cut-behind}
use Rattle.line_proto.proofs.Texts.{around_pieces}
use Rattle.line_proto.proofs.text_line.write_text_line.Goals as goal

pub returns-in_err-write_both-clause-cut : goal.returns-in_err-write_both-clause-cut
returns-in_err-write_both-clause-cut g c =
    let exit = err_from_is_err_and c.from_residual.result c.from_residual.ensures.1 in
    let p = c.as_bytes.result.now in
    let t = c.as_bytes-2.result.now in
    let whole : (p ++ t) ++ 93 ∷ 10 ∷ [] ≡ line_of (around c.args.prefix.now c.args.text.now) =
    ap₂ (λ p t. (p ++ t) ++ 93 ∷ 10 ∷ []) c.as_bytes.ensures.value (c.as_bytes-2.ensures.value ∙ c.as_str.ensures) ∙ around_pieces c.args.prefix.now c.args.text.now in
    rw exit.1
    (subst (AppendsCut (g.W.Sink.contents c.args.sink.now) (g.W.Sink.contents c.write_both.new.sink)) whole (cut-longer _ _ (p ++ t) (93 ∷ 10 ∷ []) c.in_err-write_both.ensures.cut))

pub returns-clause-cut : goal.returns-clause-cut
returns-clause-cut g c =
    let p = c.as_bytes.result.now in
    let t = c.as_bytes-2.result.now in
    let whole : (p ++ t) ++ 93 ∷ 10 ∷ [] ≡ line_of (around c.args.prefix.now c.args.text.now) =
    ap₂ (λ p t. (p ++ t) ++ 93 ∷ 10 ∷ []) c.as_bytes.ensures.value (c.as_bytes-2.ensures.value ∙ c.as_str.ensures) ∙ around_pieces c.args.prefix.now c.args.text.now in
    on_err_weaker c.write_all.result
    (λ last. subst (AppendsCut (g.W.Sink.contents c.args.sink.now) (g.W.Sink.contents c.write_all.new.sink)) whole
    (cut-behind _ _ _ (p ++ t) (93 ∷ 10 ∷ []) c.in_ok-write_both.ensures.ok last)) c.write_all.ensures.cut
