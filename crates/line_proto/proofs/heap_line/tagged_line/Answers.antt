use Rattle.std.proofs.Common.{[], ◌∷◌, ◌++◌, ap, ◌∙◌}
use Rattle.serde_json.specs.Data.{Data}
use Rattle.json_text.specs.Tokens.{data_tokens}
use Rattle.line_proto.specs.Replies.{worded}
use Rattle.line_proto.proofs.heap_line.tagged_line.Goals as goal

pub returns : goal.returns
returns g c =
    let d : Data = worded c.args.word.now (g.X.AsJson.json c.args.part.now ∷ []) in
    c.in_ok-push.ensures.items
    ∙ ap (λ bytes. bytes ++ 10 ∷ []) (c.into_bytes-line.ensures d (c.in_ok-tagged.ensures ∙ ap (λ ts. ts ++ data_tokens d) c.in_ok-text.ensures))
