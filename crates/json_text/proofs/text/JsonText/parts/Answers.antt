use Rattle.std.proofs.Common.{◌++◌, ap, ◌∙◌}
use Rattle.json_text.specs.Tokens.{data_tokens}
use Rattle.json_text.proofs.Texts.{put_next}
use Rattle.json_text.proofs.text.JsonText.parts.Goals as goal

pub loop-part-preserved : goal.loop-part-preserved
loop-part-preserved g c =
    c.in_ok-put_in.ensures ∙ ap (λ ts. ts ++ data_tokens (g.X.AsJson.json c.part-item.result)) c.loop-part.invariant
    ∙ put_next g.X.AsJson.json c.args.self.now c.args.parts.now c.loop-part.part-index c.part-item.result c.loop-part-test.true c.part-item.is
