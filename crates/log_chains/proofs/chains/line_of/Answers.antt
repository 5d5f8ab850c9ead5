use Rattle.std.proofs.Common.{[], ◌∷◌, ◌++◌, ap, ◌∙◌}
use Rattle.serde_json.specs.Data.{Data}
use Rattle.json_text.specs.Tokens.{data_tokens}
use Rattle.op_core.specs.Wire.{wire}
use Rattle.log_chains.proofs.chains.line_of.Goals as goal

pub returns : goal.returns
returns c =
    let d : Data = wire c.args.op.now in
    c.in_ok-push.ensures.items
    ∙ ap (λ bytes. bytes ++ 10 ∷ []) (c.into_bytes-line.ensures d (c.in_ok-put_in.ensures ∙ ap (λ ts. ts ++ data_tokens d) c.in_room_of-text.ensures))
