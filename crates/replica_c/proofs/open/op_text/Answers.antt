use Rattle.std.proofs.Common.{◌++◌, ap, ◌∙◌}
use Rattle.serde_json.specs.Data.{Data}
use Rattle.op_core.specs.Wire.{wire}
use Rattle.json_text.specs.Tokens.{data_tokens}
use Rattle.replica_c.proofs.open.op_text.Goals as goal

pub returns-in-Ok : goal.returns-in-Ok
returns-in-Ok c =
    let d : Data = wire c.args.op.now in
    c.into_bytes.ensures d (c.in-Ok.ensures ∙ ap (λ ts. ts ++ data_tokens d) c.requires)
