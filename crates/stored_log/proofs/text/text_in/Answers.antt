use Rattle.std.proofs.Common.{◌++◌, ap, ◌∙◌}
use Rattle.op_core.specs.Wire.{wire}
use Rattle.json_text.specs.Tokens.{data_tokens}
use Rattle.stored_log.proofs.text.text_in.Goals as goal

pub returns-in-Ok-put_in-clause-ok : goal.returns-in-Ok-put_in-clause-ok
returns-in-Ok-put_in-clause-ok c =
    let d = wire c.args.op.now in
    c.into_string.ensures d (c.in-Ok-put_in.ensures ∙ ap (λ ts. ts ++ data_tokens d) c.in-Ok.ensures)
