use Rattle.std.proofs.Common.{◌++◌, ap, ◌∙◌}
use Rattle.json_text.specs.Tokens.{data_tokens}
use Rattle.stored_log.specs.Report.{epoch_data}
use Rattle.stored_log.proofs.report.add_epoch.Goals as goal

pub returns : goal.returns
returns c =
    let d = epoch_data c.args.epoch in
    c.add_line.ensures d (c.in_ok-put_epoch.ensures ∙ ap (λ ts. ts ++ data_tokens d) c.new-line.ensures)
