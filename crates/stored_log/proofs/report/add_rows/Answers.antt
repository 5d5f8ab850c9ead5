use Rattle.std.proofs.Common.{◌++◌, ap, ◌∙◌}
use Rattle.json_text.specs.Tokens.{data_tokens}
use Rattle.stored_log.specs.Report.{rows_data}
use Rattle.stored_log.proofs.report.add_rows.Goals as goal

pub returns : goal.returns
returns c =
    let d = rows_data c.args.name.now c.args.rows c.args.front.now in
    c.add_line.ensures d (c.in_ok-put_rows.ensures ∙ ap (λ ts. ts ++ data_tokens d) c.new-line.ensures)
