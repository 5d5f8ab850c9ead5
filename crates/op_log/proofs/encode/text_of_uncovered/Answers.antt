use Rattle.std.proofs.Common.{◌++◌, Ok, take, map, ap, ◌∙◌}
use Rattle.op_core.specs.Wire.{list_data, wire}
use Rattle.doc_rules.specs.Answers.{since}
use Rattle.json_text.specs.Tokens.{data_tokens}
use Rattle.op_log.proofs.encode.text_of_uncovered.Goals as goal

pub returns : goal.returns
returns c other =
    let d = list_data (map wire (take c.args.limit (since c.args.front.now c.args.log.now.operations))) in
    ap Ok (c.from.ensures ∙ c.into_string.ensures d (c.in_ok-put_list.ensures ∙ ap (λ ts. ts ++ data_tokens d) c.new-text.ensures))
