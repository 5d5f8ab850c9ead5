use Rattle.std.proofs.Common.{◌++◌, Ok, map, ap, ◌∙◌}
use Rattle.op_core.specs.Wire.{list_data}
use Rattle.doc_rules.specs.Chains.{chain_data}
use Rattle.json_text.specs.Tokens.{data_tokens}
use Rattle.log_chains.proofs.chains.chains_text.Goals as goal

pub returns : goal.returns
returns c other =
    let d = list_data (map (chain_data c.args.after.now c.args.log.now.operations) c.args.front.now) in
    ap Ok (c.from.ensures ∙ c.into_string.ensures d (c.in_ok-put_list.ensures ∙ ap (λ ts. ts ++ data_tokens d) c.new-text.ensures))
