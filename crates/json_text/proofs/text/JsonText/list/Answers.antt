use Rattle.std.proofs.Common.{[], ◌∷◌, ◌++◌, List, map, ap, ◌∙◌}
use Rattle.json.specs.Token.{Token, end_array}
use Rattle.serde_json.specs.Data.{Data}
use Rattle.op_core.specs.Wire.{list_data}
use Rattle.json_text.specs.Tokens.{all_tokens, data_tokens}
use Rattle.json_text.proofs.Texts.{put_list, put_last}
use Rattle.json_text.proofs.text.JsonText.list.Goals as goal

pub returns : goal.returns
returns g c =
    let parts : List Data = map g.X.AsJson.json c.args.parts.now in
    let put = c.in_ok-parts.ensures ∙ ap (λ (ts : List Token). ts ++ all_tokens parts) c.in_ok-begin_list.ensures in
    put_last (end_array ∷ []) (data_tokens (list_data parts)) c.args.self.now c.parts.new.self c.end_list.new.self c.end_list.result c.end_list.ensures
    (ap (λ (ts : List Token). ts ++ end_array ∷ []) put ∙ put_list c.args.self.now parts)
