use Rattle.std.proofs.Common.{[], ◌∷◌, ◌++◌, List, ap, ◌∙◌}
use Rattle.json.specs.Token.{Token, end_array}
use Rattle.serde_json.specs.Data.{Data, string}
use Rattle.op_core.specs.Wire.{list_data}
use Rattle.json_text.specs.Tokens.{data_tokens}
use Rattle.json_text.proofs.Texts.{put_pair, put_last}
use Rattle.json_text.proofs.text.JsonText.tagged.Goals as goal

pub returns : goal.returns
returns g c =
    let tag : Data = string c.args.tag.now in
    let part : Data = g.X.AsJson.json c.args.part.now in
    let begun = c.in_ok-text.ensures ∙ ap (λ (ts : List Token). ts ++ data_tokens tag) c.in_ok-begin_list.ensures in
    let put = c.in_ok-put_in.ensures ∙ ap (λ (ts : List Token). ts ++ data_tokens part) begun in
    put_last (end_array ∷ []) (data_tokens (list_data (tag ∷ part ∷ []))) c.args.self.now c.put_in.new.text c.end_list.new.self c.end_list.result c.end_list.ensures
    (ap (λ (ts : List Token). ts ++ end_array ∷ []) put ∙ put_pair c.args.self.now tag part)
