use Rattle.std.proofs.Common.{◌≡◌, [], ◌∷◌, ◌++◌, List, codes, map, ap, ◌∙◌}
use Rattle.serde_json.specs.Data.{Data, string}
use Rattle.serde_json.specs.View.{view}
use Rattle.serde_json.specs.declared.value.Value.{Value}
use Rattle.serde_json.proofs.Views.{view-Array}
use Rattle.op_core.specs.Op.{Op}
use Rattle.op_core.specs.Wire.{list_data, id_data, front_data, cursor_data, mutation_data}
use Rattle.op_core.proofs.encode.write_wire.Goals as goal

pub returns : goal.returns
returns c =
    let op : Op = c.args.op.now in
    let stamp : List Data = string (codes "op") ∷ id_data op.id ∷ front_data op.front ∷ [] in
    let change : List Data = cursor_data op.cursor ∷ mutation_data op.mutation ∷ [] in
    let stamped : map view c.push_stamp.new.parts.items ≡ stamp = c.in_ok-push_stamp.ensures ∙ ap (λ (vs : List Value). map view vs ++ stamp) c.in_ok-parts.ensures.items in
    view-Array c.push_change.new.parts ∙ ap list_data (c.in_ok-push_change.ensures ∙ ap (λ (before : List Data). before ++ change) stamped)
