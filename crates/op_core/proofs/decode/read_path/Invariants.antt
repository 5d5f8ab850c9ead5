use Rattle.std.proofs.Common.{◌≡◌, ◌++◌, drop, option_map}
use Rattle.serde_json.specs.View.{items_view}
use Rattle.op_core.specs.Reading.{path_within}
use Rattle.op_core.proofs.decode.read_path.Given as goal

abbrev pub invariant-loop-item : goal.invariant-loop-item
invariant-loop-item l =
    path_within l.longest (items_view l.items) ≡ option_map (λ rest. l.path ++ rest) (path_within l.longest (items_view (drop l.item-index l.items)))
