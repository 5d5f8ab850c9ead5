use Rattle.std.proofs.Common.{◌≡◌, map, take}
use Rattle.serde_json.specs.View.{view}
use Rattle.op_core.specs.Wire.{tagged_data}
use Rattle.op_core.proofs.encode.write_path.Given as goal

abbrev pub invariant-loop-tagged : goal.invariant-loop-tagged
invariant-loop-tagged l = map view l.keys.items ≡ map tagged_data (take l.tagged-index l.tagged-items)
