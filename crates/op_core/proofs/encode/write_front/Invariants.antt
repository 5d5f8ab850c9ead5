use Rattle.std.proofs.Common.{◌≡◌, map, take}
use Rattle.serde_json.specs.View.{view}
use Rattle.op_core.specs.Wire.{entry_data}
use Rattle.op_core.proofs.encode.write_front.Given as goal

abbrev pub invariant-loop-at : goal.invariant-loop-at
invariant-loop-at l = map view l.entries.items ≡ map entry_data (take l.at l.front)
