use Rattle.std.proofs.Common.{◌≡◌, ◌++◌, map, take}
use Rattle.op_core.specs.Wire.{entry_data}
use Rattle.json_text.specs.Tokens.{all_tokens}
use Rattle.json_text.proofs.wires.put_pairs.Given as goal

abbrev pub invariant-loop-at : goal.invariant-loop-at
invariant-loop-at l = l.text ≡ l.initial.text ++ all_tokens (map entry_data (take l.at l.front))
