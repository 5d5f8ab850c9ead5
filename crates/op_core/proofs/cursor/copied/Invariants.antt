use Rattle.std.proofs.Common.{◌≡◌, ◌+◌, ◌-◌, ◌≤◌, length, take, vec_len, vec_capacity}
use Rattle.op_core.proofs.cursor.copied.Given as goal

abbrev pub invariant-loop-key : goal.invariant-loop-key
invariant-loop-key l = record {
  copy : l.copy.items ≡ take l.key-index l.keys;
  room : vec_len l.copy + (length l.keys - l.key-index) ≤ vec_capacity l.copy;
}
