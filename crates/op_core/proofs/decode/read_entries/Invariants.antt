use Rattle.std.proofs.Common.{◌≡◌, ◌+◌, ◌-◌, ◌≤◌, ◌++◌, length, drop, option_map, vec_len, vec_capacity}
use Rattle.serde_json.specs.View.{items_view}
use Rattle.op_core.specs.Reading.{front_from}
use Rattle.op_core.proofs.decode.read_entries.Given as goal

abbrev pub invariant-loop-item : goal.invariant-loop-item
invariant-loop-item l = record {
  entries : front_from (items_view l.item-items) ≡ option_map (λ rest. l.entries.items ++ rest) (front_from (items_view (drop l.item-index l.item-items)));
  room : vec_len l.entries + (length l.item-items - l.item-index) ≤ vec_capacity l.entries;
}
