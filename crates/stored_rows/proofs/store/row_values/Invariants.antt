use Rattle.std.proofs.Common.{◌≡◌, ◌+◌, ◌*◌, length, map, take, flat_map, string_bytes}
use Rattle.sqlite.specs.Values.{bound}
use Rattle.stored_rows.specs.Content.{rows_from}
use Rattle.stored_rows.proofs.store.row_values.Given as goal

abbrev pub invariant-loop-text : goal.invariant-loop-text
invariant-loop-text l = record {
  counted : l.place ≡ l.from + l.text-index;
  at_is : l.at ≡ 3 * l.text-index;
  room : length l.values ≡ 48;
  filled : bound (take l.at l.values) ≡ flat_map (λ row. row) (rows_from l.doc (l.from + 1) (map string_bytes (take l.text-index l.texts)));
}
