use Rattle.std.proofs.Common.{◌≡◌, Some, get_or, sym, ◌∙◌, arith}
use Rattle.serde_json.specs.View.{view}
use Rattle.op_core.specs.Reading.{entry_from}
use Rattle.op_core.proofs.Readings.{front_from-more}
use Rattle.op_core.proofs.decode.read_entries.Goals as goal

pub loop-item-preserved : goal.loop-item-preserved
loop-item-preserved c =
    let vs = c.as_slice-item-items.result.now in
    let value = c.item-item.result in
    let entry = c.in-Some-read_entry.entry in
    let some : entry_from (view (get_or vs c.loop-item.item-index value)) ≡ Some entry = rw (← c.item-item.is) (sym c.read_entry.ensures ∙ c.in-Some-read_entry.is) in
    record {
      entries = rw (c.push_reserved.ensures.items) (front_from-more vs c.loop-item.item-index value c.loop-item.entries.items entry c.loop-item-test.true c.loop-item.invariant.entries some);
      room = omega (arith, c.push_reserved.ensures.len, c.push_reserved.ensures.capacity, c.loop-item.invariant.room, c.loop-item-test.true);
    }
