use Rattle.std.proofs.Common.{◌≡◌, map, drop, Contains}
use Rattle.hold_buffer.specs.Order.{ListsFree, without_id}
use Rattle.hold_buffer.specs.declared.entry.Entry.{Entry}
use Rattle.hold_buffer.proofs.release.release.Given as goal

abbrev pub invariant-loop-key : goal.invariant-loop-key
invariant-loop-key l =
    (map (without_id l.id) l.order.items ≡ map (without_id l.id) l.fn.order.items)
    × ((t : Entry) → Contains l.order.items t → Contains t.missing l.id → Contains (drop l.key-index l.keys) t.key)
    × ListsFree l.order.items l.ready
