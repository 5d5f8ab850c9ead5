use Rattle.std.proofs.Common.{arith}
use Rattle.version_vector.proofs.Steps.{due_copy}
use Rattle.version_vector.proofs.Steps.{take_grown}
use Rattle.op_core.proofs.cursor.copied.Goals as goal

pub loop-key-preserved : goal.loop-key-preserved
loop-key-preserved c = record {
  copy =
      take_grown c.args.keys.now c.loop-key.key-index c.key-item.result c.loop-key.copy.items c.push_reserved.new.self.items c.in_ok-try_clone.field-0 c.loop-key-test.true c.key-item.is
      (due_copy c.try_clone.result c.in_ok-try_clone.field-0 c.key-item.result c.try_clone.ensures c.in_ok-try_clone.was) c.loop-key.invariant.copy c.push_reserved.ensures.items;
  room = omega (arith, c.push_reserved.ensures.len, c.push_reserved.ensures.capacity, c.loop-key.invariant.room, c.loop-key-test.true);
}
