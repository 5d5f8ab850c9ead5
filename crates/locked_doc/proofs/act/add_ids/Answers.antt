use Rattle.std.proofs.Common.{List, ◌++◌, ◌∷◌, [], ap, ◌∙◌, append_assoc, take, arith}
use Rattle.std.proofs.lemmas.List.{take_all}
use Rattle.lamport_id.specs.declared.id.Id.{Id}
use Rattle.op_core.specs.Op.{Op}
use Rattle.doc_rules.specs.Seats.{operation_ids}
use Rattle.locked_doc.proofs.Ends.{noted_read}
use Rattle.locked_doc.proofs.act.add_ids.Goals as goal

pub loop-op-preserved : goal.loop-op-preserved
loop-op-preserved c =
    let old = c.args.ids.now.items in
    let so_far = operation_ids (take c.loop-op.op-index c.args.ops.now) in
    let next = noted_read (λ (op : Op). op.id) c.args.ops.now c.loop-op.op-index c.op-item.result c.loop-op-test.true c.op-item.is in
    record {
      ids =
          c.push_reserved.ensures.items ∙ (λ i. c.loop-op.invariant.ids i ++ c.id.ensures.value i ∷ [])
          ∙ append_assoc old so_far (c.op-item.result.id ∷ []) ∙ ap (λ (ids : List Id). old ++ ids) next;
      room = omega (arith, c.push_reserved.ensures.len, c.push_reserved.ensures.capacity, c.loop-op.invariant.room, c.loop-op-test.true);
    }

pub returns : goal.returns
returns c =
    c.loop-op.invariant.ids ∙ ap (λ (ops : List Op). c.args.ids.now.items ++ operation_ids ops) (take_all c.loop-op.op-index c.args.ops.now c.loop-op-test.false)
