use Rattle.std.proofs.Common.{◌≡◌, subst, sym}
use Rattle.std.specs.Prelude.{insert}
use Rattle.lamport_id.specs.declared.id.Id.{Id}
use Rattle.hold_buffer.specs.declared.entry.Entry.{Entry}
use Rattle.doc_rules.specs.Replica.{put_among}
use Rattle.hold_buffer.specs.Order.{operations_of, IsOrdered}
use Rattle.op_log.proofs.Comparing.{shaped_ascending}
use Rattle.hold_buffer.proofs.Waiting.{operations-insert, IsOrdered-insert}
use Rattle.hold_buffer.proofs.order.store.Goals as goal

abbrev entry : Id → goal.After-unwrap → Entry
entry id c = record { id = id; key = c.insert_reserved-key.result; missing = c.args.missing }

pub returns-clause-ordered : goal.returns-clause-ordered
returns-clause-ordered c =
    let slots = c.insert_reserved-key.ensures in
    let stored = IsOrdered-insert c.requires.ordered c.args.op c.insert_reserved-key.result c.args.at c.args.missing c.requires.gap slots.was_vacant slots.updates in
    rw (rw c.unwrap.ensures at c.insert.ensures.items)
    (subst (λ (id : Id). IsOrdered c.insert_reserved-key.new.self (insert c.args.order.now.items c.args.at (entry id c))) (sym c.id-id.ensures.value) stored)

pub returns-clause-operations : goal.returns-clause-operations
returns-clause-operations c =
    let slots = c.insert_reserved-key.ensures in
    let stored = operations-insert c.requires.ordered c.args.op c.insert_reserved-key.result c.args.at c.args.missing c.requires.gap slots.was_vacant slots.updates in
    rw (rw c.unwrap.ensures at c.insert.ensures.items)
    (subst
    (λ (id : Id). operations_of c.insert_reserved-key.new.self (insert c.args.order.now.items c.args.at (entry id c)) ≡ put_among c.args.op (operations_of c.args.slots.now c.args.order.now.items))
    (sym c.id-id.ensures.value) stored)

pub returns-clause-ascending : goal.returns-clause-ascending
returns-clause-ascending c = shaped_ascending c.args.op c.id-id.ensures.shaped
