use Rattle.std.proofs.Common.{◌≡◌, ◌∷◌, ◌++◌, take, drop, suc, sym, ap, subst, ◌∙◌, filter, not, arith, get_or}
use Rattle.op_core.specs.Op.{Op}
use Rattle.crdt_rules.specs.Same.{id_eq}
use Rattle.list_laws.proofs.Members.{split_at}
use Rattle.hold_buffer.specs.declared.entry.Entry.{Entry}
use Rattle.hold_buffer.specs.Order.{operations_of, IsOrdered}
use Rattle.hold_buffer.proofs.Waiting.{found_at, operations-remove, entries-remove, IsOrdered-remove, length-operations}
use Rattle.hold_buffer.proofs.order.take_at.Goals as goal

-- the entries without the one that goes
rest : (c : goal.After-drop-entry) → c.remove.new.self.items ≡ take c.args.at c.args.order.now.items ++ drop (suc c.args.at) c.args.order.now.items
rest c = rw c.unwrap-entry.ensures at c.remove.ensures.items

-- the one that goes
gone : (c : goal.After-drop-entry) → c.unwrap-entry.result ≡ get_or c.args.order.now.items c.args.at c.unwrap-entry.result
gone c = rw c.unwrap-entry.ensures at c.remove.ensures.value

-- the entries before and behind the one that goes
split : (c : goal.After-drop-entry) → take c.args.at c.args.order.now.items ++ c.unwrap-entry.result ∷ drop (suc c.args.at) c.args.order.now.items ≡ c.args.order.now.items
split c = split_at c.args.order.now.items c.args.at c.unwrap-entry.result c.requires.within (gone c)

pub returns-clause-ordered : goal.returns-clause-ordered
returns-clause-ordered c =
    rw (rest c)
    (IsOrdered-remove (take c.args.at c.args.order.now.items) (drop (suc c.args.at) c.args.order.now.items) c.unwrap-entry.result
    (subst (IsOrdered c.args.slots.now) (sym (split c)) c.requires.ordered) c.try_remove.ensures.updates)

pub returns-clause-value : goal.returns-clause-value
returns-clause-value c id place =
    c.try_remove.ensures.value ∙ found_at c.requires.ordered id c.args.at c.unwrap-entry.result place (gone c)

pub returns-clause-operations : goal.returns-clause-operations
returns-clause-operations c id place =
    let name : c.unwrap-entry.result.id ≡ id = ap (λ (t : Entry). t.id) (gone c) ∙ place.has_key c.unwrap-entry.result in
    rw (rest c)
    (operations-remove (take c.args.at c.args.order.now.items) (drop (suc c.args.at) c.args.order.now.items) c.unwrap-entry.result
    (subst (IsOrdered c.args.slots.now) (sym (split c)) c.requires.ordered) c.try_remove.ensures.updates
    ∙ (λ i. filter (λ (o : Op). not (id_eq o.id (name i))) (operations_of c.args.slots.now (split c i))))

pub returns-clause-len : goal.returns-clause-len
returns-clause-len c =
    let ordered = returns-clause-ordered c in
    let old = length-operations c.args.slots.now c.args.order.now.items c.requires.ordered.right in
    let new = length-operations c.try_remove.new.self c.remove.new.self.items ordered.right in
    let fewer = rw c.unwrap-entry.ensures at c.remove.ensures.len in
    omega (arith, old, new, fewer, c.args.order.now.ok.0, c.remove.new.self.ok.0)

pub returns-clause-entries : goal.returns-clause-entries
returns-clause-entries c id place =
    let name : c.unwrap-entry.result.id ≡ id = ap (λ (t : Entry). t.id) (gone c) ∙ place.has_key c.unwrap-entry.result in
    rw (rest c)
    (entries-remove (take c.args.at c.args.order.now.items) (drop (suc c.args.at) c.args.order.now.items) c.unwrap-entry.result
    (subst (IsOrdered c.args.slots.now) (sym (split c)) c.requires.ordered) c.try_remove.ensures.updates
    ∙ (λ i. filter (λ (t : Entry). not (id_eq t.id (name i))) (split c i)))
