-- Writes to one node.
use Rattle.std.specs.Prelude.{ℤ, false, Option}
use Rattle.doc_api.specs.Words.{Id, Scalar}
use Rattle.presence_set.specs.ById.{put_at_id}
use Rattle.doc_nodes.specs.declared.node.Node.{Node}
use Rattle.list_laws.specs.Order.{insert_after}
use Rattle.list_order.specs.Entries.{entry_cmp, entry_of_reference, absent}

-- a node with a scalar in its register
abbrev pub with_scalar : Id → Scalar → Node → Node
with_scalar id s node = record node { register = (put_at_id node.register.0 id s, node.register.1) }

-- a node with a number in its counter
abbrev pub with_number : Id → ℤ → Node → Node
with_number id n node = record node { counter = (put_at_id node.counter.0 id n, false) }

-- a node with one more id in its list
abbrev pub with_entry : Option Id → Id → Node → Node
with_entry after id node =
    record node { order = (insert_after entry_cmp node.order.0 (entry_of_reference after) (absent id), node.order.1) }
