use Rattle.std.proofs.Common.{◌≡◌, map, take, List}
use Rattle.doc_api.specs.Words.{Id}
use Rattle.hold_buffer.proofs.order.waiting_of.Given as goal

abbrev pub invariant-loop-at : goal.invariant-loop-at
invariant-loop-at l = l.waiting.items ≡ map {B = Id × List Id} (λ t. (t.id, t.missing)) (take l.at l.order.items)
