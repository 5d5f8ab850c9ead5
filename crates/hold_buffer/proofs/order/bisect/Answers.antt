use Rattle.std.proofs.Common.{rules, subst}
use Rattle.std.specs.List.Sorted.{IsSearchInRange}
use Rattle.lamport_id.specs.Order.{id_cmp}
use Rattle.std.proofs.lemmas.Fn.{always_returns_same}
use Rattle.list_laws.proofs.Rising.{searched}
use Rattle.crdt_rules.proofs.WalkLaws.{id_order}
use Rattle.hold_buffer.proofs.order.bisect.Goals as goal

pub returns : goal.returns
returns c =
    let facts = c.binary_search_by.ensures in
    let by_id = facts.position (λ t. id_cmp t.id c.args.id.now) (always_returns_same _ _ _ (λ a r f k. search rules)) in
    let bound = subst (IsSearchInRange c.binary_search_by.result) c.args.order.now.ok.0 facts.bound in
    searched id_order (λ t. t.id) c.args.order.now.items c.args.id.now _ c.requires bound by_id
