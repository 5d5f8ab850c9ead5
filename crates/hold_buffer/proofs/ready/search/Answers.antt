use Rattle.list_laws.proofs.Rising.{searched}
use Rattle.crdt_rules.proofs.WalkLaws.{id_order}
use Rattle.hold_buffer.proofs.ready.search.Goals as goal

pub returns : goal.returns
returns c =
    let facts = c.binary_search.ensures in
    searched id_order (λ i. i) c.args.ready.now c.args.id.now _ c.requires facts.bound facts.position
