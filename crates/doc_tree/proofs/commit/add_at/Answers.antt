use Rattle.std.proofs.Common.{◌∙◌, refl, sym, ap, set, subst, inr}
use Rattle.std.proofs.lemmas.Int.{to_z-of_z}
use mir.Syntax.{w64}
use mir.Val.{to_z, of_z}
use Rattle.doc_api.specs.declared.role.Role.TheVariants.{Counter}
use Rattle.doc_nodes.specs.Nodes.{node_of}
use Rattle.doc_nodes.specs.Writes.{with_number}
use Rattle.doc_nodes.specs.PresenceAlong.{keys_to}
use Rattle.doc_nodes.specs.ListPresence.{ListsShowPresence}
use Rattle.doc_nodes.specs.HasPresence.{HavePresence}
use Rattle.doc_nodes.proofs.HasPresence.{has_presence-made_present, present-made_present, has_presence-set, node-counted}
use Rattle.doc_nodes.proofs.ListPresence.{lists_show_presence-set}
use Rattle.doc_tree.proofs.Putting.{known_way, ready-way, within-made_present, counter_room-made_present, facts-added, role-added, tree-added}
use Rattle.doc_tree.proofs.commit.add_at.Goals as goal

pub add_presence_along-requires : goal.add_presence_along-requires
add_presence_along-requires c =
    ready-way c.args.nodes.now c.requires.tree c.args.target.path.now c.args.target.key.now c.args.target.end c.requires.end c.requires.ready.along

pub count-requires-clause-known : goal.count-requires-clause-known
count-requires-clause-known c =
    within-made_present c.args.id.now Counter c.args.nodes.now c.add_presence_along.new.nodes c.requires.tree c.args.target.path.now c.args.target.key.now c.args.target.end c.requires.end
    c.add_presence_along.ensures.added c.add_presence_along.auto.nodes

pub count-requires-clause-room : goal.count-requires-clause-room
count-requires-clause-room c =
    counter_room-made_present c.args.id.now Counter c.args.nodes.now c.add_presence_along.new.nodes c.requires.tree c.args.target.path.now c.args.target.key.now c.args.target.end c.requires.end
    c.add_presence_along.ensures.added c.add_presence_along.auto.nodes (c.requires.ready.counter refl c.args.target.end c.requires.end)

pub returns-clause-facts : goal.returns-clause-facts
returns-clause-facts c =
    facts-added c.args.id.now Counter c.args.nodes.now c.add_presence_along.new.nodes c.requires.tree c.args.target.path.now c.args.target.key.now c.args.target.end c.requires.end
    c.add_presence_along.ensures.added c.add_presence_along.auto.nodes c.args.n c.count.new.nodes
    (c.count.ensures ∙ ap (λ z. set c.add_presence_along.new.nodes c.args.target.end.0 (with_number c.args.id.now z (node_of c.add_presence_along.new.nodes c.args.target.end))) (to_z-of_z w64 c.args.n c.ranges.n))

pub returns-clause-roles : goal.returns-clause-roles
returns-clause-roles c =
    role-added c.args.id.now Counter c.args.nodes.now c.add_presence_along.new.nodes c.requires.tree c.args.target.path.now c.args.target.key.now c.args.target.end c.requires.end
    c.add_presence_along.ensures.added c.add_presence_along.auto.nodes c.args.n c.count.new.nodes
    (c.count.ensures ∙ ap (λ z. set c.add_presence_along.new.nodes c.args.target.end.0 (with_number c.args.id.now z (node_of c.add_presence_along.new.nodes c.args.target.end))) (to_z-of_z w64 c.args.n c.ranges.n))

pub returns-clause-tree : goal.returns-clause-tree
returns-clause-tree c =
    tree-added c.args.id.now Counter c.args.nodes.now c.add_presence_along.new.nodes c.requires.tree c.args.target.path.now c.args.target.key.now c.args.target.end c.requires.end
    c.add_presence_along.ensures.added c.add_presence_along.auto.nodes c.args.n c.count.new.nodes
    (c.count.ensures ∙ ap (λ z. set c.add_presence_along.new.nodes c.args.target.end.0 (with_number c.args.id.now z (node_of c.add_presence_along.new.nodes c.args.target.end))) (to_z-of_z w64 c.args.n c.ranges.n))

pub returns-clause-list_presence : goal.returns-clause-list_presence
returns-clause-list_presence c =
    let old = c.args.nodes.now in
    let new = c.add_presence_along.new.nodes in
    let m = c.args.target.end in
    let right = c.add_presence_along.ensures.list_presence m (known_way old c.args.target.path.now c.args.target.key.now m c.requires.end).1 (λ n i. inr (c.requires.list_presence.0 n i), c.requires.list_presence.1) in
    subst ListsShowPresence (sym c.count.ensures)
    (lists_show_presence-set new m
    (within-made_present c.args.id.now Counter old new c.requires.tree c.args.target.path.now c.args.target.key.now m c.requires.end c.add_presence_along.ensures.added c.add_presence_along.auto.nodes)
    (with_number c.args.id.now (to_z w64 (of_z w64 c.args.n)) (node_of new m)) refl refl refl right)

pub returns-clause-has_presence : goal.returns-clause-has_presence
returns-clause-has_presence c =
    let id = c.args.id.now in
    let old = c.args.nodes.now in
    let new = c.add_presence_along.new.nodes in
    let m = c.args.target.end in
    let n = to_z w64 (of_z w64 c.args.n) in
    let keys = keys_to c.args.target.path.now c.args.target.key.now in
    let has_presence = has_presence-made_present id Counter old new keys c.requires.tree c.add_presence_along.ensures.added c.requires.has_presence in
    subst HavePresence (sym c.count.ensures)
    (has_presence-set new m (with_number id n (node_of new m))
    (within-made_present id Counter old new c.requires.tree c.args.target.path.now c.args.target.key.now m c.requires.end c.add_presence_along.ensures.added c.add_presence_along.auto.nodes)
    refl refl refl
    (node-counted id n (node_of new m)
    (present-made_present id Counter old new keys c.requires.tree c.add_presence_along.ensures.added m (known_way old c.args.target.path.now c.args.target.key.now m c.requires.end).1)
    (has_presence.each m))
    has_presence)
