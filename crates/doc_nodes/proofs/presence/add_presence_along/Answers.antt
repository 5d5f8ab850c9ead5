use Rattle.std.proofs.Common.{◌≡◌, ◌∙◌, [], sym, ap, subst, set, refl, Option, Some}
use Rattle.std.proofs.lemmas.List.{nil_from_length}
use Rattle.doc_nodes.specs.declared.node.NodeNumber.{NodeNumber}
use Rattle.doc_nodes.specs.Walk.{walk, root}
use Rattle.doc_nodes.specs.Nodes.{node_of, child_of}
use Rattle.doc_nodes.specs.PresenceAlong.{keys_to, keys_below, made_present, AddsPresenceAlong}
use Rattle.doc_nodes.specs.ListPresence.{plain, ShowsPresenceBut}
use Rattle.doc_nodes.proofs.Plain.{shape_of-plain, tree_same}
use Rattle.doc_nodes.proofs.ListPresence.{shows_presence-but_root, candidate-but_root}
use Rattle.doc_nodes.proofs.Passing.{added_end, shows_presence_end, candidate_end}
use Rattle.doc_nodes.proofs.presence.add_presence_along.Goals as goal

pub add_presence-requires-clause-room : goal.add_presence-requires-clause-room
add_presence-requires-clause-room c =
    c.requires.room [] (keys_to c.args.path.now c.args.key.now) root refl refl

pub returns-in-None-clause-added : goal.returns-in-None-clause-added
returns-in-None-clause-added c =
    let nodes = c.args.nodes.now in
    let is : c.add_presence.new.nodes ≡ set nodes 0 (made_present c.args.id.now c.args.role (node_of nodes root)) = c.add_presence.ensures in
    let last : keys_to c.args.path.now c.args.key.now ≡ [] = ap (λ p. keys_to p c.args.key.now) (nil_from_length c.args.path.now c.in-None.ensures.cases) in
    subst (λ l. AddsPresenceAlong c.args.id.now c.args.role (plain nodes) (plain c.add_presence.new.nodes) root l) (sym last)
    (added_end c.args.id.now c.args.role nodes c.add_presence.new.nodes root c.requires.within is)

pub returns-in-None-clause-list_presence : goal.returns-in-None-clause-list_presence
returns-in-None-clause-list_presence c = λ m way but.
    let nodes = c.args.nodes.now in
    let is : c.add_presence.new.nodes ≡ set nodes 0 (made_present c.args.id.now c.args.role (node_of nodes root)) = c.add_presence.ensures in
    let last : keys_to c.args.path.now c.args.key.now ≡ [] = ap (λ p. keys_to p c.args.key.now) (nil_from_length c.args.path.now c.in-None.ensures.cases) in
    let there : ◌≡◌ {A = Option NodeNumber} (Some root) (Some m) = subst (λ l. walk (child_of nodes) root l ≡ Some m) last way in
    let same : root ≡ m = cc in
    let shape = shape_of-plain nodes c.add_presence.new.nodes (added_end c.args.id.now c.args.role nodes c.add_presence.new.nodes root c.requires.within is).shape in
    let tree = tree_same nodes c.add_presence.new.nodes c.add_presence.auto.nodes shape c.requires.tree in (
      λ n i. shows_presence-but_root c.add_presence.new.nodes tree n i
          (shows_presence_end c.args.id.now c.args.role nodes c.add_presence.new.nodes root c.requires.within is n i
          (subst (λ z. ShowsPresenceBut nodes z n i) (sym same) (but.0 n i))),
      λ n k. candidate-but_root c.add_presence.new.nodes tree n k
          (candidate_end c.args.id.now c.args.role nodes c.add_presence.new.nodes root c.requires.within is n k (but.1 n k)),
    )

pub returns-in-Some-clause-added : goal.returns-in-Some-clause-added
returns-in-Some-clause-added c =
    let keys : keys_to c.args.path.now c.args.key.now ≡ keys_below c.in-Some.way.now c.args.key.now = ap (λ p. keys_to p c.args.key.now) c.in-Some.ensures.cases.0 in
    subst (λ l. AddsPresenceAlong c.args.id.now c.args.role (plain c.args.nodes.now) (plain c.add_presence_below.new.nodes) root l) (sym keys)
    c.add_presence_below.ensures.added

pub returns-in-Some-clause-list_presence : goal.returns-in-Some-clause-list_presence
returns-in-Some-clause-list_presence c = λ m way but.
    let nodes = c.args.nodes.now in
    let new = c.add_presence_below.new.nodes in
    let keys : keys_to c.args.path.now c.args.key.now ≡ keys_below c.in-Some.way.now c.args.key.now = ap (λ p. keys_to p c.args.key.now) c.in-Some.ensures.cases.0 in
    let there : walk (child_of nodes) root (keys_below c.in-Some.way.now c.args.key.now) ≡ Some m = ap (walk (child_of nodes) root) (sym keys) ∙ way in
    let shape = shape_of-plain nodes new c.add_presence_below.ensures.added.shape in
    let tree = tree_same nodes new c.add_presence_below.auto.nodes shape c.requires.tree in (
      λ n i. shows_presence-but_root new tree n i (c.add_presence_below.ensures.list_presence m there n i (but.0 n i)),
      λ n k. candidate-but_root new tree n k (c.add_presence_below.ensures.candidates n k (but.1 n k)),
    )
