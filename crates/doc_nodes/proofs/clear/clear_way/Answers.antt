use Rattle.std.proofs.Common.{◌≡◌, ◌∙◌, [], sym, ap, subst, Option, Some}
use Rattle.std.specs.Prelude.{IsSome}
use Rattle.std.proofs.lemmas.List.{nil_from_length}
use Rattle.doc_nodes.specs.declared.node.NodeNumber.{NodeNumber}
use Rattle.doc_nodes.specs.Walk.{walk, root}
use Rattle.doc_nodes.specs.Nodes.{child_of, ClearsUnder}
use Rattle.doc_nodes.specs.PresenceAlong.{keys_below, keys_to}
use Rattle.doc_nodes.specs.ListPresence.{plain}
use Rattle.doc_nodes.proofs.Clearing.{same_children}
use Rattle.doc_nodes.proofs.Plain.{shape_of-plain, tree_same}
use Rattle.doc_nodes.proofs.ListPresence.{shows_presence-but_root}
use Rattle.doc_nodes.proofs.clear.clear_way.Goals as goal

pub clear_under-requires-clause-known : goal.clear_under-requires-clause-known
clear_under-requires-clause-known c = c.requires.tree.rooted

pub clear_below-requires-clause-known : goal.clear_below-requires-clause-known
clear_below-requires-clause-known c = c.requires.tree.rooted

pub clear_below-requires-clause-reached : goal.clear_below-requires-clause-reached
clear_below-requires-clause-reached c =
    let keys : keys_to c.args.path.now c.args.key.now ≡ keys_below c.in-Some.way.now c.args.key.now = ap (λ p. keys_to p c.args.key.now) c.in-Some.ensures.cases.0 in
    subst (λ l. IsSome (walk (child_of c.args.nodes.now) root l)) keys c.requires.reached

pub returns-in-None-clause-clears : goal.returns-in-None-clause-clears
returns-in-None-clause-clears c = λ m way.
    let nodes = c.args.nodes.now in
    let keys : keys_to c.args.path.now c.args.key.now ≡ [] = ap (λ p. keys_to p c.args.key.now) (nil_from_length c.args.path.now c.in-None.ensures.cases) in
    let there : ◌≡◌ {A = Option NodeNumber} (Some root) (Some m) = subst (λ l. walk (child_of nodes) root l ≡ Some m) keys way in
    let same : root ≡ m = cc in
    subst (λ z. ClearsUnder c.args.front.now (plain nodes) (plain c.clear_under.new.nodes) z) same c.clear_under.ensures.clears

pub returns-in-None-clause-list_presence : goal.returns-in-None-clause-list_presence
returns-in-None-clause-list_presence c = λ right.
    let nodes = c.args.nodes.now in
    let new = c.clear_under.new.nodes in
    let shape = shape_of-plain nodes new (same_children c.args.front.now (plain nodes) (plain new) c.clear_under.ensures.clears.each) in
    let tree = tree_same nodes new c.clear_under.auto.nodes shape c.requires.tree in
    (λ n i. shows_presence-but_root new tree n i (c.clear_under.ensures.list_presence n i (right.0 n i)), c.clear_under.ensures.candidates)

pub returns-in-Some-clause-clears : goal.returns-in-Some-clause-clears
returns-in-Some-clause-clears c = λ m way.
    let nodes = c.args.nodes.now in
    let keys : keys_to c.args.path.now c.args.key.now ≡ keys_below c.in-Some.way.now c.args.key.now = ap (λ p. keys_to p c.args.key.now) c.in-Some.ensures.cases.0 in
    c.clear_below.ensures.clears m
    (ap (walk (child_of nodes) root) (sym keys) ∙ way)

pub returns-in-Some-clause-list_presence : goal.returns-in-Some-clause-list_presence
returns-in-Some-clause-list_presence c = λ right.
    (λ n i. c.clear_below.ensures.list_presence n i (right.0 n i), c.clear_below.ensures.candidates)
