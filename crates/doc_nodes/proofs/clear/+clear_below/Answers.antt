use Rattle.std.proofs.Common.{◌≡◌, ◌∙◌, [], ◌∷◌, length, sym, ap, subst, Option, Some, arith}
use Rattle.std.specs.Prelude.{IsSome}
use Rattle.std.proofs.lemmas.List.{nil_from_length}
use Rattle.op_core.specs.Shape.{key_of}
use Rattle.doc_nodes.specs.declared.node.NodeNumber.{NodeNumber}
use Rattle.crdt_rules.specs.Context.{reference}
use Rattle.doc_nodes.specs.Walk.{walk}
use Rattle.doc_nodes.specs.Nodes.{child_of, ClearsUnder}
use Rattle.doc_nodes.specs.PresenceAlong.{keys_below}
use Rattle.doc_nodes.specs.ListPresence.{plain, with_list_presence, ShowsPresence, HaveCandidates}
use Rattle.doc_nodes.proofs.Clearing.{same_children}
use Rattle.doc_nodes.proofs.AddingPresence.{first_step}
use Rattle.doc_nodes.proofs.Plain.{shape_of-plain, list_presence-plain, tree_same}
use Rattle.doc_nodes.proofs.ListPresence.{list_presence-but, list_presence-shape, list_presence-candidate}
use Rattle.doc_nodes.proofs.Passing.{walk_on}
use Rattle.doc_nodes.proofs.clear.+clear_below.Goals as goal

pub returns-in-None-clause-clears : goal.returns-in-None-clause-clears
returns-in-None-clause-clears t c = λ m way.
    let nodes = c.args.nodes.now in
    let mid = c.clear_under.new.nodes in
    let end = c.known_child-end.result in
    let key = c.args.key.now in
    let keys : keys_below c.args.way.now key ≡ key ∷ [] = ap (λ w. keys_below w key) (nil_from_length c.args.way.now c.in-None.ensures.cases) in
    let is : c.update_list_presence.new.nodes ≡ with_list_presence mid c.args.at (reference key) end = c.update_list_presence.ensures ∙ ap (λ e. with_list_presence mid c.args.at e end) c.element_in.ensures in
    let there : ◌≡◌ {A = Option NodeNumber} (Some end) (Some m) =
    walk_on (child_of nodes) c.args.at end m key [] c.known_child-end.ensures (subst (λ l. walk (child_of nodes) c.args.at l ≡ Some m) keys way) in
    let same : end ≡ m = cc in
    subst (λ z. ClearsUnder c.args.front.now (plain nodes) (plain c.note_gone_child.new.nodes) z) same
    (subst (λ l. ClearsUnder c.args.front.now (plain nodes) l end) (sym (c.note_gone_child.ensures.facts ∙ ap plain is ∙ list_presence-plain mid c.args.at (reference key) end)) c.clear_under.ensures.clears)

pub returns-in-None-clause-list_presence : goal.returns-in-None-clause-list_presence
returns-in-None-clause-list_presence t c = λ n i right.
    let nodes = c.args.nodes.now in
    let mid = c.clear_under.new.nodes in
    let end = c.known_child-end.result in
    let key = c.args.key.now in
    let is : c.update_list_presence.new.nodes ≡ with_list_presence mid c.args.at (reference key) end = c.update_list_presence.ensures ∙ ap (λ e. with_list_presence mid c.args.at e end) c.element_in.ensures in
    let shape = shape_of-plain nodes mid (same_children c.args.front.now (plain nodes) (plain mid) c.clear_under.ensures.clears.each) in
    let same : length mid ≡ length nodes = c.clear_under.auto.nodes in
    c.note_gone_child.ensures.list_presence n i
    (subst (λ l. ShowsPresence l n i) (sym is)
    (list_presence-but mid c.args.at (omega (arith, c.requires.known, same)) end (tree_same nodes mid same shape c.requires.tree) key
    (ap (λ f. f c.args.at key) shape ∙ c.known_child-end.ensures) n i (c.clear_under.ensures.list_presence n i right)))

pub note_gone_child-requires-clause-tree : goal.note_gone_child-requires-clause-tree
note_gone_child-requires-clause-tree t c =
    let nodes = c.args.nodes.now in
    let mid = c.clear_under.new.nodes in
    let end = c.known_child-end.result in
    let key = c.args.key.now in
    let is : c.update_list_presence.new.nodes ≡ with_list_presence mid c.args.at (reference key) end = c.update_list_presence.ensures ∙ ap (λ e. with_list_presence mid c.args.at e end) c.element_in.ensures in
    let shape = shape_of-plain nodes mid (same_children c.args.front.now (plain nodes) (plain mid) c.clear_under.ensures.clears.each) in
    let same : length mid ≡ length nodes = c.clear_under.auto.nodes in
    tree_same nodes c.update_list_presence.new.nodes (c.update_list_presence.auto.nodes ∙ same)
    (ap child_of is ∙ list_presence-shape mid c.args.at (omega (arith, c.requires.known, same)) end (reference key) ∙ shape) c.requires.tree

pub returns-in-None-clause-candidates : goal.returns-in-None-clause-candidates
returns-in-None-clause-candidates t c =
    let nodes = c.args.nodes.now in
    let mid = c.clear_under.new.nodes in
    let end = c.known_child-end.result in
    let key = c.args.key.now in
    let is : c.update_list_presence.new.nodes ≡ with_list_presence mid c.args.at (reference key) end = c.update_list_presence.ensures ∙ ap (λ e. with_list_presence mid c.args.at e end) c.element_in.ensures in
    let same : length mid ≡ length nodes = c.clear_under.auto.nodes in
    c.note_gone_child.ensures.candidates
    (subst HaveCandidates (sym is) (λ n k. list_presence-candidate mid c.args.at (omega (arith, c.requires.known, same)) end (reference key) n k (c.clear_under.ensures.candidates n k)))

pub clear_below-requires : goal.clear_below-requires
clear_below-requires t c =
    let nodes = c.args.nodes.now in
    let key = key_of c.in-Some.next.now in
    let rest = keys_below c.in-Some.rest.now c.args.key.now in
    let below = c.known_child-below.result in
    let keys : keys_below c.args.way.now c.args.key.now ≡ key ∷ rest = ap (λ w. keys_below w c.args.key.now) c.in-Some.ensures.cases.0 in
    let down : child_of nodes c.args.at key ≡ Some below = ap (child_of nodes c.args.at) (sym c.key.ensures) ∙ c.known_child-below.ensures in
    let first = first_step nodes c.args.at key rest (subst (λ l. IsSome (walk (child_of nodes) c.args.at l)) keys c.requires.reached) in
    let both : ◌≡◌ {A = Option NodeNumber} (Some first.0) (Some below) = sym first.1 ∙ down in
    let same : first.0 ≡ below = cc in (
      omega (arith, c.in-Some.ensures.cases.1),
      (c.requires.tree, (c.requires.tree.within c.args.at key below down, (c.requires.has_presence, (c.requires.candidates, subst (λ z. IsSome (walk (child_of nodes) z rest)) same first.2)))),
    )

pub returns-in-Some-clause-clears : goal.returns-in-Some-clause-clears
returns-in-Some-clause-clears t c = λ m way.
    let nodes = c.args.nodes.now in
    let key = key_of c.in-Some.next.now in
    let rest = keys_below c.in-Some.rest.now c.args.key.now in
    let keys : keys_below c.args.way.now c.args.key.now ≡ key ∷ rest = ap (λ w. keys_below w c.args.key.now) c.in-Some.ensures.cases.0 in
    let down : child_of nodes c.args.at key ≡ Some c.known_child-below.result = ap (child_of nodes c.args.at) (sym c.key.ensures) ∙ c.known_child-below.ensures in
    c.clear_below.ensures.clears m
    (walk_on (child_of nodes) c.args.at c.known_child-below.result m key rest down (subst (λ l. walk (child_of nodes) c.args.at l ≡ Some m) keys way))
