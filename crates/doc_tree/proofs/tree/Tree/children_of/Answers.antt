use Rattle.std.proofs.Common.{rules, ◌≡◌, ◌≤◌, ◌∙◌, length, sym, ap, subst, Contains, Option, Some, None}
use Rattle.std.proofs.lemmas.List.{get_or_past}
use Rattle.list_laws.proofs.Members.{Contains-nil}
use Rattle.doc_nodes.specs.declared.node.NodeNumber.{NodeNumber}
use Rattle.key_map.specs.ByKey.{at_key}
use Rattle.key_map.specs.Blocks.{joined}
use Rattle.doc_nodes.specs.Nodes.{blank_node, AreTree, node_of}
use Rattle.doc_nodes.specs.ListPresence.{HaveCandidates}
use Rattle.doc_tree.specs.Nodes.{TreeValue}
use Rattle.doc_tree.proofs.Below.{child_deeper}
use Rattle.doc_tree.proofs.tree.Tree.children_of.Goals as goal

pub returns-in_default-clause-found : goal.returns-in_default-clause-found
returns-in_default-clause-found c = λ k n has. absurd (Contains-nil (subst (λ l. Contains l (k, n)) c.none.ensures has))

pub returns-in_default-clause-present : goal.returns-in_default-clause-present
returns-in_default-clause-present c = λ k n down there.
    let past : length c.args.self.now.0 ≤ c.args.at.0 = search rules in
    let void : ◌≡◌ {A = Option NodeNumber} None (Some n) = ap (λ z. at_key z.children.0 k) (sym (get_or_past c.args.self.now.0 c.args.at.0 blank_node past)) ∙ down in
    absurd (cc)

pub returns-in_default-clause-deeper : goal.returns-in_default-clause-deeper
returns-in_default-clause-deeper c = λ k n has. absurd (Contains-nil (subst (λ l. Contains l (k, n)) c.none.ensures has))

pub returns-clause-found : goal.returns-clause-found
returns-clause-found c = λ k n has.
    let read : c.in-Some.node.now ≡ node_of c.args.self.now.0 c.args.at = search rules in
    ap (λ z. at_key z.children.0 k) (sym read) ∙ c.each.ensures.some (k, n) has

pub returns-clause-present : goal.returns-clause-present
returns-clause-present c = λ k n down there.
    let read : c.in-Some.node.now ≡ node_of c.args.self.now.0 c.args.at = search rules in
    subst (λ l. Contains l (k, n)) (sym (c.each.ensures.value ∙ ap (λ z. joined z.children.1) read))
    (subst (λ (t : TreeValue). HaveCandidates t.0) c.self.view_is c.self.invariant.1.1 c.args.at k n down there)

pub returns-clause-deeper : goal.returns-clause-deeper
returns-clause-deeper c = λ k n has.
    let read : c.in-Some.node.now ≡ node_of c.args.self.now.0 c.args.at = search rules in
    child_deeper c.args.self.now.0 (subst (λ (t : TreeValue). AreTree t.0) c.self.view_is c.self.invariant.0) c.args.at k n
    (ap (λ z. at_key z.children.0 k) (sym read) ∙ c.each.ensures.some (k, n) has)
