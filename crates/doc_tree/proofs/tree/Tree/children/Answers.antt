use Rattle.std.proofs.Common.{rules, ◌≡◌, ◌<◌, ◌∙◌, refl, sym, ap, subst, Option, Some, None, ◌++◌, ◌∷◌, [], true}
use Rattle.std.specs.Prelude.{Contains, option_and_then}
use Rattle.key_map.specs.ByKey.{at_key}
use Rattle.std.proofs.lemmas.List.{get_or_default}
use Rattle.op_core.specs.declared.cursor.Key.TheVariants.{Text, Element}
use Rattle.op_core.specs.declared.cursor.Tagged.TheVariants.{Map, List as ListAt}
use Rattle.doc_nodes.specs.declared.node.NodeNumber.{NodeNumber}
use Rattle.doc_nodes.specs.Nodes.{blank_node, node_of, node_at, child_of}
use Rattle.doc_tree.specs.Nodes.{tree_facts, tree_number}
use Rattle.list_laws.proofs.Members.{Contains-nil}
use Rattle.key_map.specs.Blocks.{joined}
use Rattle.crdt_rules.proofs.Tests.{same_found}
use Rattle.doc_tree.proofs.Places.{node_within}
use Rattle.doc_tree.proofs.Below.{number-into, present_child}
use Rattle.doc_tree.proofs.tree.Tree.children.Goals as goal

pub index-requires : goal.index-requires
index-requires c =
    let nodes = c.self.inside.nodes.items in
    let found : node_at nodes c.args.path.now c.args.key.now ≡ Some c.in-Some.at =
    ap (λ p. node_at nodes p c.args.key.now) (sym c.keys.ensures)
    ∙ ap (λ l. node_at l c.keys.result.now c.args.key.now) (sym c.as_slice.ensures.value) ∙ sym c.find.ensures ∙ c.in-Some.is in
    subst (λ n. c.in-Some.at.0 < n) (sym c.self.inside.nodes.ok.0) (node_within nodes c.self.invariant.0 c.args.path.now c.args.key.now c.in-Some.at found)

pub returns-in_default-clause-map : goal.returns-in_default-clause-map
returns-in_default-clause-map c = λ text i there.
    let nodes = c.self.inside.nodes.items in
    let p = c.args.path.now in
    let k = c.args.key.now in
    let none_found : c.find.result ≡ None = search rules in
    let absent : node_at nodes p k ≡ None =
    ap (λ p. node_at nodes p c.args.key.now) (sym c.keys.ensures)
    ∙ ap (λ l. node_at l c.keys.result.now c.args.key.now) (sym c.as_slice.ensures.value) ∙ sym c.find.ensures ∙ none_found in
    let child = present_child nodes p (Map k) (Text text) refl i (subst (λ t. (tree_facts t).present (p ++ Map k ∷ []) (Text text) i ≡ true) (sym c.self.view_is) there) in
    let none : ◌≡◌ {A = Option NodeNumber} None (Some child.0) = sym absent ∙ child.2 in
    absurd (cc)

pub returns-clause-map : goal.returns-clause-map
returns-clause-map c = λ text i there.
    let nodes = c.self.inside.nodes.items in
    let p = c.args.path.now in
    let k = c.args.key.now in
    let found : node_at nodes p k ≡ Some c.in-Some.at =
    ap (λ p. node_at nodes p c.args.key.now) (sym c.keys.ensures)
    ∙ ap (λ l. node_at l c.keys.result.now c.args.key.now) (sym c.as_slice.ensures.value) ∙ sym c.find.ensures ∙ c.in-Some.is in
    let read : c.index.result.now ≡ node_of nodes c.in-Some.at =
    c.index.ensures
    ∙ get_or_default nodes c.in-Some.at.0 c.index.result.now blank_node (node_within nodes c.self.invariant.0 p k c.in-Some.at found) in
    let child = present_child nodes p (Map k) (Text text) refl i (subst (λ t. (tree_facts t).present (p ++ Map k ∷ []) (Text text) i ≡ true) (sym c.self.view_is) there) in
    let same = same_found child.2 found in
    let at : child_of nodes c.in-Some.at (Text text) ≡ Some child.1 = subst (λ n. child_of nodes n (Text text) ≡ Some child.1) same child.3 in (
      child.1,
      subst (λ l. Contains l (Text text, child.1)) (sym (c.each.ensures.value ∙ ap (λ z. joined z.children.1) read))
          (c.self.invariant.1.1 c.in-Some.at (Text text) child.1 at child.4),
    )

pub returns-in_default-clause-list : goal.returns-in_default-clause-list
returns-in_default-clause-list c = λ e i there.
    let nodes = c.self.inside.nodes.items in
    let p = c.args.path.now in
    let k = c.args.key.now in
    let none_found : c.find.result ≡ None = search rules in
    let absent : node_at nodes p k ≡ None =
    ap (λ p. node_at nodes p c.args.key.now) (sym c.keys.ensures)
    ∙ ap (λ l. node_at l c.keys.result.now c.args.key.now) (sym c.as_slice.ensures.value) ∙ sym c.find.ensures ∙ none_found in
    let child = present_child nodes p (ListAt k) (Element e) refl i (subst (λ t. (tree_facts t).present (p ++ ListAt k ∷ []) (Element e) i ≡ true) (sym c.self.view_is) there) in
    let none : ◌≡◌ {A = Option NodeNumber} None (Some child.0) = sym absent ∙ child.2 in
    absurd (cc)

pub returns-clause-list : goal.returns-clause-list
returns-clause-list c = λ e i there.
    let nodes = c.self.inside.nodes.items in
    let p = c.args.path.now in
    let k = c.args.key.now in
    let found : node_at nodes p k ≡ Some c.in-Some.at =
    ap (λ p. node_at nodes p c.args.key.now) (sym c.keys.ensures)
    ∙ ap (λ l. node_at l c.keys.result.now c.args.key.now) (sym c.as_slice.ensures.value) ∙ sym c.find.ensures ∙ c.in-Some.is in
    let read : c.index.result.now ≡ node_of nodes c.in-Some.at =
    c.index.ensures
    ∙ get_or_default nodes c.in-Some.at.0 c.index.result.now blank_node (node_within nodes c.self.invariant.0 p k c.in-Some.at found) in
    let child = present_child nodes p (ListAt k) (Element e) refl i (subst (λ t. (tree_facts t).present (p ++ ListAt k ∷ []) (Element e) i ≡ true) (sym c.self.view_is) there) in
    let same = same_found child.2 found in
    let at : child_of nodes c.in-Some.at (Element e) ≡ Some child.1 = subst (λ n. child_of nodes n (Element e) ≡ Some child.1) same child.3 in (
      child.1,
      subst (λ l. Contains l (Element e, child.1)) (sym (c.each.ensures.value ∙ ap (λ z. joined z.children.1) read))
          (c.self.invariant.1.1 c.in-Some.at (Element e) child.1 at child.4),
    )

pub returns-in_default-clause-members : goal.returns-in_default-clause-members
returns-in_default-clause-members c = λ text n has. absurd (Contains-nil (subst (λ l. Contains l (Text text, n)) c.none.ensures has))

pub returns-clause-members : goal.returns-clause-members
returns-clause-members c = λ text n has.
    let nodes = c.self.inside.nodes.items in
    let p = c.args.path.now in
    let k = c.args.key.now in
    let found : node_at nodes p k ≡ Some c.in-Some.at =
    ap (λ p. node_at nodes p c.args.key.now) (sym c.keys.ensures)
    ∙ ap (λ l. node_at l c.keys.result.now c.args.key.now) (sym c.as_slice.ensures.value) ∙ sym c.find.ensures ∙ c.in-Some.is in
    let read : c.index.result.now ≡ node_of nodes c.in-Some.at =
    c.index.ensures
    ∙ get_or_default nodes c.in-Some.at.0 c.index.result.now blank_node (node_within nodes c.self.invariant.0 p k c.in-Some.at found) in
    ap (λ t. tree_number t (p ++ Map k ∷ []) (Text text)) (sym c.self.view_is)
    ∙ number-into nodes p (Map k) (Text text) refl ∙ ap (option_and_then (λ m. child_of nodes m (Text text))) found
    ∙ ap (λ z. at_key z.children.0 (Text text)) (sym read) ∙ c.each.ensures.some (Text text, n) has

pub returns-in_default-clause-elements : goal.returns-in_default-clause-elements
returns-in_default-clause-elements c = λ i n has. absurd (Contains-nil (subst (λ l. Contains l (Element i, n)) c.none.ensures has))

pub returns-clause-elements : goal.returns-clause-elements
returns-clause-elements c = λ i n has.
    let nodes = c.self.inside.nodes.items in
    let p = c.args.path.now in
    let k = c.args.key.now in
    let found : node_at nodes p k ≡ Some c.in-Some.at =
    ap (λ p. node_at nodes p c.args.key.now) (sym c.keys.ensures)
    ∙ ap (λ l. node_at l c.keys.result.now c.args.key.now) (sym c.as_slice.ensures.value) ∙ sym c.find.ensures ∙ c.in-Some.is in
    let read : c.index.result.now ≡ node_of nodes c.in-Some.at =
    c.index.ensures
    ∙ get_or_default nodes c.in-Some.at.0 c.index.result.now blank_node (node_within nodes c.self.invariant.0 p k c.in-Some.at found) in
    ap (λ t. tree_number t (p ++ ListAt k ∷ []) (Element i)) (sym c.self.view_is)
    ∙ number-into nodes p (ListAt k) (Element i) refl ∙ ap (option_and_then (λ m. child_of nodes m (Element i))) found
    ∙ ap (λ z. at_key z.children.0 (Element i)) (sym read) ∙ c.each.ensures.some (Element i, n) has
