use Rattle.std.proofs.Common.{◌∙◌, sym, subst}
use Rattle.std.proofs.lemmas.List.{with_items_is}
use Rattle.doc_nodes.specs.Nodes.{AreTree}
use Rattle.doc_nodes.specs.ListPresence.{ListsShowPresence}
use Rattle.doc_nodes.specs.HasPresence.{HavePresence}
use Rattle.doc_tree.proofs.tree.Tree.commit.Goals as goal

pub apply-requires-clause-list_presence : goal.apply-requires-clause-list_presence
apply-requires-clause-list_presence c = subst ListsShowPresence (sym c.as_mut_slice.ensures.value) c.self.invariant.1

pub apply-requires-clause-has_presence : goal.apply-requires-clause-has_presence
apply-requires-clause-has_presence c = subst HavePresence (sym c.as_mut_slice.ensures.value) c.self.invariant.2

pub invariant_of-self : goal.invariant_of-self
invariant_of-self c =
    let kept = with_items_is c.self.inside.nodes c.apply.new.nodes (c.apply.auto.nodes ∙ c.as_mut_slice.ensures.len) in
    (subst AreTree (sym kept) c.apply.ensures.tree, subst ListsShowPresence (sym kept) c.apply.ensures.list_presence, subst HavePresence (sym kept) c.apply.ensures.has_presence)
