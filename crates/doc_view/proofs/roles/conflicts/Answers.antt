use Rattle.std.proofs.Common.{◌≡◌, List, [], Ok, subst, sym, ap, ◌∙◌}
use Rattle.doc_api.specs.Words.{Id, Val}
use Rattle.presence_set.specs.ById.{get}
use Rattle.doc_tree.specs.Nodes.{tree_facts}
use Rattle.doc_tree.proofs.Reading.{role_absent, scalar_absent, scalar_read}
use Rattle.doc_rules.specs.Views.{AreConflicts}
use Rattle.doc_view.specs.TreeValues.{tree_values, values_of_roles}
use Rattle.doc_view.proofs.ByNumber.{roles_by_number}
use Rattle.doc_view.proofs.Reading.{reads}
use Rattle.doc_view.proofs.RoleValues.{are_conflicts}
use Rattle.doc_view.proofs.roles.conflicts.Goals as goal

pub returns-in-None : goal.returns-in-None
returns-in-None c =
    let t = c.args.tree.now in
    let at = c.args.cursor.now in
    let none = sym c.node_at.ensures ∙ c.in-None.is in
    reads (AreConflicts (tree_facts t) (tree_values t) at.path at.key) (AreConflicts (tree_facts t) (tree_values t)) at (Ok c.from.result)
    (sym c.is_head.ensures ∙ c.if-is_head.false) (λ values are. are)
    (subst (λ (vs : List (Id × Val)). AreConflicts (tree_facts t) (tree_values t) at.path at.key vs)
    (sym (c.from.ensures ∙ c.new.ensures.items))
    (are_conflicts t at.path at.key [] []
    (record { value = role_absent t.0 at.path at.key none; ascending = tt }) (scalar_absent t.0 at.path at.key none)))

pub returns-in-Some : goal.returns-in-Some
returns-in-Some c =
    let t = c.args.tree.now in
    let at = c.args.cursor.now in
    let n = c.in-Some.at in
    let place = sym c.node_at.ensures ∙ c.in-Some.is in
    let roles = c.presence_of.result in
    let scalars = c.register_of.result.now in
    reads (λ values. values ≡ values_of_roles scalars roles) (AreConflicts (tree_facts t) (tree_values t)) at c.values_of_roles.result
    (sym c.is_head.ensures ∙ c.if-is_head.false)
    (λ values is.
    subst (λ (vs : List (Id × Val)). AreConflicts (tree_facts t) (tree_values t) at.path at.key vs) (sym is)
    (are_conflicts t at.path at.key roles scalars
    (roles_by_number t at.path at.key n place roles c.presence_of.ensures.value c.presence_of.ensures.ascending)
    (λ i. ap (λ l. get l i) c.register_of.ensures.value ∙ scalar_read t.0 at.path at.key n place i)))
    c.values_of_roles.ensures
