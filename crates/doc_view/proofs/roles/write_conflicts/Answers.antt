use Rattle.std.proofs.Common.{[], sym, ap, ◌∙◌}
use Rattle.presence_set.specs.ById.{get}
use Rattle.doc_tree.specs.Nodes.{tree_facts}
use Rattle.doc_tree.proofs.Reading.{role_absent, scalar_absent, scalar_read}
use Rattle.doc_rules.specs.Views.{AreConflicts}
use Rattle.doc_rules.specs.Encoded.{conflict_data}
use Rattle.doc_view.specs.TreeValues.{tree_values, values_of_roles}
use Rattle.doc_view.proofs.ByNumber.{roles_by_number}
use Rattle.doc_view.proofs.RoleValues.{are_conflicts}
use Rattle.doc_view.proofs.WritingAll.{array_put}
use Rattle.doc_view.proofs.roles.write_conflicts.Goals as goal

pub returns-in-None : goal.returns-in-None
returns-in-None c =
    let t = c.args.tree.now in
    let p = c.args.path.now in
    let k = c.args.key.now in
    let none = sym c.node_at.ensures ∙ c.in-None.is in
    array_put conflict_data (AreConflicts (tree_facts t) (tree_values t) p k) c.args.text.now c.empty_list.new.self [] c.empty_list.result
    (are_conflicts t p k [] [] (record { value = role_absent t.0 p k none; ascending = tt }) (scalar_absent t.0 p k none)) c.empty_list.ensures

pub returns-in-Some : goal.returns-in-Some
returns-in-Some c =
    let t = c.args.tree.now in
    let p = c.args.path.now in
    let k = c.args.key.now in
    let n = c.in-Some.at in
    let place = sym c.node_at.ensures ∙ c.in-Some.is in
    let roles = c.presence_of.result in
    let scalars = c.register_of.result.now in
    array_put conflict_data (AreConflicts (tree_facts t) (tree_values t) p k) c.args.text.now c.write_values_of_roles.new.text (values_of_roles scalars roles)
    c.write_values_of_roles.result
    (are_conflicts t p k roles scalars (roles_by_number t p k n place roles c.presence_of.ensures.value c.presence_of.ensures.ascending)
    (λ i. ap (λ l. get l i) c.register_of.ensures.value ∙ scalar_read t.0 p k n place i))
    c.write_values_of_roles.ensures
