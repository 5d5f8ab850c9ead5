use Rattle.std.proofs.Common.{◌≡◌, [], filter, length, Some, None, Ok, refl, sym, ap, subst, ◌∙◌}
use Rattle.op_core.specs.declared.cursor.Key.TheVariants.{Element}
use Rattle.doc_tree.specs.Nodes.{tree_facts, tree_list, tree_present}
use Rattle.doc_tree.proofs.Reading.{ids_absent}
use Rattle.doc_tree.proofs.Elements.{elements_up_to}
use Rattle.doc_rules.specs.Index.{ids_up_to}
use Rattle.doc_rules.specs.Views.{IsPresent}
use Rattle.doc_rules.specs.Sorted.{AreThose}
use Rattle.doc_rules.specs.Sorted.AreThose.{none}
use Rattle.doc_view.proofs.Indexed.{those_filtered}
use Rattle.doc_view.proofs.Presence.{tree_decides}
use Rattle.doc_view.proofs.indexes.index_at.Goals as goal

pub returns-in-None : goal.returns-in-None
returns-in-None c =
    let tree = c.args.tree.now in
    let list = c.args.list.now in
    let absent : tree_list tree list ≡ None = sym c.list_at.ensures ∙ c.in-None.is in (
      [],
      subst (λ l. AreThose (λ j. IsPresent (tree_facts tree) list (Element j)) (ids_up_to c.args.id.now l) []) (ids_absent tree.0 list absent) none,
      refl,
    )

pub returns-in-Some : goal.returns-in-Some
returns-in-Some c =
    let tree = c.args.tree.now in
    let list = c.args.list.now in
    let found : tree_list tree list ≡ Some c.in-Some.node = sym c.list_at.ensures ∙ c.in-Some.is in
    let ids = filter (λ j. tree_present tree list (Element j)) (ids_up_to c.args.id.now ((tree_facts tree).order list)) in (
      ids,
      those_filtered (λ j. tree_present tree list (Element j)) (λ j. tree_decides tree list (Element j)) (ids_up_to c.args.id.now ((tree_facts tree).order list)),
      ap Ok (c.index_of.ensures ∙ ap length (elements_up_to tree.0 list c.in-Some.node c.args.id.now found)),
    )
