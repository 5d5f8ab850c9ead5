use Rattle.std.proofs.Common.{◌≡◌, ◌<◌, ◌-◌, ℕ, zero, suc, arith, rules, List, [], filter, slice_get, option_map, Some, None, refl, sym, ap, subst, ◌∙◌}
use Rattle.doc_api.specs.Words.{Id}
use Rattle.op_core.specs.declared.cursor.Key.TheVariants.{Element}
use Rattle.doc_tree.specs.Nodes.{tree_facts, tree_list, tree_present}
use Rattle.doc_tree.proofs.Reading.{ids_absent}
use Rattle.doc_tree.proofs.Elements.{elements_listed}
use Rattle.doc_rules.specs.Resolve as reading
use Rattle.doc_rules.specs.Views.{IsPresent}
use Rattle.doc_rules.specs.Sorted.{AreThose}
use Rattle.doc_rules.specs.Sorted.AreThose.{none}
use Rattle.doc_view.proofs.Indexed.{elements_in, those_filtered}
use Rattle.doc_view.proofs.Presence.{tree_decides}
use Rattle.doc_view.proofs.cursors.key_at.Goals as goal

no_key : (n : ℕ) → 0 < n → None ≡ reading.key_at [] n
no_key zero some = absurd (omega (arith, some))
no_key (suc n) some = refl

pub returns-then-index-eq0-clause-value : goal.returns-then-index-eq0-clause-value
returns-then-index-eq0-clause-value c =
    let elements = elements_in c.args.tree.now c.args.list.now in
    let head : c.args.index ≡ 0 = search rules in
    (elements.0, elements.1, rw head refl)

pub returns-in_err-node-clause-value : goal.returns-in_err-node-clause-value
returns-in_err-node-clause-value c =
    let tree = c.args.tree.now in
    let list = c.args.list.now in
    let absent : tree_list tree list ≡ None = ap (tree_list tree) (sym c.as_slice.ensures) ∙ sym c.list_node.ensures.node ∙ c.in_err-node.was in
    let some : 0 < c.args.index = search rules in (
      [],
      subst (λ (l : List Id). AreThose (λ i. IsPresent (tree_facts tree) list (Element i)) l []) (ids_absent tree.0 list absent) none,
      c.from_residual.ensures ∙ no_key c.args.index some,
    )

pub returns-clause-value : goal.returns-clause-value
returns-clause-value c =
    let tree = c.args.tree.now in
    let list = c.args.list.now in
    let found : tree_list tree list ≡ Some c.in_ok-node.node = ap (tree_list tree) (sym c.as_slice.ensures) ∙ sym c.list_node.ensures.node ∙ c.in_ok-node.was in
    let ids = filter (λ i. tree_present tree list (Element i)) ((tree_facts tree).order list) in
    let some : 0 < c.args.index = search rules in
    let e : suc (c.args.index - 1) ≡ c.args.index = omega (arith, some) in
    let mapped : c.map.result ≡ option_map Element c.nth_present_of.result = search rules in (
      ids,
      those_filtered (λ i. tree_present tree list (Element i)) (λ i. tree_decides tree list (Element i)) ((tree_facts tree).order list),
      mapped
          ∙ ap (option_map Element) (c.nth_present_of.ensures ∙ ap (λ l. slice_get l (c.args.index - 1)) (elements_listed tree.0 list c.in_ok-node.node found))
          ∙ ap (reading.key_at ids) e,
    )
