use Rattle.std.proofs.Common.{List, ◌+◌, [], ◌∷◌, ◌++◌, map, codes, Decides, refl, ap, ◌∙◌, sym, subst, arith}
use Rattle.json.specs.Token as token
use Rattle.doc_api.specs.Words.{Key}
use Rattle.op_core.specs.declared.cursor.Key.TheVariants.{Text, Element}
use Rattle.doc_nodes.specs.declared.node.NodeNumber.{NodeNumber}
use Rattle.doc_tree.specs.Nodes.{tree_facts}
use Rattle.doc_rules.specs.Views.{into_list, into_map}
use Rattle.doc_rules.specs.Shown.{IsPut, value_entry_data, count_branch, total_shown}
use Rattle.doc_rules.specs.Sorted.AreThose.{none, keep, skip}
use Rattle.doc_view.specs.ByNumber.{AtNode}
use Rattle.doc_view.specs.Members.{texts_at, texts_in}
use Rattle.doc_view.specs.Showing.{AreFields, IsShown, IsMapShown, IsListShown}
use Rattle.doc_view.specs.TreeValues.{tree_values}
use Rattle.json_text.specs.Tokens.{data_tokens}
use Rattle.json_scalar.specs.declared.scalar.Val.TheVariants.{EmptyMap, EmptyList}
use Rattle.doc_view.proofs.Lists.{drop_gives, drop_none}
use Rattle.doc_view.proofs.ByNumber.{roles_by_number, entries_by_number, terms_by_number, elements_by_number, text_place, has_child, shows_step, shown_by_number}
use Rattle.doc_view.proofs.ShowLaws.{puts_map_decides, puts_list_decides, no_field, one_field, one_text, fields_step, map_from, list_from}
use Rattle.doc_view.proofs.Writing.{no_parts, one_part, begun_more, more_parts, branch_put, named_put, element_put}
use Rattle.doc_view.proofs.branches.+node.Goals as goal

pub write_element-returns-in-None : goal.write_element-returns-in-None
write_element-returns-in-None t c = (
  [],
  λ p k at.
      let absent = (rw c.in-None.is at c.present_element.ensures.value) p k at in
      ([], skip absent none, record { elements = []; each = tt; is = refl }),
  refl,
  no_parts (codes "list") c.args.was_begun c.args.text.now,
)

pub write_element-returns-in_ok-write_node-in-Some : goal.write_element-returns-in_ok-write_node-in-Some
write_element-returns-in_ok-write_node-in-Some t c =
    let one = c.in_ok-write_node-in-Some.ensures in (
      one.0 ∷ [],
      λ p k at.
          let there = (rw c.in-Some.is at c.present_element.ensures.value) p k at in
          let seen = one.1 (into_list p k) (Element c.args.id.now) there.0 in
          (c.args.id.now ∷ [], keep there.1 none, record { elements = seen.shown ∷ []; each = (seen.shows, tt); is = ap (λ d. d ∷ []) seen.is }),
      refl,
      one.2 ∙ ap (λ ts. ts ++ data_tokens one.0) c.in_ok-begin_branch-in-Some.ensures ∙ one_part (codes "list") c.args.was_begun c.args.text.now one.0,
    )

pub write_elements-loop-id-init : goal.write_elements-loop-id-init
write_elements-loop-id-init t c =
    ([], λ p k at. ([], none, record { elements = []; each = tt; is = refl }), refl, no_parts (codes "list") c.args.was_begun c.args.text.now)

pub write_elements-loop-id-preserved : goal.write_elements-loop-id-preserved
write_elements-loop-id-preserved t c =
    let before = c.loop-id.invariant in
    let more = c.in_ok-is_begun.ensures in (
      before.0 ++ more.0,
      λ p k at.
          shows_step c.args.list.tree.now (into_list p k) c.args.ids.now c.loop-id.id-index c.id-item.result before.0 more.0 (before.0 ++ more.0) c.loop-id-test.true c.id-item.is
          (before.1 p k at) (more.1 p k at) refl,
      begun_more c.args.was_begun c.loop-id.is_begun c.in_ok-is_begun.is_begun before.0 more.0 before.2 more.2,
      more_parts (codes "list") c.args.was_begun c.loop-id.is_begun c.args.text.now c.loop-id.text c.write_element.new.text before.0 more.0 before.2 before.3 more.3,
    )

pub write_field-returns-in-None : goal.write_field-returns-in-None
write_field-returns-in-None t c = (
  [],
  λ members is. no_field c.args.node.tree.now members (texts_at c.args.key.now) (c.in-None.ensures members is),
  refl,
  no_parts (codes "map") c.args.was_begun c.args.text.now,
)

pub write_field-returns-in_ok-write_named_node-in-Some : goal.write_field-returns-in_ok-write_named_node-in-Some
write_field-returns-in_ok-write_named_node-in-Some t c =
    let one = c.in_ok-write_named_node-in-Some.ensures in
    let text = c.in-Some.name.now in (
      one.0 ∷ [],
      λ members is.
          let kept = c.in-Some.ensures members is in
          let place = is text (one_text c.args.key.now text kept).0 in
          one_field c.args.node.tree.now members (texts_at c.args.key.now) text (Text text) one.0 one.1.0 kept refl (one.1.1 members (Text text) place) one.1.2,
      refl,
      one.2 ∙ ap (λ ts. ts ++ data_tokens one.0) c.in_ok-begin_branch-in-Some.ensures ∙ one_part (codes "map") c.args.was_begun c.args.text.now one.0,
    )

pub write_fields-loop-child-init : goal.write_fields-loop-child-init
write_fields-loop-child-init t c = (
  0,
  sym c.into_iter-child-iterator.ensures.into_iter_gives,
  ([], λ p k at. no_field c.args.node.tree.now (into_map p k) [] none, refl, no_parts (codes "map") c.args.was_begun c.args.text.now),
)

pub write_fields-write_field-requires : goal.write_fields-write_field-requires
write_fields-write_field-requires t c =
    let i = c.loop-child.invariant.0 in
    let child = c.in-Some.child.now in
    let taken = drop_gives c.args.children i child c.next.new.self (c.loop-child.invariant.1 ∙ c.in-Some.ensures.steps) in
    let deeper = c.requires.deeper child.0 child.1 (i, taken.0, sym taken.1) in
    omega (arith, c.decreases, deeper.0, deeper.1)

pub write_fields-loop-child-preserved : goal.write_fields-loop-child-preserved
write_fields-loop-child-preserved t c =
    let children = c.args.children in
    let i = c.loop-child.invariant.0 in
    let child = c.in-Some.child.now in
    let taken = drop_gives children i child c.next.new.self (c.loop-child.invariant.1 ∙ c.in-Some.ensures.steps) in
    let before = c.loop-child.invariant.2 in
    let more = c.in_ok-is_begun.ensures in (
      i + 1,
      taken.2,
      (
        before.0 ++ more.0,
        λ p k at.
            fields_step c.args.node.tree.now (into_map p k) children i child before.0 more.0 (before.0 ++ more.0) taken.0 taken.1 (before.1 p k at)
            (more.1 (into_map p k)
            (text_place c.args.node.tree.now p k c.args.node.at at children c.requires.found i child taken.0 taken.1))
            refl,
        begun_more c.args.was_begun c.loop-child.is_begun c.in_ok-is_begun.is_begun before.0 more.0 before.2 more.2,
        more_parts (codes "map") c.args.was_begun c.loop-child.is_begun c.args.text.now c.loop-child.text c.write_field.new.text before.0 more.0 before.2 before.3 more.3,
      ),
    )

pub write_fields-returns : goal.write_fields-returns
write_fields-returns t c =
    let parts = c.loop-child.invariant.2 in (
      parts.0,
      λ p k at.
          subst (λ (cs : List (Key × NodeNumber)). AreFields c.args.node.tree.now (into_map p k) (texts_in cs) parts.0)
          (drop_none c.args.children c.loop-child.invariant.0 (c.loop-child.invariant.1 ∙ c.in-None.ensures.steps.0)) (parts.1 p k at),
      parts.2,
      parts.3,
    )

pub write_list-returns : goal.write_list-returns
write_list-returns t c =
    let tree = c.args.node.tree.now in
    let n = c.args.node.at in
    let put = c.args.is_put in
    let parts = c.in_ok-is_begun.ensures in
    branch_put (λ ds. AtNode tree n (λ p k. IsListShown tree p k ds)) (codes "list") put c.in_ok-is_begun.is_begun c.args.text.now c.begin_branch.new.text
    c.write_elements.new.text c.end_branch.new.text parts.0 c.end_branch.result
    (λ p k at.
    let those = parts.1 p k at in
    list_from tree p k put those.0 parts.0
    (c.requires p k at)
    (elements_by_number tree p k n at c.as_slice.result.now those.0 (c.as_slice.ensures.value ∙ c.in_ok-ids.ensures.ok) those.1)
    those.2)
    c.in_ok-begin_branch.ensures parts.2 parts.3 c.end_branch.ensures

pub write_map-returns : goal.write_map-returns
write_map-returns t c =
    let tree = c.args.node.tree.now in
    let n = c.args.node.at in
    let put = c.args.is_put in
    let parts = c.in_ok-is_begun.ensures in
    branch_put (λ ds. AtNode tree n (λ p k. IsMapShown tree p k ds)) (codes "map") put c.in_ok-is_begun.is_begun c.args.text.now c.begin_branch.new.text
    c.write_fields.new.text c.end_branch.new.text parts.0 c.end_branch.result
    (λ p k at.
    map_from tree p k c.children_of.result c.children_of.ensures.rising (has_child tree p k n at c.children_of.result c.children_of.ensures.present) put parts.0
    (c.requires p k at)
    (parts.1 p k at))
    c.in_ok-begin_branch.ensures parts.2 parts.3 c.end_branch.ensures

pub write_named_node-returns : goal.write_named_node-returns
write_named_node-returns t c =
    let tree = c.args.node.tree.now in
    named_put (λ d. AtNode tree c.args.node.at (λ p k. IsShown tree p k d)) c.args.name.now c.args.text.now c.begin_list.new.self c.text.new.self c.write_node.new.text
    c.end_list.new.self c.end_list.result c.in_ok-begin_list.ensures
    (c.in_ok-text.ensures ∙ ap (λ s. c.begin_list.new.self ++ token.string s ∷ []) c.as_str.ensures) c.in_ok-write_node.ensures c.end_list.ensures

pub write_node-returns : goal.write_node-returns
write_node-returns t c =
    let tree = c.args.node.tree.now in
    let n = c.args.node.at in
    let members = c.in_ok-write_map.ensures in
    let elements = c.in_ok-write_list.ensures in
    let entries = c.register_of.result.now in
    let terms = c.counter_of.result in
    element_put (λ d. AtNode tree n (λ p k. IsShown tree p k d)) c.args.text.now c.begin_list.new.self c.write_map.new.text c.write_list.new.text c.write_values.new.text
    c.end_list.new.self members.0 elements.0 (map value_entry_data entries) (count_branch (total_shown terms)) c.end_list.result
    (shown_by_number tree n members.0 elements.0 entries terms members.1 elements.1
    (λ p k at. entries_by_number tree p k n at entries c.register_of.ensures.value c.register_of.ensures.ascending)
    (λ p k at. terms_by_number tree p k n at terms c.counter_of.ensures.value c.counter_of.ensures.ascending))
    c.in_ok-begin_list.ensures members.2 elements.2 c.in_ok-write_values.ensures c.end_list.ensures

pub write_node-write_map-requires : goal.write_node-write_map-requires
write_node-write_map-requires t c = (
  omega arith,
  λ p k at.
      let tree = c.args.node.tree.now in
      subst (λ b. Decides b (IsPut (tree_facts tree) (tree_values tree) p k EmptyMap)) (sym c.empty_put-put.ensures.map)
      (puts_map_decides tree p k c.presence_of.result (roles_by_number tree p k c.args.node.at at c.presence_of.result c.presence_of.ensures.value c.presence_of.ensures.ascending)),
)

pub write_node-write_list-requires : goal.write_node-write_list-requires
write_node-write_list-requires t c = (
  omega arith,
  λ p k at.
      let tree = c.args.node.tree.now in
      subst (λ b. Decides b (IsPut (tree_facts tree) (tree_values tree) p k EmptyList)) (sym c.empty_put-put.ensures.list)
      (puts_list_decides tree p k c.presence_of.result (roles_by_number tree p k c.args.node.at at c.presence_of.result c.presence_of.ensures.value c.presence_of.ensures.ascending)),
)
