use Rattle.std.proofs.Common.{List, ℕ, ◌+◌, [], sym, subst, ◌∙◌}
use Rattle.op_core.specs.declared.cursor.Key.{Key}
use Rattle.op_core.specs.declared.cursor.Key.TheVariants.{Text}
use Rattle.doc_nodes.specs.declared.node.NodeNumber.{NodeNumber}
use Rattle.std.specs.Prelude.{Contains}
use Rattle.doc_tree.specs.Nodes.{tree_facts}
use Rattle.doc_rules.specs.Views.{IsPresent}
use Rattle.doc_rules.specs.Sorted.{AreThose}
use Rattle.doc_rules.specs.Sorted.AreThose.{none}
use Rattle.doc_view.specs.Members.{texts_in}
use Rattle.doc_view.proofs.Lists.{drop_gives, drop_none}
use Rattle.doc_view.proofs.MapLaws.{texts_step}
use Rattle.doc_view.proofs.maps.present_texts.Goals as goal

pub loop-child-init : goal.loop-child-init
loop-child-init c = (
  0,
  sym c.into_iter-child-iterator.ensures.into_iter_gives,
  λ map in_map.
      subst (λ (kept : List (List ℕ)). AreThose (λ t. IsPresent (tree_facts c.args.tree.now) map (Text t)) [] kept)
      (sym c.new-texts.ensures.items) none,
)

pub loop-child-preserved : goal.loop-child-preserved
loop-child-preserved c =
    let children = c.args.children in
    let i = c.loop-child.invariant.0 in
    let child = c.in-Some.child.now in
    let taken = drop_gives children i child c.next.new.self (c.loop-child.invariant.1 ∙ c.in-Some.ensures.steps) in
    let added = c.in_ok-push_text.ensures in (
      i + 1,
      taken.2,
      λ map in_map.
          texts_step children i child taken.0 taken.1 (c.loop-child.invariant.2 map in_map)
          (added.1 map
          (λ text e. in_map text child.1 (subst (λ (k : Key). Contains children (k, child.1)) e (i, taken.0, sym taken.1))))
          added.2,
    )

pub returns : goal.returns
returns c = λ map in_map.
    subst (λ (texts : List (List ℕ)). AreThose (λ t. IsPresent (tree_facts c.args.tree.now) map (Text t)) (texts_in c.args.children) texts) (sym c.from.ensures)
    (subst (λ (children : List (Key × NodeNumber)). AreThose (λ t. IsPresent (tree_facts c.args.tree.now) map (Text t)) (texts_in children) c.loop-child.texts.items)
    (drop_none c.args.children c.loop-child.invariant.0 (c.loop-child.invariant.1 ∙ c.in-None.ensures.steps.0)) (c.loop-child.invariant.2 map in_map))
