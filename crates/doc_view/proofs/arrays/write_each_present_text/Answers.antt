use Rattle.std.proofs.Common.{List, ◌++◌, [], sym, refl, subst}
use Rattle.std.proofs.lemmas.List.{take_all}
use Rattle.serde_json.specs.Data.{string}
use Rattle.op_core.specs.declared.cursor.Key.{Key}
use Rattle.op_core.specs.declared.cursor.Key.TheVariants.{Text}
use Rattle.doc_nodes.specs.declared.node.NodeNumber.{NodeNumber}
use Rattle.std.specs.Prelude.{Contains}
use Rattle.doc_tree.specs.Nodes.{tree_facts}
use Rattle.doc_rules.specs.Views.{IsPresent}
use Rattle.doc_rules.specs.Sorted.{AreThose}
use Rattle.doc_rules.specs.Sorted.AreThose.{none}
use Rattle.doc_view.specs.Members.{texts_in}
use Rattle.doc_view.proofs.MapLaws.{texts_step}
use Rattle.json_text.proofs.Texts.{told_nothing, told_further}
use Rattle.doc_view.proofs.arrays.write_each_present_text.Goals as goal

pub loop-child-init : goal.loop-child-init
loop-child-init c = ([], λ map in_map. none, told_nothing string c.args.text.now)

pub loop-child-preserved : goal.loop-child-preserved
loop-child-preserved c =
    let children = c.args.children.now in
    let i = c.loop-child.child-index in
    let child = c.child-item.result in
    let before = c.loop-child.invariant in
    let more = c.in_ok-write_present_text.ensures in (
      before.0 ++ more.0,
      λ map in_map.
          texts_step children i child c.loop-child-test.true c.child-item.is (before.1 map in_map)
          (more.1 map (λ text e. in_map text child.1 (subst (λ (k : Key). Contains children (k, child.1)) e (i, c.loop-child-test.true, sym c.child-item.is)))) refl,
      told_further string c.args.text.now c.loop-child.text c.write_present_text.new.text before.0 more.0 before.2 more.2,
    )

pub returns : goal.returns
returns c =
    let names = c.loop-child.invariant in (
      names.0,
      λ map in_map.
          subst (λ (children : List (Key × NodeNumber)). AreThose (λ t. IsPresent (tree_facts c.args.tree.now) map (Text t)) (texts_in children) names.0)
          (take_all c.loop-child.child-index c.args.children.now c.loop-child-test.false) (names.1 map in_map),
      names.2,
    )
