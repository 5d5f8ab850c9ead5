use Rattle.std.proofs.Common.{List, ℕ, ◌≡◌, ◌++◌, [], sym, refl, ap, subst, ◌∙◌, append-nil, append_assoc}
use Rattle.std.proofs.lemmas.List.Elements.{Contains-append_left, Contains-append_right}
use Rattle.serde_json.specs.Data.{string}
use Rattle.op_core.specs.declared.cursor.Key.{Key}
use Rattle.op_core.specs.declared.cursor.Key.TheVariants.{Text}
use Rattle.doc_nodes.specs.declared.node.NodeNumber.{NodeNumber}
use Rattle.std.specs.Prelude.{Contains}
use Rattle.doc_tree.specs.Nodes.{tree_facts}
use Rattle.doc_rules.specs.Views.{IsPresent}
use Rattle.doc_rules.specs.Sorted.{AreThose}
use Rattle.doc_rules.specs.Sorted.AreThose.{none}
use Rattle.doc_view.specs.Members.{texts_in}
use Rattle.doc_view.proofs.MapLaws.{those_append, texts_in-append}
use Rattle.json_text.proofs.Texts.{told_nothing, told_further}
use Rattle.doc_view.proofs.arrays.write_present_texts.Goals as goal

pub loop-block-init : goal.loop-block-init
loop-block-init c = ([], refl, ([], λ map in_map. none, told_nothing string c.args.text.now))

pub loop-block-preserved : goal.loop-block-preserved
loop-block-preserved c =
    let all = c.args.children in
    let passed = c.loop-block.invariant.0 in
    let before = c.loop-block.invariant.2 in
    let block = c.in-Some.block.now in
    let left = c.next_block.new.self in
    let more = c.in_ok-write_block.ensures in
    let whole : passed ++ (block ++ left) ≡ all = ap (λ (l : List (Key × NodeNumber)). passed ++ l) (sym c.in-Some.ensures.1) ∙ c.loop-block.invariant.1 in (
      passed ++ block,
      append_assoc passed block left ∙ whole,
      (
        before.0 ++ more.0,
        λ map in_map.
            subst (λ (texts : List (List ℕ)). AreThose (λ t. IsPresent (tree_facts c.args.tree.now) map (Text t)) texts (before.0 ++ more.0))
            (sym (texts_in-append passed block))
            (those_append (before.1 map in_map)
            (more.1 map
            (λ text n there. in_map text n
            (subst (λ (l : List (Key × NodeNumber)). Contains l (Text text, n)) whole
            (Contains-append_right passed (block ++ left) (Text text, n) (Contains-append_left block left (Text text, n) there)))))),
        told_further string c.args.text.now c.loop-block.text c.write_block.new.text before.0 more.0 before.2 more.2,
      ),
    )

pub returns : goal.returns
returns c =
    let passed = c.loop-block.invariant.0 in
    let names = c.loop-block.invariant.2 in
    let whole : passed ≡ c.args.children = sym (append-nil passed) ∙ ap (λ (l : List (Key × NodeNumber)). passed ++ l) (sym (rw c.in_default.is at c.next_block.ensures).0) ∙ c.loop-block.invariant.1 in (
      names.0,
      λ map in_map.
          subst (λ (children : List (Key × NodeNumber)). AreThose (λ t. IsPresent (tree_facts c.args.tree.now) map (Text t)) (texts_in children) names.0) whole
          (names.1 map in_map),
      names.2,
    )
