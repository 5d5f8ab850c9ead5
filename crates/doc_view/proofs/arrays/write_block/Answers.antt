use Rattle.std.proofs.Common.{List, sym, ◌∙◌}
use Rattle.serde_json.specs.Data.{string}
use Rattle.op_core.specs.declared.cursor.Key.TheVariants.{Text}
use Rattle.op_core.specs.declared.cursor.Tagged.{Tagged}
use Rattle.doc_tree.specs.Nodes.{tree_facts}
use Rattle.doc_rules.specs.Views.{IsPresent}
use Rattle.doc_rules.specs.Sorted.{AreThose}
use Rattle.doc_view.specs.ByNumber.{AreIn}
use Rattle.doc_view.specs.Members.{is_present_text, texts_in}
use Rattle.crdt_rules.proofs.Tests.{all_at}
use Rattle.doc_view.proofs.ByNumber.{all_present}
use Rattle.doc_view.proofs.WritingAll.{all_written}
use Rattle.doc_view.proofs.arrays.write_block.Goals as goal

pub returns-then-are_present_texts : goal.returns-then-are_present_texts
returns-then-are_present_texts c =
    let tree = c.args.tree.now in
    let block = c.args.block.now in
    all_written string (λ names. (map : List Tagged) → AreIn tree map block → AreThose (λ t. IsPresent (tree_facts tree) map (Text t)) (texts_in block) names)
    c.args.text.now c.write_texts.new.text (texts_in block) c.write_texts.result
    (λ map in_map. all_present tree map block (λ e there. all_at (is_present_text tree) block (sym c.are_present_texts.ensures ∙ c.if-are_present_texts.true) there) in_map)
    c.write_texts.ensures
