use Rattle.std.proofs.Common.{List, sym, ◌∙◌}
use Rattle.op_core.specs.declared.cursor.Key.TheVariants.{Text}
use Rattle.op_core.specs.declared.cursor.Tagged.{Tagged}
use Rattle.doc_tree.specs.Nodes.{tree_facts}
use Rattle.doc_rules.specs.Views.{AreKeys, IsPresent, into_map}
use Rattle.doc_rules.specs.Sorted.{AreThose}
use Rattle.doc_view.specs.ByNumber.{AreIn}
use Rattle.doc_view.specs.Members.{texts_in}
use Rattle.doc_view.proofs.MapLaws.{are_keys}
use Rattle.doc_view.proofs.Reading.{reads}
use Rattle.doc_view.proofs.maps.keys.Goals as goal

pub returns : goal.returns
returns c =
    let tree = c.args.tree.now in
    let f = tree_facts tree in
    let at = c.args.cursor.now in
    let children = c.children.result in
    reads (λ texts. (map : List Tagged) → AreIn tree map children → AreThose (λ t. IsPresent f map (Text t)) (texts_in children) texts) (AreKeys f) at c.present_texts.result
    (sym c.is_head.ensures ∙ c.if-is_head.false)
    (λ texts those.
    are_keys f at.path at.key children texts c.children.ensures.rising c.children.ensures.map
    (those (into_map at.path at.key)
    c.children.ensures.members))
    c.present_texts.ensures
