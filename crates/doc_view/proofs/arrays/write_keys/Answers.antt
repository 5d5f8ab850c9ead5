use Rattle.serde_json.specs.Data.{string}
use Rattle.doc_tree.specs.Nodes.{tree_facts}
use Rattle.doc_rules.specs.Views.{AreKeys, into_map}
use Rattle.doc_view.proofs.MapLaws.{are_keys}
use Rattle.doc_view.proofs.WritingAll.{array_written}
use Rattle.doc_view.proofs.arrays.write_keys.Goals as goal

pub returns : goal.returns
returns c =
    let f = tree_facts c.args.tree.now in
    let p = c.args.path.now in
    let k = c.args.key.now in
    let children = c.children.result in
    let (names, those, is) = c.in_ok-write_present_texts.ensures in
    array_written string (AreKeys f p k) c.args.text.now c.end_list.new.self c.begin_list.new.self c.write_present_texts.new.text names c.end_list.result
    (are_keys f p k children names c.children.ensures.rising c.children.ensures.map
    (those (into_map p k) c.children.ensures.members))
    c.in_ok-begin_list.ensures is c.end_list.ensures
