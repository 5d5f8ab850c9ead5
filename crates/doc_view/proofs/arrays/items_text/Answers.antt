use Rattle.std.proofs.Common.{◌++◌, Ok, map, sym, ap, ◌∙◌}
use Rattle.op_core.specs.Wire.{list_data}
use Rattle.doc_tree.specs.Nodes.{tree_facts}
use Rattle.doc_rules.specs.Encoded.{item_data, ItemsText}
use Rattle.json_text.specs.Tokens.{data_tokens}
use Rattle.doc_view.proofs.Reading.{reads}
use Rattle.doc_view.proofs.arrays.items_text.Goals as goal

pub returns : goal.returns
returns c =
    let f = tree_facts c.args.tree.now in
    let at = c.args.cursor.now in
    let (items, are, is) = c.in_ok-write_items.ensures in
    let d = list_data (map item_data items) in
    reads (ItemsText f at.path at.key) (ItemsText f) at (Ok c.from.result) (sym c.is_head.ensures ∙ c.if-is_head.false) (λ text is_text. is_text)
    (items, are, c.from.ensures ∙ c.into_string.ensures d (is ∙ ap (λ ts. ts ++ data_tokens d) c.new-text.ensures))
