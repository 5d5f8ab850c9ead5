use Rattle.std.proofs.Common.{◌++◌, Ok, map, sym, ap, ◌∙◌}
use Rattle.op_core.specs.Wire.{list_data}
use Rattle.doc_tree.specs.Nodes.{tree_facts}
use Rattle.doc_rules.specs.Encoded.{conflict_data, ConflictsText}
use Rattle.json_text.specs.Tokens.{data_tokens}
use Rattle.doc_view.specs.TreeValues.{tree_values}
use Rattle.doc_view.proofs.Reading.{reads}
use Rattle.doc_view.proofs.roles.conflicts_text.Goals as goal

pub returns : goal.returns
returns c =
    let t = c.args.tree.now in
    let at = c.args.cursor.now in
    let (values, are, is) = c.in_ok-write_conflicts.ensures in
    let d = list_data (map conflict_data values) in
    reads (ConflictsText (tree_facts t) (tree_values t) at.path at.key) (ConflictsText (tree_facts t) (tree_values t)) at (Ok c.from.result)
    (sym c.is_head.ensures ∙ c.if-is_head.false) (λ text is_text. is_text)
    (values, are, c.from.ensures ∙ c.into_string.ensures d (is ∙ ap (λ ts. ts ++ data_tokens d) c.new-text.ensures))
