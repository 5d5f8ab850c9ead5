use Rattle.std.proofs.Common.{◌++◌, Ok, sym, ap, ◌∙◌}
use Rattle.serde_json.specs.Written.{compact_text}
use Rattle.doc_tree.specs.Nodes.{tree_facts}
use Rattle.doc_rules.specs.Shown.{ShowsText}
use Rattle.json_text.specs.Tokens.{data_tokens}
use Rattle.doc_view.specs.TreeValues.{tree_values}
use Rattle.doc_view.proofs.Reading.{reads}
use Rattle.doc_view.proofs.branches.show.Goals as goal

pub returns : goal.returns
returns c =
    let tree = c.args.tree.now in
    let at = c.args.cursor.now in
    let (d, seen, is) = c.in_ok-write_place.ensures in
    reads (ShowsText (tree_facts tree) (tree_values tree) at.path at.key) (ShowsText (tree_facts tree) (tree_values tree)) at (Ok c.from.result)
    (sym c.is_head.ensures ∙ c.if-is_head.false)
    (λ text shows. shows)
    (seen.shown, seen.shows, c.from.ensures ∙ c.into_string.ensures d (is ∙ ap (λ ts. ts ++ data_tokens d) c.new-text.ensures) ∙ ap compact_text seen.is)
