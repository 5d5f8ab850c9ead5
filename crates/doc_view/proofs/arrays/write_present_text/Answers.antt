use Rattle.std.proofs.Common.{List, [], ◌∷◌, subst}
use Rattle.serde_json.specs.Data.{string}
use Rattle.json.specs.Token as token
use Rattle.op_core.specs.declared.cursor.Key.TheVariants.{Text}
use Rattle.op_core.specs.declared.cursor.Tagged.{Tagged}
use Rattle.doc_tree.specs.Nodes.{tree_facts}
use Rattle.doc_rules.specs.Views.{IsPresent}
use Rattle.doc_rules.specs.Sorted.{AreThose}
use Rattle.doc_view.specs.ByNumber.{IsTextAt}
use Rattle.doc_view.specs.Members.{texts_at}
use Rattle.json_text.specs.Tokens.{Puts}
use Rattle.json_text.proofs.Texts.{told_nothing}
use Rattle.doc_view.proofs.WritingAll.{one_written}
use Rattle.doc_view.proofs.arrays.write_present_text.Goals as goal

pub returns-in-None : goal.returns-in-None
returns-in-None c = ([], c.in-None.ensures, told_nothing string c.args.text.now)

pub returns-in-Some : goal.returns-in-Some
returns-in-Some c =
    let tree = c.args.tree.now in
    one_written string (λ names. (map : List Tagged) → IsTextAt tree map c.args.key.now c.args.at
    → AreThose (λ t. IsPresent (tree_facts tree) map (Text t)) (texts_at c.args.key.now) names) c.args.text.now c.text.new.self c.in-Some.name.now c.text.result c.in-Some.ensures
    (subst (λ name. Puts (token.string name ∷ []) c.args.text.now c.text.new.self c.text.result) c.as_str.ensures c.text.ensures)
