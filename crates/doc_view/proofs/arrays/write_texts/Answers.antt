use Rattle.std.proofs.Common.{List, ◌++◌, map, take, sym, ap, ◌∙◌}
use Rattle.std.proofs.lemmas.List.{take_all}
use Rattle.serde_json.specs.Data.{string}
use Rattle.op_core.specs.declared.cursor.Key.{Key}
use Rattle.doc_nodes.specs.declared.node.NodeNumber.{NodeNumber}
use Rattle.json_text.specs.Tokens.{all_tokens}
use Rattle.doc_view.specs.Members.{texts_at, texts_in}
use Rattle.doc_view.proofs.MapLaws.{texts_in-next}
use Rattle.json_text.proofs.Texts.{told_nothing, told_further}
use Rattle.doc_view.proofs.arrays.write_texts.Goals as goal

pub loop-child-init : goal.loop-child-init
loop-child-init c = told_nothing string c.args.text.now

pub loop-child-preserved : goal.loop-child-preserved
loop-child-preserved c =
    let children = c.args.children.now in
    let i = c.loop-child.child-index in
    let child = c.child-item.result in
    told_further string c.args.text.now c.loop-child.text c.write_text.new.text (texts_in (take i children)) (texts_at child.0) c.loop-child.invariant c.in_ok-write_text.ensures
    ∙ ap (λ texts. c.args.text.now ++ all_tokens (map string texts)) (sym (texts_in-next children i child c.loop-child-test.true c.child-item.is))

pub returns : goal.returns
returns c =
    c.loop-child.invariant
    ∙ ap (λ (children : List (Key × NodeNumber)). c.args.text.now ++ all_tokens (map string (texts_in children)))
    (take_all c.loop-child.child-index c.args.children.now c.loop-child-test.false)
