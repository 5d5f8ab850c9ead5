use Rattle.std.proofs.Common.{◌≡◌, ◌∙◌, None, if◌then◌else◌, sym, ap, true}
use Rattle.std.specs.Prelude.{option_and_then}
use Rattle.op_core.specs.Shape.{key_of}
use Rattle.crdt_rules.specs.Same.{key_eq}
use Rattle.op_core.specs.declared.cursor.Key.TheVariants.{Doc}
use Rattle.doc_nodes.specs.Walk.{trail, trail_below, walk, root}
use Rattle.doc_nodes.specs.Nodes.{child_of}
use Rattle.doc_nodes.proofs.finding.find.Goals as goal

pub returns-then-is_doc-2 : goal.returns-then-is_doc-2
returns-then-is_doc-2 c =
    let first = c.in-Some.first.now in
    let way = c.in-Some.way.now in
    let key = c.args.key.now in
    let doc : key_eq (key_of first) Doc ≡ true = sym (c.if-is_doc-2.ensures ∙ ap (λ k. key_eq k Doc) c.key.ensures) in
    let below : trail c.args.path.now key ≡ trail_below first way key =
    ap (λ p. trail p key) c.in-Some.ensures.cases.0 ∙ ap (λ b. if b then trail_below first way key else None) doc in
    c.find_below.ensures ∙ ap (option_and_then (walk (child_of c.args.nodes.now) root)) (sym below)
