use Rattle.std.proofs.Common.{◌≡◌, ◌∙◌, sym, ap, subst, set, length, refl, Some, None, Result, Ok, arith}
use Rattle.json_scalar.specs.Refusal.{UnlessMemory}
use Rattle.json_scalar.specs.declared.refusal.Refusal.{Refusal}
use Rattle.op_core.specs.declared.cursor.Key.{Key}
use Rattle.doc_nodes.specs.declared.node.NodeNumber.{NodeNumber}
use Rattle.doc_nodes.specs.Nodes.{node_of, child_of, AreTree}
use Rattle.doc_nodes.specs.Growth.{Grows, with_child}
use Rattle.doc_nodes.proofs.Adding.{IsFresh, tree_added, grows_added, child_new, tree_cut, grows_cut, length_cut}
use Rattle.std.proofs.lemmas.List.{length_push, length-set}
use Rattle.doc_nodes.proofs.growth.new_child.Goals as goal

copied : (k key : Key) → UnlessMemory {A = Key} (Ok k) (Ok key) → k ≡ key
copied k key due = let same : ◌≡◌ {A = Result Key Refusal} (Ok k) (Ok key) = due (λ e. cc) in cc

pub returns-clause-tree : goal.returns-clause-tree
returns-clause-tree c =
    let items = c.args.nodes.now.items in
    let none : child_of items c.args.at c.in_ok-key.key ≡ None =
    ap (child_of items c.args.at) (copied c.in_ok-key.key c.args.key.now c.in_ok-key.ensures) ∙ c.requires.missing in
    let fresh : IsFresh c.new-fresh.result =
    record { presence = c.new-fresh.ensures.presence; register = c.new-fresh.ensures.register; counter = c.new-fresh.ensures.counter; order = c.new-fresh.ensures.order; children = ap (λ cs. cs.0) c.new-fresh.ensures.children; may_have_present_child = c.new-fresh.ensures.may_have_present_child } in
    subst AreTree (sym c.in_ok-add_child.ensures.ok.is)
    (tree_added items c.requires.tree c.args.at c.requires.known c.in_ok-key.key none (record { 0 = length items }) refl c.new-fresh.result fresh c.in_ok-add_child.ensures.ok.blocks c.in_ok-add_child.ensures.ok.kept)

pub returns-clause-grows : goal.returns-clause-grows
returns-clause-grows c =
    let items = c.args.nodes.now.items in
    let none : child_of items c.args.at c.in_ok-key.key ≡ None =
    ap (child_of items c.args.at) (copied c.in_ok-key.key c.args.key.now c.in_ok-key.ensures) ∙ c.requires.missing in
    let fresh : IsFresh c.new-fresh.result =
    record { presence = c.new-fresh.ensures.presence; register = c.new-fresh.ensures.register; counter = c.new-fresh.ensures.counter; order = c.new-fresh.ensures.order; children = ap (λ cs. cs.0) c.new-fresh.ensures.children; may_have_present_child = c.new-fresh.ensures.may_have_present_child } in
    subst (Grows items) (sym c.in_ok-add_child.ensures.ok.is)
    (grows_added items c.requires.tree c.args.at c.requires.known c.in_ok-key.key none (record { 0 = length items }) refl c.new-fresh.result fresh c.in_ok-add_child.ensures.ok.blocks c.in_ok-add_child.ensures.ok.kept)

pub returns-clause-child : goal.returns-clause-child
returns-clause-child c =
    let items = c.args.nodes.now.items in
    let none : child_of items c.args.at c.in_ok-key.key ≡ None =
    ap (child_of items c.args.at) (copied c.in_ok-key.key c.args.key.now c.in_ok-key.ensures) ∙ c.requires.missing in
    let fresh : IsFresh c.new-fresh.result =
    record { presence = c.new-fresh.ensures.presence; register = c.new-fresh.ensures.register; counter = c.new-fresh.ensures.counter; order = c.new-fresh.ensures.order; children = ap (λ cs. cs.0) c.new-fresh.ensures.children; may_have_present_child = c.new-fresh.ensures.may_have_present_child } in
    let number : ◌≡◌ {A = NodeNumber} (record { 0 = length items }) (record { 0 = c.len.result }) = λ i. record { 0 = (sym c.args.nodes.now.ok.0 ∙ sym c.len.ensures) i } in
    ap (child_of c.add_child.new.nodes.items c.args.at) (sym (copied c.in_ok-key.key c.args.key.now c.in_ok-key.ensures))
    ∙ ap (λ l. child_of l c.args.at c.in_ok-key.key) c.in_ok-add_child.ensures.ok.is
    ∙ child_new items c.requires.tree c.args.at c.requires.known c.in_ok-key.key none (record { 0 = length items }) refl c.new-fresh.result fresh c.in_ok-add_child.ensures.ok.blocks c.in_ok-add_child.ensures.ok.kept
    ∙ ap Some number

pub returns-in_err-add_child-clause-tree : goal.returns-in_err-add_child-clause-tree
returns-in_err-add_child-clause-tree c =
    tree_cut c.args.nodes.now.items c.add_child.new.nodes.items c.args.at c.requires.known c.in_err-add_child.ensures.err c.requires.tree

pub returns-in_err-add_child-clause-grows : goal.returns-in_err-add_child-clause-grows
returns-in_err-add_child-clause-grows c =
    grows_cut c.args.nodes.now.items c.add_child.new.nodes.items c.args.at c.requires.known c.in_err-add_child.ensures.err

pub returns-in_err-add_child-clause-few : goal.returns-in_err-add_child-clause-few
returns-in_err-add_child-clause-few c =
    omega (arith, length_cut c.args.nodes.now.items c.add_child.new.nodes.items c.args.at c.requires.known c.in_err-add_child.ensures.err)

pub returns-clause-few : goal.returns-clause-few
returns-clause-few c =
    let items = c.args.nodes.now.items in
    let is = c.in_ok-add_child.ensures.ok.is in
    let node = with_child c.in_ok-key.key (record { 0 = length items }) c.in_ok-add_child.ensures.ok.blocks (node_of items c.args.at) in
    omega (arith, ap length is, length_push (set items c.args.at.0 node) c.new-fresh.result, length-set items c.args.at.0 node)
