use Rattle.std.proofs.Common.{◌∙◌, ◌++◌, ◌∷◌, [], length, get_or, set, sym, ap, subst, List, Result, Ok, Err}
use Rattle.std.specs.Prelude.{OnErr}
use Rattle.std.proofs.lemmas.List.{get_or_default}
use Rattle.json_scalar.specs.declared.refusal.Refusal.{Refusal}
use Rattle.doc_nodes.specs.declared.node.NodeNumber.{NodeNumber}
use Rattle.doc_nodes.specs.declared.node.Node.{Node}
use Rattle.doc_nodes.specs.Nodes.{blank_node}
use Rattle.doc_nodes.specs.Growth.{ChangesBlocksOnly}
use Rattle.doc_nodes.proofs.Adding.{nothing_changed, cut_from, added_from}
use Rattle.doc_nodes.proofs.growth.add_child.Goals as goal

cut_only : (old new : List Node) (n : NodeNumber) (r : Result (Unit {0}) Refusal) → ChangesBlocksOnly old new n → OnErr r (ChangesBlocksOnly old new n)
cut_only old new n (Ok x) only = tt
cut_only old new n (Err e) only = only

pub returns-in_err-reserve-clause-err : goal.returns-in_err-reserve-clause-err
returns-in_err-reserve-clause-err c =
    let items = c.args.nodes.now.items in
    cut_only items c.reserve.new.self.items c.args.at c.from_residual.result
    (subst (λ l. ChangesBlocksOnly items l c.args.at) (sym c.reserve.ensures.items) (nothing_changed items c.args.at))

pub returns-in_err-insert-clause-err : goal.returns-in_err-insert-clause-err
returns-in_err-insert-clause-err c =
    let items = c.args.nodes.now.items in
    let node = c.index_mut-node.result.now in
    cut_only items (set c.reserve.new.self.items c.args.at.0 (record node { children = c.insert.new.self })) c.args.at c.from_residual-in_err-insert.result
    (subst (λ l. ChangesBlocksOnly items (set l c.args.at.0 (record node { children = c.insert.new.self })) c.args.at) (sym c.reserve.ensures.items)
    (cut_from items c.args.at c.requires.known node
    (c.index_mut-node.ensures.value ∙ ap (λ l. get_or l c.args.at.0 node) c.reserve.ensures.items ∙ get_or_default items c.args.at.0 node blank_node c.requires.known)
    c.insert.new.self c.in_err-insert.ensures.err c.insert.ensures.kept))

pub returns-clause-ok : goal.returns-clause-ok
returns-clause-ok c =
    let items = c.args.nodes.now.items in
    let node = c.index_mut-node.result.now in
    added_from items c.args.at c.requires.known node
    (c.index_mut-node.ensures.value ∙ ap (λ l. get_or l c.args.at.0 node) c.reserve.ensures.items ∙ get_or_default items c.args.at.0 node blank_node c.requires.known)
    c.args.key c.args.fresh c.insert.new.self (record { 0 = c.len.result })
    (λ i. record { 0 = (c.len.ensures ∙ c.reserve.new.self.ok.0 ∙ ap length c.reserve.ensures.items) i })
    c.in_ok-insert.ensures.ok c.insert.ensures.kept c.push.new.self.items
    (c.in-Ok.ensures.items ∙ ap (λ l. set l c.args.at.0 (record node { children = c.insert.new.self }) ++ c.args.fresh ∷ []) c.reserve.ensures.items)
