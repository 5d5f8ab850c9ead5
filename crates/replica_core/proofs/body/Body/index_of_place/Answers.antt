use Rattle.std.proofs.Common.{Ok, sym, subst}
use Rattle.doc_tree.specs.Nodes.{tree_facts}
use Rattle.doc_rules.specs.Resolve.{Resolves}
use Rattle.doc_rules.proofs.Resolved.{ok≢err}
use Rattle.replica_core.proofs.Looking.{index_answered}
use Rattle.replica_core.proofs.body.Body.index_of_place.Goals as goal

pub returns-in-Ok : goal.returns-in-Ok
returns-in-Ok c name mine =
    let tree = c.tree-tree.result.now in
    index_answered name c.args.self.now.log c.args.self.now.held mine tree c.tree-tree.ensures.agrees c.args.place c.in-Ok.cursor c.index_reply.result
    (subst (λ l. Resolves (tree_facts tree) c.args.place.start l (Ok c.in-Ok.cursor)) c.as_slice.ensures (c.in-Ok.ensures (λ e. ok≢err (sym e))))
    (c.index.result, c.index.ensures, c.index_reply.ensures)
