use Rattle.std.proofs.Common.{sym, ◌∙◌}
use Rattle.doc_view.proofs.OnWay.{list_known}
use Rattle.doc_view.proofs.known_node.list_node.Goals as goal

pub returns-clause-known : goal.returns-clause-known
returns-clause-known c = list_known c.args.tree.now c.args.path.now c.in_ok-node.node (sym c.list_from.ensures ∙ c.in_ok-node.was)
