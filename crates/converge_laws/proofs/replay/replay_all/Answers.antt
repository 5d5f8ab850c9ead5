use Rattle.std.proofs.Common.{refl}
use Rattle.doc_tree.specs.Nodes.{tree_facts, tree_role}
use Rattle.converge_laws.proofs.Replays.{each_from, roles_from}
use Rattle.converge_laws.proofs.replay.replay_all.Goals as goal

pub returns-clause-replayed : goal.returns-clause-replayed
returns-clause-replayed c = each_from tree_facts tree_role c.args.ops.now (c.in_ok-log_of.ensures.good refl) c.grown.result c.grown.ensures.ok

pub returns-clause-roles : goal.returns-clause-roles
returns-clause-roles c = roles_from tree_facts tree_role c.args.ops.now (c.in_ok-log_of.ensures.good refl) c.grown.result c.grown.ensures.ok
