use Rattle.std.proofs.Common.{take}
use Rattle.doc_rules.specs.Role.{AreOf}
use Rattle.doc_tree.specs.Nodes.{tree_facts, tree_role}
use Rattle.converge_laws.proofs.replay.grown.Given as goal

abbrev pub invariant-loop-i : goal.invariant-loop-i
invariant-loop-i l = AreOf (take l.i l.ops) (tree_facts l.tree) (tree_role l.tree)
