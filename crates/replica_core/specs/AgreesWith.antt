-- A tree that says what a log makes.
use Rattle.std.specs.Prelude.{List}
use Rattle.doc_api.specs.Words.{Op}
use Rattle.doc_tree.specs.Nodes.{TreeValue}
use Rattle.doc_tree.specs.Nodes.{tree_facts, tree_role}
use Rattle.doc_rules.specs.Role.{AreOf}

-- its facts are those of the log's replay, and each present id has the role of its operation
abbrev pub AgreesWith : TreeValue → List Op → Type 0
AgreesWith tree log = AreOf log (tree_facts tree) (tree_role tree)
