use Rattle.std.proofs.Common.{drop, Result, Ok}
use Rattle.std.specs.Prelude.{IfSome}
use Rattle.doc_api.specs.Words.{Refusal, Cursor}
use Rattle.doc_tree.specs.Nodes.{tree_facts}
use Rattle.doc_rules.specs.Resolve.{Leads}
use Rattle.doc_view.specs.OnWay.{IsOnWay}
use Rattle.doc_view.proofs.cursors.follow.Given as goal

abbrev pub invariant-loop-step : goal.invariant-loop-step
invariant-loop-step l =
    ((r : Result Cursor Refusal) → Leads (tree_facts l.tree) (drop l.step-index l.steps) (Ok l.cursor) r → Leads (tree_facts l.tree) l.steps (Ok l.fn.start) r)
    × IfSome l.known (IsOnWay l.tree l.cursor.path)
