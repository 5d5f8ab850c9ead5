use Rattle.std.proofs.Common.{sym, subst}
use Rattle.doc_view.proofs.Growing.{new_tree}
use Rattle.replica_core.specs.AgreesWith.{AgreesWith}
use Rattle.replica_core.proofs.restore.logged.Goals as goal

pub log_all-requires-clause-agrees : goal.log_all-requires-clause-agrees
log_all-requires-clause-agrees c = subst (AgreesWith c.in-Ok.tree) (sym c.new-log.ensures) (new_tree c.in-Ok.tree c.in-Ok.ensures.ok)
