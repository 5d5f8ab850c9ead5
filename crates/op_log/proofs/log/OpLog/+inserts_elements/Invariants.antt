use Rattle.std.proofs.Common.{length}
use Rattle.op_log.proofs.log.OpLog.+inserts_elements.Given as goal

-- proposed from what the function passes where it calls itself
abbrev pub decreases-inserts_elements : goal.decreases-inserts_elements
decreases-inserts_elements l = length l.path.now
