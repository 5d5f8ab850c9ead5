use Rattle.std.proofs.Common.{length, ◌+◌, ◌*◌}
use Rattle.plain_rules.proofs.query.+going_down.Given as goal

abbrev pub decreases-below : goal.decreases-below
decreases-below l = 2 * length l.path.now

abbrev pub decreases-below_first : goal.decreases-below_first
decreases-below_first l = 2 * length l.rest.now + 1
