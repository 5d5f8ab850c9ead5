use Rattle.std.proofs.Common.{length}
use Rattle.plain_rules.proofs.query.+value_of.Given as goal

abbrev pub decreases-value_of : goal.decreases-value_of
decreases-value_of g l = length l.values.now
