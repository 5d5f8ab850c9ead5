use Rattle.std.proofs.Common.{rules, w64}
use mir.Val.{SFits}
use Rattle.replica_core.proofs.Numbers.{number_fits}
use Rattle.replica_core.proofs.limits.keeps_number.Goals as goal

pub returns : goal.returns
returns c = let fits : SFits w64 c.args.n.now = search rules in number_fits c.args.n.now fits
