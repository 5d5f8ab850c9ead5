use Rattle.std.proofs.Common.{[], ap, ◌∙◌}
use Rattle.std.specs.Option.{option_copied}
use Rattle.version_vector.specs.Front.{id_of}
use Rattle.op_log.proofs.front.is_pair.Goals as goal

pub returns-in-Some : goal.returns-in-Some
returns-in-Some c is = (c.in-Some.op.now, ap option_copied c.in-Some.is, c.has_id.ensures is ∙ ap id_of (c.pair_at.ensures ([], 0)))
