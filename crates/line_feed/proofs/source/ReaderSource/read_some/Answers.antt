use Rattle.std.proofs.Common.{refl}
use Rattle.line_feed.proofs.source.ReaderSource.read_some.Goals as goal

pub returns-in-Err-clause-bytes : goal.returns-in-Err-clause-bytes
returns-in-Err-clause-bytes g c = c.in-Err.ensures.bytes

pub returns-in-Err-clause-failed : goal.returns-in-Err-clause-failed
returns-in-Err-clause-failed g c = refl
