use Rattle.std.proofs.Common.{refl}
use Rattle.served_log.proofs.restore.share_documents.Goals as goal

pub returns-then-is_err-clause-memory : goal.returns-then-is_err-clause-memory
returns-then-is_err-clause-memory g c = refl
