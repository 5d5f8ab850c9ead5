use Rattle.std.proofs.Common.{refl}
use Rattle.served_log.proofs.Keeping.{no_batches}
use Rattle.served_log.proofs.serve.restore_and_serve.Goals as goal

pub returns-in_default-clause-grown : goal.returns-in_default-clause-grown
returns-in_default-clause-grown g c = λ works. no_batches refl

pub returns-in-Err-clause-grown : goal.returns-in-Err-clause-grown
returns-in-Err-clause-grown g c = λ works. no_batches refl
