use Rattle.stored_log.proofs.DocLemmas.{batch_added, batch_others}
use Rattle.stored_log.proofs.docs.batches_append.Goals as goal

pub returns-clause-appended : goal.returns-clause-appended
returns-clause-appended c = batch_added

pub returns-clause-others : goal.returns-clause-others
returns-clause-others c = batch_others
