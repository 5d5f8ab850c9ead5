use Rattle.std.proofs.Common.{refl}
use Rattle.log_copy.proofs.open.fresh.Goals as goal

pub returns-clause-made : goal.returns-clause-made
returns-clause-made g c clean = record { no_epoch = refl; no_docs = c.new.ensures.items; ran = c.in_ok-make.ensures.ran clean }
