use Rattle.served_log.proofs.OwnNames.{own_names}
use Rattle.served_log.proofs.restarts.names_differ.Goals as goal

pub returns : goal.returns
returns c = record { names = own_names 0 }
