use Rattle.sqlite.specs.Files.{over_files}
use Rattle.log_files.proofs.Found.{found_in_new}
use Rattle.log_files.proofs.files.open_file.Goals as goal

pub returns-in-Ok-clause-found : goal.returns-in-Ok-clause-found
returns-in-Ok-clause-found c = found_in_new over_files c.in-Ok.conn c.in-Ok.ensures.fresh c.adopted.result c.adopted.ensures.found
