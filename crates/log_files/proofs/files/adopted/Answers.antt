use Rattle.log_files.proofs.Found.{still_there}
use Rattle.log_files.proofs.files.adopted.Goals as goal

pub returns-in-Ok-clause-found : goal.returns-in-Ok-clause-found
returns-in-Ok-clause-found g c = record {
  alone = c.in-Ok.ensures.alone;
  kept = c.in-Ok.ensures.kept;
  taken = c.in-Ok.ensures.taken;
  commits = c.in-Ok.ensures.commits;
}

pub returns-in-Ok-clause-stays : goal.returns-in-Ok-clause-stays
returns-in-Ok-clause-stays g c = still_there g.S.Store c.in-Ok.copy c.in-Ok.ensures.sound.0 c.in-Ok.ensures.sound.1
