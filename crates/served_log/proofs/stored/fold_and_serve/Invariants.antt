use Rattle.std.proofs.Common.{map}
use Rattle.served_log.specs.Restored.{origin_at}
use Rattle.served_log.proofs.stored.fold_and_serve.Given as goal

abbrev pub ghosts-restore_and_serve : goal.ghosts-restore_and_serve
ghosts-restore_and_serve g a = record { name = a.blank; origin = origin_at a.begun.replica (g.L.StoredLog.log a.stored.now).docs (map (λ s. s.now) a.begun.serving.documents.now) }
