use Rattle.std.proofs.Common.{map}
use Rattle.served_log.specs.Restored.{origin_at}
use Rattle.served_tests.proofs.tests.keeping_up.keeps_up.Given as goal

abbrev pub ghosts-runs_beside : goal.ghosts-runs_beside
ghosts-runs_beside g a = record { name = a.blank; origin = origin_at a.replica.now a.copy.now.kept.docs (map (λ s. s.now) a.documents.now) }
