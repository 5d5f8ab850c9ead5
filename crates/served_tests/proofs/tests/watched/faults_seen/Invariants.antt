use Rattle.std.proofs.Common.{map}
use Rattle.served_log.specs.Restored.{origin_at}
use Rattle.served_tests.proofs.tests.watched.faults_seen.Given as goal

abbrev pub ghosts-faults_beside : goal.ghosts-faults_beside
ghosts-faults_beside g a = record { name = a.blank; origin = origin_at a.replica.now a.full.now.kept.docs (map (λ s. s.now) a.documents.now) }
