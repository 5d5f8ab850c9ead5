use Rattle.share_ledger.specs.Begun.{empty_origin}
use Rattle.replica_tests.proofs.tests.gathering.gather_totals.Given as goal

abbrev pub ghosts-gathers : goal.ghosts-gathers
ghosts-gathers g a = record { name = a.blank; origin = λ _. empty_origin }
