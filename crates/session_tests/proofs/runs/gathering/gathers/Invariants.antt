use Rattle.share_ledger.specs.Begun.{empty_origin}
use Rattle.session_tests.proofs.runs.gathering.gathers.Given as goal

abbrev pub ghosts-gathered : goal.ghosts-gathered
ghosts-gathered g a = record { name = a.blank; origin = λ _. empty_origin }
