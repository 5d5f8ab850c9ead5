use Rattle.share_ledger.specs.Begun.{empty_origin}
use Rattle.session_tests.proofs.runs.writes.Given as goal

abbrev pub ghosts-written_over : goal.ghosts-written_over
ghosts-written_over g a = record { name = a.blank; origin = λ _. empty_origin }
