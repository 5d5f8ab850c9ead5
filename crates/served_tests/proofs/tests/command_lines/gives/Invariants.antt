use Rattle.share_ledger.specs.Begun.{empty_origin}
use Rattle.served_tests.proofs.tests.command_lines.gives.Given as goal

abbrev pub ghosts-written : goal.ghosts-written
ghosts-written a = record { name = a.blank; origin = λ _. empty_origin }
