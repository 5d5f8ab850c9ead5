use Rattle.share_ledger.specs.Begun.{empty_origin}
use Rattle.jcrdt.proofs.run_or_check.Given as goal

abbrev pub ghosts-run : goal.ghosts-run
ghosts-run a = record { name = a.blank; origin = λ _. empty_origin }
