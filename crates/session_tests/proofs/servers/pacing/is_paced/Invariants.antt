use Rattle.share_ledger.specs.Begun.{empty_origin}
use Rattle.session_tests.proofs.servers.pacing.is_paced.Given as goal

abbrev pub ghosts-paced : goal.ghosts-paced
ghosts-paced g a = record { name = a.blank; origin = λ _. empty_origin }
