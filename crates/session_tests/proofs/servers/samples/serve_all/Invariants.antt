use Rattle.share_ledger.specs.Begun.{empty_origin}
use Rattle.session_tests.proofs.servers.samples.serve_all.Given as goal

abbrev pub ghosts-serve : goal.ghosts-serve
ghosts-serve g a = record { name = a.blank; origin = λ _. empty_origin }
