use Rattle.share_ledger.specs.Begun.{empty_origin}
use Rattle.session_tests.proofs.servers.waking.side_sees_each_operation.Given as goal

abbrev pub ghosts-did_beside : goal.ghosts-did_beside
ghosts-did_beside g a = record { name = a.blank; origin = λ _. empty_origin }
