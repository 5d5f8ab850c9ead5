use Rattle.share_ledger.specs.Begun.{empty_origin}
use Rattle.session_tests.proofs.servers.sessions.side_sees_all_end.Given as goal

abbrev pub ghosts-watched : goal.ghosts-watched
ghosts-watched g a = record { name = a.blank; origin = λ _. empty_origin }
