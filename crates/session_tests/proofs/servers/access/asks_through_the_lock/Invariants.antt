use Rattle.share_ledger.specs.Begun.{empty_origin}
use Rattle.session_tests.proofs.servers.access.asks_through_the_lock.Given as goal

abbrev pub ghosts-asks : goal.ghosts-asks
ghosts-asks g a = record { name = a.blank; origin = λ _. empty_origin }
