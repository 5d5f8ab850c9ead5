use Rattle.share_ledger.specs.Begun.{empty_origin}
use Rattle.session_tests.proofs.runs.waiting.has_its_replies_before_it_is_read_again.Given as goal

abbrev pub ghosts-waits : goal.ghosts-waits
ghosts-waits g a = record { name = a.blank; origin = λ _. empty_origin }
