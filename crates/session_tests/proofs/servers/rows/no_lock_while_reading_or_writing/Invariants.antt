use Rattle.share_ledger.specs.Begun.{empty_origin}
use Rattle.session_tests.proofs.servers.rows.no_lock_while_reading_or_writing.Given as goal

abbrev pub ghosts-looks : goal.ghosts-looks
ghosts-looks g a = record { name = a.blank; origin = λ _. empty_origin }
