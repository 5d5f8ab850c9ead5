use Rattle.share_ledger.specs.Begun.{empty_origin}
use Rattle.replica_tests.proofs.tests.copying.copier_reads_log.Given as goal

-- the table that was just made
abbrev pub ghosts-copies : goal.ghosts-copies
ghosts-copies g a = record { name = a.blank; origin = λ _. empty_origin }
