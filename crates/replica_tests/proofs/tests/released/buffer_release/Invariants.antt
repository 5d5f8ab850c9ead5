use Rattle.share_ledger.specs.Begun.{empty_origin}
use Rattle.replica_tests.proofs.tests.released.buffer_release.Given as goal

abbrev pub ghosts-delivers_in_reverse : goal.ghosts-delivers_in_reverse
ghosts-delivers_in_reverse g a = record { name = a.blank; origin = λ _. empty_origin }
