use Rattle.share_ledger.specs.Begun.{empty_origin}
use Rattle.replica_tests.proofs.tests.gathering.release_counts_for_releaser.Given as goal

abbrev pub ghosts-second_seat_releases : goal.ghosts-second_seat_releases
ghosts-second_seat_releases g a = record { name = a.blank; origin = λ _. empty_origin }
