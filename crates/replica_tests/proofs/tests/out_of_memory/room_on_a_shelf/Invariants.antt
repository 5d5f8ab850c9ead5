use Rattle.std.specs.Prelude.{Some}
use Rattle.replica_tests.proofs.tests.out_of_memory.room_on_a_shelf.Given as goal

abbrev pub ghosts-puts : goal.ghosts-puts
ghosts-puts g a = record { name = a.blank; origin = λ _. record { log = a.replica.log; replica = Some a.replica.name } }
