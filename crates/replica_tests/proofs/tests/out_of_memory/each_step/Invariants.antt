use Rattle.std.specs.Prelude.{Some}
use Rattle.replica_tests.proofs.tests.out_of_memory.each_step.Given as goal

abbrev pub ghosts-wants : goal.ghosts-wants
ghosts-wants g a = record { name = a.blank; origin = λ _. record { log = a.replica.log; replica = Some a.replica.name } }
