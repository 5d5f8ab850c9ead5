use Rattle.std.proofs.Common.{◌≡◌, length}
use Rattle.std.specs.List.{All}
use Rattle.tcp_server.proofs.accepting.connections.Given as goal

abbrev pub invariant-loop : goal.invariant-loop
invariant-loop g l =
    record { count : length l.all.items ≡ l.counter; same : All (λ a. a.entrance.now.admission ≡ l.entrance.admission) l.all.items }
