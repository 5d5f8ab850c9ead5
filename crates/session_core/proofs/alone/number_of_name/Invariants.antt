use Rattle.std.proofs.Common.{◌≡◌, ◌+◌, drop, option_map}
use Rattle.session_rules.specs.Session.{number_of_name}
use Rattle.session_core.proofs.alone.number_of_name.Given as goal

abbrev pub invariant-loop-i : goal.invariant-loop-i
invariant-loop-i l = number_of_name l.name l.names ≡ option_map (λ k. l.i + k) (number_of_name l.name (drop l.i l.names))
