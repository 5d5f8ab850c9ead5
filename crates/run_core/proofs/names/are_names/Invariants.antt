use Rattle.std.proofs.Common.{◌≡◌, map, drop}
use Rattle.std.specs.List.{list_all}
use Rattle.lamport_id.specs.Name.{is_name}
use Rattle.run_core.proofs.names.are_names.Given as goal

abbrev pub invariant-loop-text : goal.invariant-loop-text
invariant-loop-text l = list_all is_name (map (λ s. s.now) (drop l.text-index l.texts)) ≡ list_all is_name (map (λ s. s.now) l.texts)
