use Rattle.std.proofs.Common.{◌≡◌, ◌&&◌, drop}
use Rattle.std.specs.List.{list_any}
use Rattle.crdt_rules.specs.Same.{id_eq, key_eq}
use Rattle.plain_rules.proofs.query.is_marked.Given as goal

abbrev pub invariant-loop-mark : goal.invariant-loop-mark
invariant-loop-mark l = list_any (λ m. key_eq m.0 l.key && id_eq m.1 l.id) l.marks ≡ list_any (λ m. key_eq m.0 l.key && id_eq m.1 l.id) (drop l.mark-index l.marks)
