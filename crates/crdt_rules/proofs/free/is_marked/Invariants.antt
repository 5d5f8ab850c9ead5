use Rattle.std.proofs.Common.{◌≡◌, ◌&&◌, drop}
use Rattle.std.specs.List.{list_any}
use Rattle.crdt_rules.specs.Same.{id_eq}
use Rattle.crdt_rules.specs.Effect.{marks}
use Rattle.crdt_rules.proofs.free.is_marked.Given as goal

abbrev pub invariant-loop-op : goal.invariant-loop-op
invariant-loop-op l = list_any (λ op. id_eq op.id l.id && marks op l.path l.key) l.ops ≡ list_any (λ op. id_eq op.id l.id && marks op l.path l.key) (drop l.op-index l.ops)
