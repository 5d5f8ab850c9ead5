use Rattle.std.proofs.Common.{sym, subst, ◌∙◌}
use Rattle.doc_view.proofs.Growing.{new_tree}
use Rattle.replica_core.specs.AgreesWith.{AgreesWith}
use Rattle.replica_core.proofs.Keeping.{whole_empty}
use Rattle.replica_core.proofs.replica.Replica.new.Goals as goal

pub new-requires-in-Ok-2 : goal.new-requires-in-Ok-2
new-requires-in-Ok-2 c = subst (AgreesWith c.in-Ok.tree) (sym c.new-in-Ok.ensures) (new_tree c.in-Ok.tree c.in-Ok.ensures.ok)

pub invariant_of-result : goal.invariant_of-result
invariant_of-result c =
    whole_empty c.args.name c.new-in-Ok-2.result c.keeps_name.ensures (c.new-in-Ok-2.ensures.log ∙ c.new-in-Ok.ensures) c.new-in-Ok-2.ensures.held
