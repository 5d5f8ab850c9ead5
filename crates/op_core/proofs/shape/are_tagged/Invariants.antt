use Rattle.std.proofs.Common.{◌≡◌, drop}
use Rattle.std.specs.List.{list_all}
use Rattle.op_core.specs.Shape.{is_tagged}
use Rattle.op_core.proofs.shape.are_tagged.Given as goal

abbrev pub invariant-loop-tagged : goal.invariant-loop-tagged
invariant-loop-tagged l = list_all is_tagged (drop l.tagged-index l.path) ≡ list_all is_tagged l.path
