use Rattle.std.proofs.Common.{sym, ◌∙◌}
use Rattle.std.specs.Arc.{arc_slice_items}
use Rattle.version_vector.proofs.FrontPairs.{greatest-pairs}
use Rattle.version_vector.proofs.front.Front.max_counter.Goals as goal

pub returns : goal.returns
returns c =
    rw (← c.self.view_is) (c.greatest.ensures
    ∙ sym (greatest-pairs (arc_slice_items c.self.inside.names) c.self.inside.counters c.self.invariant.0))
