use Rattle.log_copy.proofs.SoundLemmas.{sound_if_serves}
use Rattle.log_copy.proofs.FoldLemmas.{is_in_store, serves_again, was_alone}
use Rattle.log_copy.proofs.copy.LogCopy.fold.Goals as goal

pub invariant_of-result : goal.invariant_of-result
invariant_of-result g c =
    let it = c.self.inside in
    sound_if_serves g.S.Store g.met.S.Store.settled _ c.self.invariant.storable
    (serves_again g.S.Store g.S.Foldable.holds_alone it.conn it.epoch it.docs.items it.is_alone it.has_failed c.self.invariant c.in-Ok.conn c.in-Ok.ensures.ok c.in-Ok.ensures.schema)

pub returns-in-Ok-clause-sound : goal.returns-in-Ok-clause-sound
returns-in-Ok-clause-sound g c = invariant_of-result g c

pub returns-in-Err-clause-left : goal.returns-in-Err-clause-left
returns-in-Err-clause-left g c =
    let it = c.self.inside in
    rw (← c.self.view_is) (is_in_store g.S.Store g.S.Foldable.holds_alone it.conn it.epoch it.docs.items it.is_alone it.has_failed c.self.invariant c.in-Err.fault.1 c.in-Err.ensures.err)

pub returns-in-Ok-clause-folded : goal.returns-in-Ok-clause-folded
returns-in-Ok-clause-folded g c =
    let it = c.self.inside in
    rw (← c.self.view_is) (was_alone g.S.Store g.S.Foldable.holds_alone it.conn it.epoch it.docs.items it.is_alone it.has_failed c.self.invariant c.in-Ok.conn c.in-Ok.ensures.ok)
