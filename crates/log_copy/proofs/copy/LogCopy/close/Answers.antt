use Rattle.log_copy.proofs.FoldLemmas.{if_ok, if_err, held, is_in_store, still_held}
use Rattle.log_copy.proofs.copy.LogCopy.close.Goals as goal

pub returns-clause-folded : goal.returns-clause-folded
returns-clause-folded g c =
    let it = c.self.inside in
    rw (← c.self.view_is) (if_ok c.folded.result c.folded.ensures.ok (λ last f. held g.S.Store g.S.Foldable.holds_alone it.conn it.epoch it.docs.items it.is_alone it.has_failed c.self.invariant last f))

pub returns-clause-stays : goal.returns-clause-stays
returns-clause-stays g c =
    let it = c.self.inside in
    rw (← c.self.view_is) (if_ok c.folded.result c.folded.ensures.ok (λ last f. still_held g.S.Store g.S.Foldable.holds_alone it.conn it.epoch it.docs.items it.is_alone it.has_failed c.self.invariant last f))

pub returns-clause-left : goal.returns-clause-left
returns-clause-left g c =
    let it = c.self.inside in
    rw (← c.self.view_is) (if_err c.folded.result c.folded.ensures.err (λ e k. is_in_store g.S.Store g.S.Foldable.holds_alone it.conn it.epoch it.docs.items it.is_alone it.has_failed c.self.invariant e.1 k))
