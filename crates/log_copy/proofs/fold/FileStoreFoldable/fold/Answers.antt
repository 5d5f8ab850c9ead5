use Rattle.std.proofs.Common.{sym, subst}
use Rattle.sqlite_trees.specs.View.{IsRolledBack}
use Rattle.sqlite_rules.proofs.ViewLemmas.{still_quiet}
use Rattle.sqlite_store.specs.FileStore.{view}
use Rattle.std.proofs.lemmas.Result.{on_ok_weaker}
use Rattle.log_copy.proofs.FoldLemmas.{on_ok3, alone}
use Rattle.log_copy.proofs.fold.FileStoreFoldable.fold.Goals as goal

pub returns-clause-undone : goal.returns-clause-undone
returns-clause-undone g c =
    on_ok_weaker c.checkpoint.result (λ opens none. subst (IsRolledBack (view c.args.self.now)) (sym (c.checkpoint.ensures.same (opens none))) c.rollback.ensures.undone) c.checkpoint.ensures.open

pub returns-clause-folded : goal.returns-clause-folded
returns-clause-folded g c =
    on_ok3 c.checkpoint.result c.checkpoint.ensures.ready c.checkpoint.ensures.open c.checkpoint.ensures.moved
    (alone g.met.D.Disk.seen_may_stay c.args.self.now c.rollback.new.self c.checkpoint.new.self c.rollback.ensures.undone c.rollback.ensures.quiet c.rollback.ensures.logged c.checkpoint.ensures.quiet c.checkpoint.ensures.same)

pub returns-clause-quiet : goal.returns-clause-quiet
returns-clause-quiet g c = still_quiet c.rollback.ensures.quiet c.checkpoint.ensures.quiet
