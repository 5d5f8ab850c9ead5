use Rattle.log_files.proofs.sqlite_log.fold_log.Goals as goal

pub returns-in-Ok-clause-same : goal.returns-in-Ok-clause-same
returns-in-Ok-clause-same c = rw c.new.ensures c.in-Ok.ensures.same

pub returns-in-Ok-clause-folded : goal.returns-in-Ok-clause-folded
returns-in-Ok-clause-folded c = λ works. rw c.new.ensures (c.in-Ok.ensures.folded works)
