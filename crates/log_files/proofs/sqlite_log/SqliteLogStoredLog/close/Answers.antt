use Rattle.log_files.proofs.sqlite_log.SqliteLogStoredLog.close.Goals as goal

pub returns-in-Some-clause-folded : goal.returns-in-Some-clause-folded
returns-in-Some-clause-folded c = rw c.in-Some.is c.close_log.ensures.folded

pub returns-in-Some-clause-left : goal.returns-in-Some-clause-left
returns-in-Some-clause-left c = rw c.in-Some.is c.close_log.ensures.left
