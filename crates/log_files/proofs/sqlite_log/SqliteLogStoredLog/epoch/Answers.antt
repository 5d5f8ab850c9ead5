use Rattle.log_files.proofs.sqlite_log.SqliteLogStoredLog.epoch.Goals as goal

pub returns-in-Some-clause-some : goal.returns-in-Some-clause-some
returns-in-Some-clause-some c = rw c.in-Some.is c.epoch.ensures.some

pub returns-in-Some-clause-one : goal.returns-in-Some-clause-one
returns-in-Some-clause-one c = rw c.in-Some.is c.epoch.ensures.one

pub returns-in-Some-clause-one_docs : goal.returns-in-Some-clause-one_docs
returns-in-Some-clause-one_docs c = rw c.in-Some.is c.epoch.ensures.one_docs

pub returns-in-Some-clause-stays : goal.returns-in-Some-clause-stays
returns-in-Some-clause-stays c = rw c.in-Some.is c.epoch.ensures.stays
