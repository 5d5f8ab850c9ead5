use Rattle.log_files.proofs.files.SqliteFilesOpenLog.open.Goals as goal

pub returns-in-Ok-clause-stays : goal.returns-in-Ok-clause-stays
returns-in-Ok-clause-stays g c = rw c.new.ensures c.in_ok-log.ensures.stays
