use Rattle.std.proofs.Common.{◌≡◌, ◌<◌, ℕ, map, take, length, get_or}
use Rattle.doc_rules.specs.Document.{new_document}
use Rattle.stored_log.specs.Docs.{log_of}
use Rattle.served_log.specs.Known.{KnowsRows, nothing_read}
use Rattle.served_log.proofs.Restored.{no_name}
use Rattle.served_log.proofs.restore.restore_all.Given as goal

abbrev pub invariant-loop-name : goal.invariant-loop-name
invariant-loop-name g l = record {
  next : l.ledger ≡ l.name-index;
  documents : map (λ d. d.document) l.docs.items ≡ map (λ n. new_document l.from.replica.now (log_of n (g.L.StoredLog.log l.from.stored.now).docs) l.from.seats) (map (λ s. s.now) (take l.name-index l.names));
  each : length l.docs.items ≡ l.name-index;
  seated : length l.seats ≡ l.name-index;
  known : (k : ℕ) → k < l.name-index → KnowsRows (g.L.StoredLog.log l.from.stored.now).docs (get_or l.names k no_name).now (get_or l.seats k nothing_read);
}
