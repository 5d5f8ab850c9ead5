use Rattle.std.proofs.Common.{◌≡◌, ◌+◌, length}
use Rattle.std.specs.Vec.Iter.{into_iter_len}
use Rattle.served_log.proofs.restore.share_documents.Given as goal

abbrev pub invariant-loop-doc : goal.invariant-loop-doc
invariant-loop-doc g l = l.shelf + into_iter_len l.doc-iterator ≡ length l.names.items
