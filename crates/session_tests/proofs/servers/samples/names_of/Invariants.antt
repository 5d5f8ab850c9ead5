use Rattle.std.proofs.Common.{◌≡◌, length}
use Rattle.session_tests.proofs.servers.samples.names_of.Given as goal

abbrev pub invariant-loop-document : goal.invariant-loop-document
invariant-loop-document l = length l.names.items ≡ l.document-index
