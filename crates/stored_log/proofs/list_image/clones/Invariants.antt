use Rattle.std.proofs.Common.{◌≡◌, take}
use Rattle.stored_log.proofs.list_image.clones.Given as goal

abbrev pub invariant-loop-doc : goal.invariant-loop-doc
invariant-loop-doc l = l.clones.items ≡ take l.doc-index l.docs
