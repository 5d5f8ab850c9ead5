use Rattle.std.proofs.Common.{◌≡◌, map, take, string_bytes}
use Rattle.stored_log.specs.Docs.{Doc}
use Rattle.stored_log.proofs.docs.names.Given as goal

abbrev pub invariant-loop-doc : goal.invariant-loop-doc
invariant-loop-doc l = map string_bytes l.names.items ≡ map (λ (d : Doc). d.name) (take l.doc-index l.docs)
