use Rattle.std.proofs.Common.{◌≡◌, ◌+◌, ◌≤◌, [], map, take, length}
use Rattle.doc_rules.specs.Document.{new_document}
use Rattle.run_core.proofs.run.make_all.Given as goal

abbrev pub invariant-loop-name : goal.invariant-loop-name
invariant-loop-name g l = record {
  room : length l.names ≤ g.M.Maker.room l.maker + l.name-index;
  names : l.made.items ≡ map (λ s. s.now) (take l.name-index l.names);
  documents : map g.M.Made.Document.document l.documents.items ≡ map (λ n. new_document l.replica [] 1) (map (λ s. s.now) (take l.name-index l.names));
}
