use Rattle.std.proofs.Common.{ap, ◌∙◌}
use Rattle.doc_rules.specs.Document.{copied_to}
use Rattle.served_log.proofs.batch.note_rows.Goals as goal

pub returns : goal.returns
returns g c = (c.note_copied.ensures.0, c.note_copied.ensures.1 ∙ ap (λ n. copied_to n c.args.doc.now.document) c.requires)
