use Rattle.std.proofs.Common.{◌∙◌, length, ap}
use Rattle.locked_doc.specs.Locked.{Locked}
use Rattle.locked_doc.proofs.doc.LockedDoc.logged.Goals as goal

pub returns : goal.returns
returns g c = c.len.ensures.len ∙ (ap length c.log.ensures.log ∙ ap (λ (x : Locked). length x.document.replica.log) c.self.view_is)
