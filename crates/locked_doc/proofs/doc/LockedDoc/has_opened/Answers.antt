use Rattle.std.proofs.Common.{subst}
use Rattle.doc_rules.specs.Document.{IsSound}
use Rattle.locked_doc.specs.Locked.{Locked}
use Rattle.locked_doc.proofs.doc.LockedDoc.has_opened.Goals as goal

pub returns-then-seat-ne0-clause-sound : goal.returns-then-seat-ne0-clause-sound
returns-then-seat-ne0-clause-sound g c = subst (λ (d : Locked). IsSound d.document) c.self.view_is c.self.invariant.0.sound

pub returns-else-seat-ne0-clause-sound : goal.returns-else-seat-ne0-clause-sound
returns-else-seat-ne0-clause-sound g c = subst (λ (d : Locked). IsSound d.document) c.self.view_is c.self.invariant.0.sound
