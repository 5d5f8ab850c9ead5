use Rattle.std.proofs.Common.{◌≤◌, length, refl, ap, sym, arith}
use Rattle.doc_rules.specs.Document.{Document}
use Rattle.locked_doc.specs.Locked.{document_of}
use Rattle.locked_doc.proofs.Counted.{counted_copied}
use Rattle.locked_doc.proofs.Opening.{copied_next}
use Rattle.locked_doc.proofs.doc.LockedDoc.note_copied.Goals as goal

pub invariant_of-self : goal.invariant_of-self
invariant_of-self g c =
    let d = c.self.inside in
    let within : c.args.copied ≤ length d.replica.log = omega (arith, c.if-copied-len.true, c.len.ensures.len, ap length c.log.ensures.log) in (
      counted_copied d.number (document_of d.replica d.seats_of.items (length d.books.items) d.opened d.copied) d.books.items d.unopened.items c.args.copied c.self.invariant.0 within,
      c.self.invariant.1,
      c.self.invariant.2,
      c.self.invariant.3,
    )

pub returns-then-copied-len : goal.returns-then-copied-len
returns-then-copied-len g c =
    let d = c.self.inside in
    let doc : Document = document_of d.replica d.seats_of.items (length d.books.items) d.opened d.copied in
    let within : c.args.copied ≤ length d.replica.log = omega (arith, c.if-copied-len.true, c.len.ensures.len, ap length c.log.ensures.log) in
    rw (← c.self.view_is) (refl, sym (copied_next c.args.copied doc c.if-copied-self.true within))
