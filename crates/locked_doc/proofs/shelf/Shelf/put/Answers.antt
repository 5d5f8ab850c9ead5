use Rattle.std.proofs.Common.{length, refl, ap, ◌∙◌, arith}
use Rattle.locked_doc.proofs.shelf.Shelf.put.Goals as goal

pub returns-then-is_err-clause-err : goal.returns-then-is_err-clause-err
returns-then-is_err-clause-err g c = (refl, ap length c.reserve.ensures.items ∙ c.self.view_is)

pub returns-clause-ok : goal.returns-clause-ok
returns-clause-ok g c = omega (arith, ap length c.reserve.ensures.items, c.self.view_is)
