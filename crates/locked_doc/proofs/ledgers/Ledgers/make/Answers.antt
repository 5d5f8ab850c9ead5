use Rattle.std.proofs.Common.{refl, arith}
use Rattle.locked_doc.proofs.ledgers.Ledgers.make.Goals as goal

pub returns-clause-ok : goal.returns-clause-ok
returns-clause-ok g c = (refl, c.open_all.ensures.books.1, omega (arith, c.open_store-store.ensures.table))
