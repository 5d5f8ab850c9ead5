use Rattle.std.proofs.Common.{◌≡◌}
use Rattle.stored_rows.proofs.Reading.{HasReadTo}
use Rattle.stored_rows.proofs.load.read_docs.Given as goal

abbrev pub invariant-rows : goal.invariant-rows
invariant-rows g l = (l.rows.conn.ghost_name ≡ l.initial.rows.conn.ghost_name) × HasReadTo g.S.Store l.fn.conn l.format l.rows.conn.now l.docs.items
