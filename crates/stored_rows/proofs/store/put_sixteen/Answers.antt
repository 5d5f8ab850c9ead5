use Rattle.std.proofs.Common.{◌+◌, map, string_bytes}
use Rattle.stored_rows.specs.Content.{rows_from}
use Rattle.stored_rows.specs.Statements.{insert_sixteen}
use Rattle.stored_rows.proofs.RunLemmas.{runs_one}
use Rattle.stored_rows.proofs.store.put_sixteen.Goals as goal

pub returns : goal.returns
returns g c =
    let rows = rows_from c.args.doc.now (c.args.from + 1) (map string_bytes c.args.texts.now) in
    runs_one g.S.Store (insert_sixteen rows) c.args.conn.now c.execute.new.self c.execute.result
    (rw c.row_values.ensures at c.execute.ensures.runs) (rw c.row_values.ensures at c.execute.ensures.survives)
