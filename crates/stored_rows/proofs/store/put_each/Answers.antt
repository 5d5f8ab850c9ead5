use Rattle.std.proofs.Common.{◌+◌, string_bytes, subst, take_all, Ok, Err, arith}
use Rattle.stored_rows.specs.Content.{entry_row}
use Rattle.stored_rows.specs.Statements.{RunsThrough, insert_row}
use Rattle.stored_rows.proofs.RunLemmas.{runs_none, runs_one, runs_next, runs_no_further}
use Rattle.stored_rows.proofs.EntryWrites.{each_of, each_more, each_behind, each_rest}
use Rattle.stored_rows.proofs.store.put_each.Goals as goal

pub loop-text-init : goal.loop-text-init
loop-text-init g c = record { counted = omega arith; puts = runs_none g.S.Store c.args.conn.now tt }

pub loop-text-preserved : goal.loop-text-preserved
loop-text-preserved g c =
    let row = entry_row c.args.doc.now (c.loop-text.place + 1) (string_bytes c.text-item.result) in
    let one = runs_one g.S.Store (insert_row row) c.loop-text.conn c.execute.new.self (Ok c.in_ok-execute.field-0)
    (rw (c.params-to_sql.ensures, c.params-to_sql-in-loop-text.ensures, c.params-to_sql-in-loop-text-2.ensures, c.as_str.ensures.value) at c.in_ok-execute.ensures.runs) (rw (c.params-to_sql.ensures, c.params-to_sql-in-loop-text.ensures, c.params-to_sql-in-loop-text-2.ensures, c.as_str.ensures.value) at c.execute.ensures.survives) in
    record {
      counted = omega arith;
      puts = runs_next g.S.Store (each_of string_bytes c.args.doc.now c.args.from) c.args.texts.now c.loop-text.text-index (insert_row row)
          (each_more string_bytes c.args.doc.now c.args.from c.loop-text.place c.args.texts.now c.loop-text.text-index c.text-item.result (omega arith) c.text-item.is c.loop-text.invariant.counted)
          c.args.conn.now c.loop-text.conn c.execute.new.self tt _ tt c.loop-text.invariant.puts one;
    }

pub returns-in_err-execute : goal.returns-in_err-execute
returns-in_err-execute g c =
    let row = entry_row c.args.doc.now (c.loop-text.place + 1) (string_bytes c.text-item.result) in
    let one = runs_one g.S.Store (insert_row row) c.loop-text.conn c.execute.new.self (Err c.in_err-execute.field-0.0)
    (rw (c.params-to_sql.ensures, c.params-to_sql-in-loop-text.ensures, c.params-to_sql-in-loop-text-2.ensures, c.as_str.ensures.value) at c.in_err-execute.ensures.runs) (rw (c.params-to_sql.ensures, c.params-to_sql-in-loop-text.ensures, c.params-to_sql-in-loop-text-2.ensures, c.as_str.ensures.value) at c.execute.ensures.survives) in
    runs_no_further g.S.Store (each_of string_bytes c.args.doc.now c.args.from) c.args.texts.now c.loop-text.text-index (insert_row row)
    (each_more string_bytes c.args.doc.now c.args.from c.loop-text.place c.args.texts.now c.loop-text.text-index c.text-item.result (omega arith) c.text-item.is c.loop-text.invariant.counted)
    c.args.conn.now c.loop-text.conn c.execute.new.self (each_behind string_bytes c.args.doc.now c.args.from c.args.texts.now (c.loop-text.text-index + 1))
    (each_rest string_bytes c.args.doc.now c.args.from c.args.texts.now (c.loop-text.text-index + 1)) tt _ c.from_residual.result c.from_residual.ensures.1 c.loop-text.invariant.puts one

pub returns : goal.returns
returns g c = subst (λ z. RunsThrough g.S.Store (each_of string_bytes c.args.doc.now c.args.from z) c.args.conn.now c.loop-text.conn (Ok tt)) (take_all c.loop-text.text-index c.args.texts.now c.loop-text-test.false) c.loop-text.invariant.puts
