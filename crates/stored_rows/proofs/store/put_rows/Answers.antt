use Rattle.std.proofs.Common.{◌+◌, [], ◌∷◌, map, string_bytes, subst, Ok, Err, arith}
use Rattle.stored_rows.specs.Content.{rows_from}
use Rattle.stored_rows.specs.Statements.{RunsThrough, insert_sixteen}
use Rattle.stored_rows.proofs.EntryWrites.{puts_of, next_sixteen, no_further, last_few}
use Rattle.stored_rows.proofs.store.put_rows.Goals as goal

pub loop-rest-init : goal.loop-rest-init
loop-rest-init g c = record { fits = omega arith; puts = λ new r h. h }

pub returns-in_err-put_sixteen : goal.returns-in_err-put_sixteen
returns-in_err-put_sixteen g c =
    let doc = c.args.doc.now in
    let place = c.loop-rest.place in
    let old = c.loop-rest.conn in
    let new = c.put_sixteen.new.conn in
    let e = c.in_err-put_sixteen.field-0.0 in
    let one = subst (λ z. RunsThrough g.S.Store (insert_sixteen (rows_from doc (place + 1) (map string_bytes z)) ∷ []) old new (Err e)) c.split_at.ensures.front c.in_err-put_sixteen.ensures in
    c.loop-rest.invariant.puts new c.from_residual.result (no_further g.S.Store string_bytes doc place c.loop-rest.rest.now e old new c.from_residual.result c.loop-rest-test.true c.from_residual.ensures.1 one)

pub loop-rest-preserved : goal.loop-rest-preserved
loop-rest-preserved g c =
    let doc = c.args.doc.now in
    let place = c.loop-rest.place in
    let old = c.loop-rest.conn in
    let mid = c.put_sixteen.new.conn in
    let x = c.in_ok-put_sixteen.field-0 in
    let one = subst (λ z. RunsThrough g.S.Store (insert_sixteen (rows_from doc (place + 1) (map string_bytes z)) ∷ []) old mid (Ok x)) c.split_at.ensures.front c.in_ok-put_sixteen.ensures in
    record {
      fits = omega (arith, c.split_at.ensures.back_len);
      puts = λ new r h. c.loop-rest.invariant.puts new r
          (next_sixteen g.S.Store string_bytes doc place c.loop-rest.rest.now x old mid new r c.loop-rest-test.true one (subst (λ z. RunsThrough g.S.Store (puts_of string_bytes doc (place + 16) z) mid new r) c.split_at.ensures.back h));
    }

pub returns : goal.returns
returns g c =
    c.loop-rest.invariant.puts c.put_each.new.conn c.put_each.result
    (last_few g.S.Store string_bytes c.args.doc.now c.loop-rest.place c.loop-rest.rest.now c.loop-rest.conn c.put_each.new.conn c.put_each.result c.loop-rest-test.false c.put_each.ensures)
