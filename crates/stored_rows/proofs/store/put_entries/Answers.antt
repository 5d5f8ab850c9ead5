use Rattle.std.proofs.Common.{Err, ◌+◌, [], ◌∷◌, ◌++◌, map, string_bytes}
use Rattle.stored_rows.specs.Statements.{begin_it, commit_it}
use Rattle.stored_rows.proofs.RunLemmas.{runs_then, runs_until}
use Rattle.stored_rows.proofs.EntryWrites.{puts_of, batch_shows, batch_survives}
use Rattle.stored_rows.proofs.store.put_entries.Goals as goal

pub returns-in_err-run_all : goal.returns-in_err-run_all
returns-in_err-run_all g c =
    let puts = puts_of string_bytes c.args.doc.now c.args.from c.args.texts.now in
    let r = c.from_residual.result in
    let whole = runs_until g.S.Store (begin_it ∷ []) (puts ++ commit_it ∷ []) c.args.conn.now c.run_all.new.conn c.in_err-run_all.field-0.0 r c.from_residual.ensures.1 c.in_err-run_all.ensures in
    let texts = map string_bytes c.args.texts.now in
    record {
      ok = batch_shows g.S.Store c.args.doc.now (c.args.from + 1) texts c.args.conn.now c.run_all.new.conn r whole;
      crash = batch_survives g.S.Store c.args.doc.now (c.args.from + 1) texts c.args.conn.now c.run_all.new.conn r whole;
      ran = whole.ran;
      err = whole.err;
      commits = whole.crash;
    }

pub returns-in_err-put_rows : goal.returns-in_err-put_rows
returns-in_err-put_rows g c =
    let puts = puts_of string_bytes c.args.doc.now c.args.from c.args.texts.now in
    let r = c.from_residual-in_err-put_rows.result in
    let both = runs_then g.S.Store (begin_it ∷ []) puts c.args.conn.now c.run_all.new.conn c.put_rows.new.conn c.in_ok-run_all.field-0 (Err c.in_err-put_rows.field-0.0) c.in_ok-run_all.ensures c.in_err-put_rows.ensures in
    let whole = runs_until g.S.Store (begin_it ∷ puts) (commit_it ∷ []) c.args.conn.now c.put_rows.new.conn c.in_err-put_rows.field-0.0 r c.from_residual-in_err-put_rows.ensures.1 both in
    let texts = map string_bytes c.args.texts.now in
    record {
      ok = batch_shows g.S.Store c.args.doc.now (c.args.from + 1) texts c.args.conn.now c.put_rows.new.conn r whole;
      crash = batch_survives g.S.Store c.args.doc.now (c.args.from + 1) texts c.args.conn.now c.put_rows.new.conn r whole;
      ran = whole.ran;
      err = whole.err;
      commits = whole.crash;
    }

pub returns : goal.returns
returns g c =
    let puts = puts_of string_bytes c.args.doc.now c.args.from c.args.texts.now in
    let r = c.run_all-2.result in
    let ended = runs_then g.S.Store puts (commit_it ∷ []) c.run_all.new.conn c.put_rows.new.conn c.run_all-2.new.conn c.in_ok-put_rows.field-0 r c.in_ok-put_rows.ensures c.run_all-2.ensures in
    let whole = runs_then g.S.Store (begin_it ∷ []) (puts ++ commit_it ∷ []) c.args.conn.now c.run_all.new.conn c.run_all-2.new.conn c.in_ok-run_all.field-0 r c.in_ok-run_all.ensures ended in
    let texts = map string_bytes c.args.texts.now in
    record {
      ok = batch_shows g.S.Store c.args.doc.now (c.args.from + 1) texts c.args.conn.now c.run_all-2.new.conn r whole;
      crash = batch_survives g.S.Store c.args.doc.now (c.args.from + 1) texts c.args.conn.now c.run_all-2.new.conn r whole;
      ran = whole.ran;
      err = whole.err;
      commits = whole.crash;
    }
