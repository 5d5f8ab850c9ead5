use Rattle.std.proofs.Common.{◌≡◌, ◌+◌, take, string_bytes, Ok}
use Rattle.stored_rows.specs.Statements.{RunsThrough}
use Rattle.stored_rows.proofs.EntryWrites.{each_of}
use Rattle.stored_rows.proofs.store.put_each.Given as goal

abbrev pub invariant-loop-text : goal.invariant-loop-text
invariant-loop-text g l = record {
  counted : l.place ≡ l.from + l.text-index;
  puts : RunsThrough g.S.Store (each_of string_bytes l.doc l.from (take l.text-index l.texts)) l.fn.conn l.conn (Ok (tt {0}));
}
