use Rattle.std.proofs.Common.{◌+◌, ◌<◌, ◌^◌, length, string_bytes, Result}
use Rattle.sqlite.specs.Held.{Held}
use Rattle.sqlite.specs.declared.error.Error.{Error}
use Rattle.stored_rows.specs.Statements.{RunsThrough}
use Rattle.stored_rows.proofs.EntryWrites.{puts_of}
use Rattle.stored_rows.proofs.store.put_rows.Given as goal

abbrev pub invariant-loop-rest : goal.invariant-loop-rest
invariant-loop-rest g l = record {
  fits : l.place + length l.rest < 2 ^ 32;
  puts : (new : Held g.row.S.Denot) (r : Result (Unit {0}) Error) → RunsThrough g.S.Store (puts_of string_bytes l.doc l.place l.rest) l.conn new r
      → RunsThrough g.S.Store (puts_of string_bytes l.doc l.from l.texts) l.fn.conn new r;
}

abbrev pub decreases-loop-rest : goal.decreases-loop-rest
decreases-loop-rest g l = length l.rest
