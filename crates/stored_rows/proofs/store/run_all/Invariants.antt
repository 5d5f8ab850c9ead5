use Rattle.std.proofs.Common.{map, take, Ok}
use Rattle.stored_rows.specs.Statements.{RunsThrough, text_alone}
use Rattle.stored_rows.proofs.store.run_all.Given as goal

abbrev pub invariant-loop-text : goal.invariant-loop-text
invariant-loop-text g l = RunsThrough g.S.Store (map (λ t. text_alone t.now) (take l.text-index l.texts)) l.fn.conn l.conn (Ok (tt {0}))
