use Rattle.std.proofs.Common.{map, inl}
use Rattle.run_core.specs.Served.{ServesWanted}
use Rattle.run_core.proofs.Runs.{of_wanted, until_fault}
use Rattle.run_core.proofs.run.serve.Goals as goal

pub returns-in-Ok-clause-served : goal.returns-in-Ok-clause-served
returns-in-Ok-clause-served g c = λ wanted are zero.
    let (opened, ends, seats) = c.in-Ok.ensures.session in
    let (no_read, no_write) = c.finish.ensures.no_fault zero in (
      c.in-Ok.ended.why,
      no_read,
      no_write,
      (_, of_wanted wanted c.args.documents.names.items (map g.D.Document.document c.args.documents.documents.items) are _ _ _ _ c.in-Ok.ended.why _ ends),
    )

pub returns-in-Ok-clause-failed : goal.returns-in-Ok-clause-failed
returns-in-Ok-clause-failed g c = λ wanted are one.
    let (opened, ends, seats) = c.in-Ok.ensures.session in
    let serves : ServesWanted wanted c.in-Ok.ended.why (g.R.Source.remaining c.args.source.now) (g.R.Source.remaining c.run_alone.new.source)
    (g.W.Sink.contents c.args.sink.now) (g.W.Sink.contents c.run_alone.new.sink) = (
      _,
      of_wanted wanted c.args.documents.names.items (map g.D.Document.document c.args.documents.documents.items) are _ _ _ _ c.in-Ok.ended.why _ ends,
    ) in
    inl (until_fault wanted c.in-Ok.ended.why _ _ _ _ _ _ serves c.in-Ok.ensures.read_fault c.in-Ok.ensures.write_fault (c.finish.ensures.fault one))
