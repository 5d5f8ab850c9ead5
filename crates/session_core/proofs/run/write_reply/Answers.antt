use Rattle.std.proofs.Common.{Err, ap}
use Rattle.session_core.proofs.Fallback.{lack_written, lack_cut}
use Rattle.session_core.proofs.run.write_reply.Goals as goal

pub returns-in-Err-NoMemory-clause-ok : goal.returns-in-Err-NoMemory-clause-ok
returns-in-Err-NoMemory-clause-ok g c =
    let (same, takes) = c.in-Err-NoMemory.ensures.memory (ap Err c.in-Err-NoMemory.field-0-is) in
    lack_written c.write_refusal.result c.args.response.now (g.W.Sink.contents c.args.sink.now) (g.W.Sink.contents c.write.new.sink)
    (g.W.Sink.contents c.write_refusal.new.sink) (ap g.W.Sink.contents same) takes c.write_refusal.ensures.ok

pub returns-in-Err-NoMemory-clause-cut : goal.returns-in-Err-NoMemory-clause-cut
returns-in-Err-NoMemory-clause-cut g c =
    let (same, takes) = c.in-Err-NoMemory.ensures.memory (ap Err c.in-Err-NoMemory.field-0-is) in
    lack_cut c.write_refusal.result c.args.response.now (g.W.Sink.contents c.args.sink.now) (g.W.Sink.contents c.write.new.sink)
    (g.W.Sink.contents c.write_refusal.new.sink) (ap g.W.Sink.contents same) takes c.write_refusal.ensures.cut
