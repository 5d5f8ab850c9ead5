use Rattle.std.proofs.Common.{inl, inr, false, true, Some, refl}
use Rattle.session_rules.specs.declared.Ending.TheVariants.{TooLong, WriteFault}
use Rattle.session_core.specs.OpenDocuments.{access_of}
use Rattle.session_core.specs.Serving.{state_of}
use Rattle.session_core.proofs.Turning.{line_turns, cut_turns, long_turns, end_turns, fault_turns, quit_keeps, goes_on_keeps, cut_keeps, long_cut_keeps, long_keeps}
use Rattle.session_core.proofs.run.Talk.take_turn.Goals as goal

pub returns-in-Ok-true-clause-turns : goal.returns-in-Ok-true-clause-turns
returns-in-Ok-true-clause-turns g c = λ names same.
    line_turns (access_of names g.A.DocAccess.opens g.A.DocAccess.acts g.A.DocAccess.reads) c.args.outcome c.args.line.now.bytes.now
    (state_of g.A.DocAccess c.args.self.now.access.now c.args.self.now.session.now.opened.items)
    (g.W.Sink.contents c.args.sink.now)
    (state_of g.A.DocAccess c.answer_line.new.self.access.now c.answer_line.new.self.session.now.opened.items)
    (g.W.Sink.contents c.answer_line.new.sink) c.in-Ok-true.field-0 true c.in-Line.is c.in-Ok-true.field-0-test (c.in-Ok-true.ensures.ok names same)

pub returns-in-Ok-false-clause-turns : goal.returns-in-Ok-false-clause-turns
returns-in-Ok-false-clause-turns g c = λ names same.
    line_turns (access_of names g.A.DocAccess.opens g.A.DocAccess.acts g.A.DocAccess.reads) c.args.outcome c.args.line.now.bytes.now
    (state_of g.A.DocAccess c.args.self.now.access.now c.args.self.now.session.now.opened.items)
    (g.W.Sink.contents c.args.sink.now)
    (state_of g.A.DocAccess c.answer_line.new.self.access.now c.answer_line.new.self.session.now.opened.items)
    (g.W.Sink.contents c.answer_line.new.sink) c.in-Ok-false.field-0 false c.in-Line.is c.in-Ok-false.field-0-test (c.in-Ok-false.ensures.ok names same)

pub returns-in-Err-clause-turns : goal.returns-in-Err-clause-turns
returns-in-Err-clause-turns g c = λ names same.
    cut_turns (access_of names g.A.DocAccess.opens g.A.DocAccess.acts g.A.DocAccess.reads) c.args.outcome c.args.line.now.bytes.now
    (state_of g.A.DocAccess c.args.self.now.access.now c.args.self.now.session.now.opened.items)
    (g.W.Sink.contents c.args.sink.now)
    (state_of g.A.DocAccess c.answer_line.new.self.access.now c.answer_line.new.self.session.now.opened.items)
    (g.W.Sink.contents c.answer_line.new.sink) c.in-Line.is (c.in-Err.ensures.cut names same)

pub returns-in-Ok-clause-turns : goal.returns-in-Ok-clause-turns
returns-in-Ok-clause-turns g c = λ names same.
    long_turns (access_of names g.A.DocAccess.opens g.A.DocAccess.acts g.A.DocAccess.reads) c.args.outcome c.args.line.now.bytes.now
    (state_of g.A.DocAccess c.args.self.now.access.now c.args.self.now.session.now.opened.items)
    (g.W.Sink.contents c.args.sink.now)
    (g.W.Sink.contents c.refuse.new.sink) (Some TooLong) c.in-TooLong.is (inl (c.in-Ok.ensures.ok, refl))

pub returns-in-Err-refuse-clause-turns : goal.returns-in-Err-refuse-clause-turns
returns-in-Err-refuse-clause-turns g c = λ names same.
    long_turns (access_of names g.A.DocAccess.opens g.A.DocAccess.acts g.A.DocAccess.reads) c.args.outcome c.args.line.now.bytes.now
    (state_of g.A.DocAccess c.args.self.now.access.now c.args.self.now.session.now.opened.items)
    (g.W.Sink.contents c.args.sink.now)
    (g.W.Sink.contents c.refuse.new.sink) (Some WriteFault) c.in-TooLong.is (inr (c.in-Err-refuse.ensures.cut, refl))

pub returns-in-End-clause-turns : goal.returns-in-End-clause-turns
returns-in-End-clause-turns g c = λ names same.
    end_turns (access_of names g.A.DocAccess.opens g.A.DocAccess.acts g.A.DocAccess.reads) c.args.outcome c.args.line.now.bytes.now
    (state_of g.A.DocAccess c.args.self.now.access.now c.args.self.now.session.now.opened.items)
    (g.W.Sink.contents c.args.sink.now) c.in-End.is

pub returns-in-Fault-clause-turns : goal.returns-in-Fault-clause-turns
returns-in-Fault-clause-turns g c = λ names same.
    fault_turns (access_of names g.A.DocAccess.opens g.A.DocAccess.acts g.A.DocAccess.reads) c.args.outcome c.args.line.now.bytes.now
    (state_of g.A.DocAccess c.args.self.now.access.now c.args.self.now.session.now.opened.items)
    (g.W.Sink.contents c.args.sink.now) c.in-Fault.is

pub returns-in-Ok-true-clause-flushed : goal.returns-in-Ok-true-clause-flushed
returns-in-Ok-true-clause-flushed g c =
    quit_keeps c.args.outcome c.args.line.now.waits (g.W.Sink.unflushed c.args.sink.now) (g.W.Sink.unflushed c.answer_line.new.sink)
    c.in-Ok-true.field-0 c.in-Line.is c.in-Ok-true.field-0-test c.in-Ok-true.ensures.flushed

pub returns-in-Ok-false-clause-flushed : goal.returns-in-Ok-false-clause-flushed
returns-in-Ok-false-clause-flushed g c =
    goes_on_keeps c.args.outcome c.args.line.now.waits (g.W.Sink.unflushed c.args.sink.now) (g.W.Sink.unflushed c.answer_line.new.sink)
    c.in-Ok-false.field-0 c.in-Line.is c.in-Ok-false.ensures.flushed

pub returns-in-Err-clause-flushed : goal.returns-in-Err-clause-flushed
returns-in-Err-clause-flushed g c =
    cut_keeps c.args.outcome c.args.line.now.waits (g.W.Sink.unflushed c.args.sink.now) (g.W.Sink.unflushed c.answer_line.new.sink) c.in-Line.is

pub returns-in-Ok-clause-flushed : goal.returns-in-Ok-clause-flushed
returns-in-Ok-clause-flushed g c =
    long_keeps c.args.outcome c.args.line.now.waits (g.W.Sink.unflushed c.args.sink.now) (g.W.Sink.unflushed c.refuse.new.sink) c.in-TooLong.is c.in-Ok.ensures.flushed

pub returns-in-Err-refuse-clause-flushed : goal.returns-in-Err-refuse-clause-flushed
returns-in-Err-refuse-clause-flushed g c =
    long_cut_keeps c.args.outcome c.args.line.now.waits (g.W.Sink.unflushed c.args.sink.now) (g.W.Sink.unflushed c.refuse.new.sink) c.in-TooLong.is
