use Rattle.std.proofs.Common.{◌≡◌, ◌+◌, ◌-◌, ◌++◌, List, length, take, drop, subst, ◌∙◌}
use Rattle.op_core.specs.Op.{Op}
use Rattle.share_ledger.specs.Counters.{Counter, seat_counter}
use Rattle.doc_rules.specs.Seats.{operation_ids}
use Rattle.locked_doc.proofs.Following.{read_rest}
use Rattle.locked_doc.proofs.copier.follow_log.Goals as goal

pub returns-clause-book : goal.returns-clause-book
returns-clause-book g c =
    c.follow.ensures.book ∙ read_rest c.args.log.now c.args.book.now c.count-read.result c.count-read.ensures c.requires.counted c.requires.prefix

pub returns-clause-share : goal.returns-clause-share
returns-clause-share g c =
    let log = c.args.log.now in
    let rest : List Op = take (length log - c.count-read.result) (drop c.count-read.result log) in
    c.follow.ensures.share
    ∙ subst (λ (x : Counter). seat_counter x.number x.seat (x.count + length rest) (x.ids ++ operation_ids rest) ≡ seat_counter x.number x.seat (length log) (operation_ids log)) c.follow.ensures.agree
    (read_rest log c.args.book.now c.count-read.result c.count-read.ensures c.requires.counted c.requires.prefix)
