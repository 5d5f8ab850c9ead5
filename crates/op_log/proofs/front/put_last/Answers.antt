use Rattle.std.proofs.Common.{◌≡◌, Some, get_or, sym, ap, ◌∙◌}
use Rattle.op_log.proofs.Fronts.{get_by-place, get_by-gap, put_at_place, put_in_gap, NamesRise-set, NamesRise-insert}
use Rattle.op_log.proofs.front.put_last.Goals as goal

pub returns-in-Ok-clause-before : goal.returns-in-Ok-clause-before
returns-in-Ok-clause-before g c =
    let read : c.index.result.now ≡ get_or c.args.pairs.now.items c.in-Ok.at c.index.result.now = c.index.ensures in
    ap (λ e. Some e.1) read
    ∙ sym (get_by-place c.args.pairs.now.items c.args.name c.in-Ok.at c.index.result.now c.requires.rising (rw c.deref.ensures.value at c.in-Ok.ensures))

pub returns-in-Ok-clause-rising : goal.returns-in-Ok-clause-rising
returns-in-Ok-clause-rising g c =
    NamesRise-set c.args.pairs.now.items c.args.name c.args.last c.in-Ok.at c.requires.rising (rw c.deref.ensures.value at c.in-Ok.ensures)

pub returns-in-Ok-clause-puts : goal.returns-in-Ok-clause-puts
returns-in-Ok-clause-puts g c =
    put_at_place c.args.pairs.now.items c.args.name c.args.last c.in-Ok.at c.requires.rising (rw c.deref.ensures.value at c.in-Ok.ensures)

pub returns-in-Err-clause-before : goal.returns-in-Err-clause-before
returns-in-Err-clause-before g c = sym (get_by-gap c.args.pairs.now.items c.args.name c.in-Err.at (rw c.deref.ensures.value at c.in-Err.ensures))

pub returns-in-Err-clause-rising : goal.returns-in-Err-clause-rising
returns-in-Err-clause-rising g c =
    let gap = rw c.deref.ensures.value at c.in-Err.ensures in
    rw (c.insert.ensures.items, c.unwrap.ensures) (NamesRise-insert c.args.pairs.now.items c.args.name c.args.last c.in-Err.at c.requires.rising gap)

pub returns-in-Err-clause-puts : goal.returns-in-Err-clause-puts
returns-in-Err-clause-puts g c =
    let gap = rw c.deref.ensures.value at c.in-Err.ensures in
    rw (c.insert.ensures.items, c.unwrap.ensures) (put_in_gap c.args.pairs.now.items c.args.name c.args.last c.in-Err.at gap)
