use Rattle.std.proofs.Common.{◌+◌, ◌-◌, ℕ, List, Ok, min, take, drop, ap, ◌∙◌}
use Rattle.op_core.specs.Op.{Op}
use Rattle.op_log.proofs.Firsts.{part_behind}
use Rattle.op_log.proofs.log.OpLog.tail.Goals as goal

pub returns : goal.returns
returns c other =
    let log = c.self.inside.entries.items in
    let start = c.min-start.result in
    let len = c.min-len.result in
    ap (λ (os : List Op). Ok os)
    (c.from.ensures ∙ c.in_ok-clone_all.ensures.ok
    ∙ ap (λ (l : List Op). take (start + len - start) (drop start l)) c.deref.ensures.value
    ∙ part_behind log c.args.from c.args.max start len
    (c.min-start.ensures ∙ ap (λ (n : ℕ). min c.args.from n) (c.len.ensures ∙ c.self.inside.entries.ok.0))
    (c.min-len.ensures ∙ ap (λ (n : ℕ). min c.args.max (n - start)) (c.len-2.ensures ∙ c.self.inside.entries.ok.0))
    ∙ ap (λ l. take c.args.max (drop c.args.from l.operations)) c.self.view_is)
