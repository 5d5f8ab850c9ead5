use Rattle.std.proofs.Common.{[], Contains, Option, IfSome, get_or, sym, subst}
use Rattle.op_core.specs.Op.{Op}
use Rattle.op_log.proofs.Below.{logged_below}
use Rattle.op_log.proofs.log.OpLog.logs_pair.Goals as goal

pub returns-then-has_pair : goal.returns-then-has_pair
returns-then-has_pair c =
    let log = c.args.self.now.operations in
    let found = c.has_pair.ensures c.if-has_pair.true in
    let logged = subst (λ (o : Option Op). IfSome o (λ op. Contains log op)) found.1 c.requires.logged in
    sym (logged_below log found.0 (get_or c.args.front.now c.args.at ([], 0)) c.keeps_good.ensures logged found.2)
