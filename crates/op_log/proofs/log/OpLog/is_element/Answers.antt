use Rattle.std.proofs.Common.{sym, ◌∙◌}
use Rattle.crdt_rules.proofs.GoodLogs.{ids_once}
use Rattle.op_log.proofs.Ids.{is_element-found, is_element-none}
use Rattle.op_log.proofs.log.OpLog.is_element.Goals as goal

pub returns-in-Some : goal.returns-in-Some
returns-in-Some c =
    let log = c.args.self.now.operations in
    c.inserts_at.ensures ∙ sym (is_element-found log c.args.path.now c.args.id c.in-Some.op.now (ids_once log c.get.ensures.good) (sym c.in-Some.ensures.found))

pub returns-in-None : goal.returns-in-None
returns-in-None c = sym (is_element-none c.args.self.now.operations c.args.path.now c.args.id (sym c.in-None.ensures.found))
