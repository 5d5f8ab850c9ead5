use Rattle.replica_c.proofs.Telling.{tells_refusal}
use Rattle.replica_c.proofs.open.OpenReplica.answer.Goals as goal

pub returns-in-Err : goal.returns-in-Err
returns-in-Err c = λ line found.
    tells_refusal c.args.self.now.replica c.tell.new.self.replica line c.args.asked c.in-Err.cause c.tell.result
    c.tell.new.self.text.items found c.in-Err.is c.tell.ensures.replica c.tell.ensures.told
