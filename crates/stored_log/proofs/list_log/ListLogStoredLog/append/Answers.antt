use Rattle.std.proofs.Common.{rules, ◌≡◌, ◌==◌, length, true, subst}
use Rattle.stored_log.specs.Docs.{AreGood}
use Rattle.stored_log.specs.Batch.{MayAdd}
use Rattle.stored_log.proofs.Batches.{empty_batch}
use Rattle.stored_log.proofs.list_log.ListLogStoredLog.append.Goals as goal

pub returns-then-is_empty-clause-batch : goal.returns-then-is_empty-clause-batch
returns-then-is_empty-clause-batch c =
    let is : c.may_add.result ≡ true = search rules in
    let same : c.docs.result.now ≡ c.args.self.now.kept.docs = search rules in
    let may = subst (MayAdd c.args.doc.now c.args.from c.args.entries.now) same (c.may_add.ensures.0 is) in
    let none : (length c.args.entries.now == 0) ≡ true = search rules in
    empty_batch c.args.doc.now c.args.from c.args.entries.now c.args.self.now.kept.docs may (let good : AreGood c.args.self.now.kept.docs = search rules in good) none
