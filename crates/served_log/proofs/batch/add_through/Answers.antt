use Rattle.std.proofs.Common.{◌≡◌, Err, rules}
use Rattle.stored_log.specs.declared.fault.Fault.TheVariants.{Store}
use Rattle.served_log.proofs.Adding.{had_again}
use Rattle.served_log.proofs.Keeping.{then_ok}
use Rattle.served_log.proofs.batch.add_through.Goals as goal

pub returns-in-Err-Store-clause-some : goal.returns-in-Err-Store-clause-some
returns-in-Err-Store-clause-some g c =
    let failed : c.add_next.result ≡ Err Store = search rules in
    then_ok c.recover.result c.recover.ensures.ok (had_again c.requires.some c.requires.behind (c.add_next.ensures.shows failed c.requires.works))
