use Rattle.std.proofs.Common.{◌≡◌, ltb, Err, inr, refl, rules}
use Rattle.served_log.proofs.Knowing.{no_fault, no_store, same_fault}
use Rattle.stored_log.specs.declared.fault.Fault.TheVariants.{Memory}
use Rattle.served_log.proofs.side.look.Goals as goal

pub returns-in-Ok-clause-ok : goal.returns-in-Ok-clause-ok
returns-in-Ok-clause-ok g c = record { any = ltb 0 c.in-Ok.most; added = c.in-Ok.ensures.ok; epoch = c.in-Ok.ensures.works.0 }

pub returns-in-Ok-clause-known : goal.returns-in-Ok-clause-known
returns-in-Ok-clause-known g c = inr (no_fault c.in-Ok.most c.in-Ok.ensures.known)

pub returns-in-Err-Memory-clause-known : goal.returns-in-Err-Memory-clause-known
returns-in-Err-Memory-clause-known g c =
    let lacked : c.copy_each.result ≡ Err Memory = search rules in
    inr (no_store c.copy_each.result lacked c.copy_each.ensures.known)

pub returns-in-Err-clause-known : goal.returns-in-Err-clause-known
returns-in-Err-clause-known g c = same_fault (Err c.in-Err.fault) c.in-Err.fault refl c.in-Err.ensures.known

pub returns-in-Ok-clause-kept : goal.returns-in-Ok-clause-kept
returns-in-Ok-clause-kept g c = inr (no_fault c.in-Ok.most c.in-Ok.ensures.kept)

pub returns-in-Err-Memory-clause-kept : goal.returns-in-Err-Memory-clause-kept
returns-in-Err-Memory-clause-kept g c =
    let lacked : c.copy_each.result ≡ Err Memory = search rules in
    inr (no_store c.copy_each.result lacked c.copy_each.ensures.kept)

pub returns-in-Err-clause-kept : goal.returns-in-Err-clause-kept
returns-in-Err-clause-kept g c = same_fault (Err c.in-Err.fault) c.in-Err.fault refl c.in-Err.ensures.kept
