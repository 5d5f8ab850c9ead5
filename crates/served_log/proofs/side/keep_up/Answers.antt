use Rattle.std.proofs.Common.{◌∙◌, refl, false, inr, Err}
use Rattle.served_log.specs.Batches.AreAdded.{none}
use Rattle.served_log.proofs.Adding.{grows_all, grows_until}
use Rattle.served_log.proofs.Knowing.{no_fault, same_fault, stays_known, stays_until, then_until}
use Rattle.served_log.proofs.side.keep_up.Goals as goal

pub loop-init : goal.loop-init
loop-init g c = record { waits = (tt, tt); grown = record { any = false; added = none; epoch = refl }; known = λ differ known. known; kept = λ kept. kept; works = λ h. h; alone = refl }

pub loop-preserved : goal.loop-preserved
loop-preserved g c =
    let now = c.in-Ok.ensures in
    let before = c.loop.invariant in record {
      waits = (tt, tt);
      grown = grows_all before.grown now.ok;
      known = stays_known _ _ _ _ _ _ _ before.known (no_fault _ now.known);
      kept = λ kept. no_fault _ now.kept (before.kept kept);
      works = λ h. now.works (before.works h);
      alone = now.alone ∙ before.alone;
    }

pub returns-in-Err-clause-ok : goal.returns-in-Err-clause-ok
returns-in-Err-clause-ok g c = tt

pub returns-in-Err-clause-works : goal.returns-in-Err-clause-works
returns-in-Err-clause-works g c = tt

pub returns-in-Err-clause-err : goal.returns-in-Err-clause-err
returns-in-Err-clause-err g c = grows_until c.loop.invariant.grown c.in-Err.ensures.err

pub returns-in-None-wait_after-clause-ok : goal.returns-in-None-wait_after-clause-ok
returns-in-None-wait_after-clause-ok g c = grows_all c.loop.invariant.grown c.in-Ok.ensures.ok

pub returns-in-Err-clause-known : goal.returns-in-Err-clause-known
returns-in-Err-clause-known g c = stays_until _ _ _ _ _ _ _ c.loop.invariant.known (same_fault (Err c.in-Err.fault) c.in-Err.fault refl c.in-Err.ensures.known)

pub returns-in-None-wait_after-clause-known : goal.returns-in-None-wait_after-clause-known
returns-in-None-wait_after-clause-known g c = inr (stays_known _ _ _ _ _ _ _ c.loop.invariant.known (no_fault _ c.in-Ok.ensures.known))

pub returns-in-Err-clause-kept : goal.returns-in-Err-clause-kept
returns-in-Err-clause-kept g c = then_until c.loop.invariant.kept (same_fault (Err c.in-Err.fault) c.in-Err.fault refl c.in-Err.ensures.kept)

pub returns-in-None-wait_after-clause-kept : goal.returns-in-None-wait_after-clause-kept
returns-in-None-wait_after-clause-kept g c = inr (λ kept. no_fault _ c.in-Ok.ensures.kept (c.loop.invariant.kept kept))
