use Rattle.std.proofs.Common.{Err, length, ap, sym, subst, arith}
use Rattle.replica_c.specs.Runs.{EndsRun}
use Rattle.replica_c.specs.declared.ask.Run.TheVariants.{Deletes}
use Rattle.replica_c.specs.declared.made.Made.{Made}
use Rattle.replica_c.proofs.Running.{deletion_stops, none_deleted, one_deleted}
use Rattle.replica_c.proofs.run.delete_all.Goals as goal

pub loop-init : goal.loop-init
loop-init c =
    let made = c.args.made.now in
    let (no_ids, no_count, no_dropped) = c.requires.none in
    record {
      deleted = none_deleted c.args.replica.now c.args.place.now c.args.count made.ids.items made.count made.dropped no_ids no_count no_dropped;
      room = omega (arith, c.requires.room, made.ids.ok.0, ap length no_ids);
      few = omega (arith, c.requires.few, no_count, no_dropped);
    }

pub returns-in-Err : goal.returns-in-Err
returns-in-Err c =
    let stopped = c.in-Err.ensures.err c.args.place.now c.clone_place.ensures in
    subst (λ (m : Made). EndsRun c.args.replica.now (Deletes c.args.place.now c.args.count) m.ids.items m.count m.dropped (Err c.in-Err.cause) c.make_one.new.replica)
    (sym stopped.1)
    (deletion_stops c.loop.counter c.loop.invariant.deleted c.make_one.new.replica c.in-Err.cause (omega (arith, c.loop-test.true)) stopped.0)

pub loop-preserved : goal.loop-preserved
loop-preserved c =
    let (many, dropped, event, ids, count_is, dropped_is) = c.in_default.ensures.ok c.args.place.now c.clone_place.ensures in
    let (few, len, room) = c.in_default.ensures.few in
    record {
      deleted = rw (ids, count_is, dropped_is) (one_deleted c.loop.counter c.loop.invariant.deleted c.make_one.new.replica many dropped c.in_default.field-0 event);
      room = omega (arith, c.loop.invariant.room, len, room);
      few = omega (arith, c.loop.invariant.few, few);
    }
