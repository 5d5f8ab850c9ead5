use Rattle.std.proofs.Common.{rules, List, Ok, Err, length, refl, ap, sym, subst, arith}
use Rattle.doc_api.specs.Words.{Op, Val}
use Rattle.doc_rules.specs.Replica.{find_id}
use Rattle.json_scalar.specs.Refusal.{UnlessMemory}
use Rattle.replica_c.specs.Runs.{EndsRun, element_place}
use Rattle.replica_c.specs.declared.ask.Run.TheVariants.{Inserts}
use Rattle.replica_c.specs.declared.made.Made.{Made}
use Rattle.replica_c.proofs.Running.{HasInserted, insertion_stops, none_inserted, one_inserted}
use Rattle.replica_c.proofs.run.insert_all.Goals as goal

pub loop-val-init : goal.loop-val-init
loop-val-init c =
    let made = c.args.made.now in
    let (no_ids, no_count, no_dropped) = c.requires.none in
    let gives = c.into_iter-val-iterator.ensures.into_iter_gives in
    record {
      inserted =
          subst (λ (rest : List Val). HasInserted c.args.replica.now c.args.place c.args.vals.items rest (Ok c.args.place) made.ids.items made.count made.dropped c.args.replica.now)
          (sym gives.0) (none_inserted c.args.replica.now c.args.place c.args.vals.items (Ok c.args.place) made.ids.items made.count made.dropped refl no_ids no_count no_dropped);
      left = search rules;
      room = omega (arith, c.requires.room, made.ids.ok.0, ap length no_ids, gives.1, c.args.vals.ok.0);
      few = omega (arith, c.requires.few, no_count, no_dropped, gives.1, c.args.vals.ok.0);
    }

pub loop-val-preserved : goal.loop-val-preserved
loop-val-preserved c =
    let at = c.loop-val in
    let steps = c.in-Some.ensures.steps in
    let so_far =
    subst (λ (rest : List Val). HasInserted c.args.replica.now c.args.place c.args.vals.items rest at.at at.made.ids.items at.made.count at.made.dropped at.replica)
    steps.0 at.invariant.inserted in
    let (many, dropped, event, ids, count_is, dropped_is) = c.in-Ok.ensures.ok so_far.place so_far.is_at in
    let (few, len, room) = c.in-Ok.ensures.few in
    let next = subst (λ (log : List Op). UnlessMemory c.behind-at.result (Ok (element_place (find_id log c.in-Ok.id)))) c.log.ensures.log c.behind-at.ensures in
    record {
      inserted = rw (ids, count_is, dropped_is) (one_inserted so_far c.make_one.new.replica many dropped c.in-Ok.id c.behind-at.result event next);
      left = omega (arith, at.invariant.left, ap length steps.0, steps.1);
      room = omega (arith, at.invariant.room, len, room, steps.1);
      few = omega (arith, at.invariant.few, few, steps.1);
    }

pub returns-in-Err : goal.returns-in-Err
returns-in-Err c =
    let at = c.loop-val in
    let so_far =
    subst (λ (rest : List Val). HasInserted c.args.replica.now c.args.place c.args.vals.items rest at.at at.made.ids.items at.made.count at.made.dropped at.replica)
    c.in-Some.ensures.steps.0 at.invariant.inserted in
    let stopped = c.in-Err.ensures.err so_far.place so_far.is_at in
    subst (λ (m : Made). EndsRun c.args.replica.now (Inserts c.args.place c.args.vals.items) m.ids.items m.count m.dropped (Err c.in-Err.cause) c.make_one.new.replica)
    (sym stopped.1) (insertion_stops so_far c.make_one.new.replica c.in-Err.cause stopped.0)
