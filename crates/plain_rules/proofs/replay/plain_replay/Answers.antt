use Rattle.std.proofs.Common.{rules, ◌≡◌, ◌≤◌, length, ◌∙◌, ap, filter, map, take}
use Rattle.version_vector.specs.Front.{covers}
use Rattle.crdt_rules.specs.Context.{step}
use Rattle.plain_rules.specs.Plain.{is_in, context_of}
use Rattle.plain_rules.proofs.Replaying.{replay_next, replay_end}
use Rattle.plain_rules.proofs.replay.plain_replay.Goals as goal

pub loop-i-preserved : goal.loop-i-preserved
loop-i-preserved c =
    let ops = c.args.ops.now in
    let op = c.index-ops-i.result in
    let known : c.in_ok-dependencies.dependencies.items ≡ filter (covers op.front) (map (λ o. o.id) (take c.loop-i.i ops)) = search rules in
    replay_next ops c.loop-i.i op (context_of c.loop-i.context) (context_of c.in_ok-context.context) c.in_ok-dependencies.dependencies.items (search rules) c.index-ops-i.is known
    (c.in_ok-context.ensures.done ∙ ap (λ l. step (context_of c.loop-i.context) op (is_in l)) c.as_slice.ensures.value)
    ∙ c.loop-i.invariant

pub returns-clause-done : goal.returns-clause-done
returns-clause-done c =
    let within : length c.args.ops.now ≤ c.loop-i.i = search rules in
    replay_end c.args.ops.now c.loop-i.i (context_of c.loop-i.context) within c.loop-i.invariant
