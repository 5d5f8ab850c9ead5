use Rattle.std.proofs.Common.{◌≡◌, ◌<◌, ◌≤◌, ◌+◌, ◌∙◌, ◌++◌, suc, rules, refl, ap, length, map, take, drop, set, get_or, arith}
use Rattle.presence_set.specs.ById.{uncovered}
use Rattle.presence_set.proofs.BlockLaws.{mapped-next, mapped-all}
use Rattle.presence_set.proofs.blocks.retain_each.Goals as goal

pub loop-at-init : goal.loop-at-init
loop-at-init g c = refl

pub loop-at-preserved : goal.loop-at-preserved
loop-at-preserved g c =
    let front = c.args.front.now in
    let old = c.args.blocks.now.items in
    let at = c.loop-at.at in
    let d = c.index_mut-block.result.now in
    let within : at < length old = search rules in
    let is : d ≡ get_or c.loop-at.blocks.items at d = search rules in
    let one : suc at ≡ at + 1 = omega arith in
    ap (λ z. set c.loop-at.blocks.items at z) (c.retain_uncovered.ensures ∙ ap (λ z. (uncovered front z.0, z.1)) is)
    ∙ ap (λ l. set l at (uncovered front (get_or l at d).0, (get_or l at d).1)) c.loop-at.invariant
    ∙ mapped-next (λ b. (uncovered front b.0, b.1)) old at d within
    ∙ ap (λ n. map (λ b. (uncovered front b.0, b.1)) (take n old) ++ drop n old) one

pub returns : goal.returns
returns g c =
    let front = c.args.front.now in
    let old = c.args.blocks.now.items in
    let past : length old ≤ c.loop-at.at = search rules in
    c.loop-at.invariant ∙ mapped-all (λ b. (uncovered front b.0, b.1)) old c.loop-at.at past
