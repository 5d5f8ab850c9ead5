use Rattle.std.proofs.Common.{rules, ◌≡◌, ◌<◌, ◌+◌, ◌∙◌, [], length, get_or, set, insert, take, drop, ap}
use Rattle.key_map.specs.Blocks.{joined, but_gone, repeated}
use Rattle.key_map.proofs.Gone.{but_gone-cut}
use Rattle.key_map.proofs.blocks.block_for.Goals as goal

pub returns-clause-gone : goal.returns-clause-gone
returns-clause-gone g c =
    let gone = c.args.gone.now.items in
    let blocks = c.args.blocks.now.items in
    let at = c.block_of-at.result in
    let half = c.in-Some.half in
    let within : at < length blocks = search rules in
    let flags : c.repeat.new.gone.items ≡ repeated gone at = c.repeat.ensures ∙ ap (λ g. repeated g at) c.reserve.ensures.items in
    let cut : c.cut.new.blocks.items ≡ insert (set blocks at (take half (get_or blocks at []))) (at + 1) (drop half (get_or blocks at [])) = c.in_ok-cut.ensures.ok in
    (λ i. joined (but_gone (flags i) (cut i))) ∙ but_gone-cut gone blocks at half within
