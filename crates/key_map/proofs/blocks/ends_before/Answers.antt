use Rattle.std.proofs.Common.{rules, ◌≡◌, ◌<◌, ◌-◌, ◌∙◌, sym, length, get_or}
use Rattle.std.specs.Ordering.{is_lt}
use Rattle.key_map.specs.KeyOrder.{key_cmp}
use Rattle.key_map.proofs.BlockLaws.{ends_before-at}
use Rattle.key_map.proofs.blocks.ends_before.Goals as goal

pub returns : goal.returns
returns g c =
    let entries = c.args.entries.now in
    let d = c.index-entries-count.result in
    let some : 0 < length entries = search rules in
    let read : c.is_lesser_key.result ≡ is_lt (key_cmp (get_or entries (length entries - 1) d).0 c.args.key.now) = search rules in
    read ∙ sym (ends_before-at c.args.key.now entries d some)
